-- The object graph so far, by the records of an output alone: which objects live, whose entries run, and the lowest object of each open.
use Rattle.std.specs.Prelude.{ℕ, ◌==◌, ◌||◌, Bool, false, not, List, [], ◌∷◌, filter, fold, Option, Some, None, if◌then◌else◌}
use Rattle.nb_terms.specs.declared.event.Event.{Event as GraphRecord}
use Rattle.nb_defs.specs.Records.{Out, step, sent, text, command, result, script, opened, tried, advanced, ended, graph, part, done}

-- What is known of the graph after some records: the number of the last STEP; the objects that live, the one made last first; those whose
-- entries run, the innermost first; and the lowest object of each open, of those that lived at its OPEN the one that was made last.
pub record GraphSoFar : Type 0 where
  pub number : ℕ
  pub living : List ℕ
  pub running : List ℕ
  pub lowest : ℕ → Option ℕ

abbrev pub no_graph : GraphSoFar
no_graph = record { number = 0; living = []; running = []; lowest = λ _. None }

abbrev pub first_in : List ℕ → Option ℕ
first_in [] = None
first_in (x ∷ xs) = Some x

abbrev pub without_first : List ℕ → List ℕ
without_first [] = []
without_first (x ∷ xs) = xs

-- 1 Made, 5 Entered, 6 Left, 10 Freed; the others change nothing of it
abbrev pub graph_moves : GraphSoFar → GraphRecord → GraphSoFar
graph_moves g happens =
    if happens.event == 1 then record g { living = happens.object ∷ g.living }
    else if happens.event == 5 then record g { running = happens.object ∷ g.running }
    else if happens.event == 6 then record g { running = without_first g.running }
    else if happens.event == 10 then record g { living = filter (λ x. not (x == happens.object)) g.living }
    else g

abbrev pub graph_by : GraphSoFar → Out → GraphSoFar
graph_by g (graph happens) = graph_moves g happens
graph_by g (step number) = record g { number = number }
graph_by g (opened number kind server port own target) = record g { lowest = λ k. if number == k then first_in g.living else g.lowest k }
graph_by g (sent bytes) = g
graph_by g (text bytes) = g
graph_by g (command depth line place expanded words) = g
graph_by g (result cause) = g
graph_by g (script what depth cause) = g
graph_by g (tried number count) = g
graph_by g (advanced number place) = g
graph_by g (ended number cause) = g
graph_by g (part kind index offset bytes) = g
graph_by g (done status) = g

unfoldable pub graph_so_far : List Out → GraphSoFar
graph_so_far outs = fold graph_by no_graph outs

abbrev pub is_it : Option ℕ → ℕ → Bool
is_it None x = false
is_it (Some y) x = y == x

-- a way from outside: a message from below (0), or a time (3)
abbrev pub is_from_outside : ℕ → Bool
is_from_outside way = (way == 0) || (way == 3)

-- What the records of the object graph say of the contents of entries, for objects of any kind and chains of any length: what enters the
-- lowest object of an open, and within which entry a record stands. Our own.
use Rattle.std.specs.Prelude.{◌≡◌, ℕ, ◌==◌, ◌&&◌, List, [], ◌∷◌, ◌++◌, Some, if◌then◌else◌}
use Rattle.nb_terms.specs.declared.event.Event.{Event as GraphRecord}
use Rattle.nb_defs.specs.Records.{Out, step, graph}
use Rattle.nb_ledger.specs.Flat.{way_number}
use Rattle.nb_traced.specs.LowestObjects.{GraphSoFar, no_graph, graph_by, graph_so_far, is_it, is_from_outside}
use Rattle.nb_traced.specs.Outputs.{Arrived}

-- something that comes to an open, or enters an object: in the step of this number, and as a message from below (0) or a time (3)
pub record EntryArrival : Type 0 where
  pub number : ℕ
  pub way : ℕ

-- an Entered event (5) of that object, with its way in the second slot
abbrev pub entry_in : ℕ → GraphSoFar → GraphRecord → List EntryArrival
entry_in k g happens =
    if (happens.event == 5) && (is_it (g.lowest k) happens.object && is_from_outside happens.other_slot) then record { number = g.number; way = happens.other_slot } ∷ [] else []

abbrev pub entry_at : ℕ → GraphSoFar → Out → List EntryArrival
entry_at k g (graph happens) = entry_in k g happens
entry_at k g (step number) = []
entry_at k g _ = []

unfoldable pub entries_from : ℕ → GraphSoFar → List Out → List EntryArrival
entries_from k g [] = []
entries_from k g (o ∷ outs) = entry_at k g o ++ entries_from k (graph_by g o) outs

-- the entries of the lowest object of open k from outside, each in its step
abbrev pub entries : ℕ → List Out → List EntryArrival
entries k outs = entries_from k no_graph outs

-- what came to open k from outside
abbrev pub came_to : ℕ → List Arrived → List EntryArrival
came_to k [] = []
came_to k (a ∷ came) = (if a.whose == k then record { number = a.number; way = way_number a.way } ∷ [] else []) ++ came_to k came

-- the entry that runs, as the innermost, is one of the lowest object of open k
pub record RunsInEntry (k : ℕ) (outs : List Out) : Type 0 where
  pub object : ℕ
  pub outer : List ℕ
  pub is_lowest : (graph_so_far outs).lowest k ≡ Some object
  pub runs : (graph_so_far outs).running ≡ object ∷ outer

-- no entry runs
abbrev pub IsOutside : List Out → Type 0
IsOutside outs = (graph_so_far outs).running ≡ []

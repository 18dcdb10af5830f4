-- The records of an output that aren't of the graph.
use Rattle.std.proofs.Common.{◌≡◌, List, [], ◌∷◌, ◌++◌, refl, ◌∙◌, ap}
use Rattle.std.specs.Prelude.{not}
use Rattle.std.proofs.lemmas.List.Elements.{filter-append}
use Rattle.nb_defs.specs.Records.{Out, step, sent, text, command, result, script, opened, tried, advanced, ended, graph, part, done}
use Rattle.nb_ledger.specs.declared.event.GraphEvent.{GraphEvent}
use Rattle.nb_traced.specs.Pieces.{event_records}
use Rattle.nb_traced.specs.Plain.{is_graph, without_graph}
use Rattle.nb_traced.proofs.RecordLemmas.{AreAside}

pub plain_append : (xs ys : List Out) → without_graph (xs ++ ys) ≡ without_graph xs ++ without_graph ys
plain_append xs ys = filter-append (λ o. not (is_graph o)) xs ys

plain_events : (es : List GraphEvent) → without_graph (event_records es) ≡ []
plain_events [] = refl
plain_events (e ∷ es) = plain_events es

-- records of the graph before others
pub plain_behind : (es : List GraphEvent) (outs : List Out) → without_graph (event_records es ++ outs) ≡ without_graph outs
plain_behind es outs = plain_append (event_records es) outs ∙ ap (λ t. t ++ without_graph outs) (plain_events es)

-- records that say nothing of the graph
pub plain_aside : (outs : List Out) → AreAside outs → without_graph outs ≡ outs
plain_aside [] h = refl
plain_aside (graph happens ∷ outs) h = absurd h.0
plain_aside (opened number kind server port own target ∷ outs) h = absurd h.0
plain_aside (ended number cause ∷ outs) h = absurd h.0
plain_aside (step number ∷ outs) h = ap (λ t. step number ∷ t) (plain_aside outs h.1)
plain_aside (sent bytes ∷ outs) h = ap (λ t. sent bytes ∷ t) (plain_aside outs h.1)
plain_aside (text bytes ∷ outs) h = ap (λ t. text bytes ∷ t) (plain_aside outs h.1)
plain_aside (command depth line place expanded words ∷ outs) h = ap (λ t. command depth line place expanded words ∷ t) (plain_aside outs h.1)
plain_aside (result cause ∷ outs) h = ap (λ t. result cause ∷ t) (plain_aside outs h.1)
plain_aside (script what depth cause ∷ outs) h = ap (λ t. script what depth cause ∷ t) (plain_aside outs h.1)
plain_aside (tried number count ∷ outs) h = ap (λ t. tried number count ∷ t) (plain_aside outs h.1)
plain_aside (advanced number place ∷ outs) h = ap (λ t. advanced number place ∷ t) (plain_aside outs h.1)
plain_aside (part kind index offset bytes ∷ outs) h = ap (λ t. part kind index offset bytes ∷ t) (plain_aside outs h.1)
plain_aside (done status ∷ outs) h = ap (λ t. done status ∷ t) (plain_aside outs h.1)

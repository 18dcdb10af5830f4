-- Two pings that live at once, as a worked output: the first is begun, then the second, the first receives a message and sends one, and
-- the second ends while the first goes on.
use Rattle.std.specs.Prelude.{ℕ, false, List, [], ◌∷◌, ◌++◌}
use Rattle.nb_terms.specs.declared.cause.Cause.{Cause}
use Rattle.nb_defs.specs.Records.{Out, step, sent, command, opened, tried, ended}
use Rattle.nb_ledger.specs.declared.event.Way.TheVariants.{Up, Down}
use Rattle.nb_ledger.specs.declared.event.GraphEvent.{GraphEvent}
use Rattle.nb_ledger.specs.declared.event.GraphEvent.TheVariants.{Made, Held, LetGo, Entered, Left, Closed, Freed}
use Rattle.nb_graph.specs.Whole.{port_at}
use Rattle.nb_traced.specs.Pieces.{event_records}
use Rattle.nb_traced.specs.Outputs.{Arrived}

abbrev pub ping_made : ℕ → List GraphEvent
ping_made x = Made (record { 0 = x }) 7 ∷ Held (record { 0 = x }) ∷ []

abbrev pub example_ping_asks : ℕ → List Out
example_ping_asks k = tried k 1 ∷ sent [] ∷ []

-- a COMMAND, the object x, the OPEN of number k, and what it sends first
abbrev pub ping_begins : ℕ → ℕ → List Out
ping_begins k x =
    (command 0 1 0 false [] ∷ []) ++ (event_records (ping_made x) ++ ((opened k 6 0 0 0 [] ∷ []) ++ (event_records (Entered (port_at x 0) Down ∷ []) ++ (example_ping_asks k ++ event_records (Left (port_at x 0) ∷ [])))))

abbrev pub ping_goes_on : ℕ → ℕ → ℕ → List Out
ping_goes_on n k x = (step n ∷ []) ++ (event_records (Entered (port_at x 1) Up ∷ []) ++ (example_ping_asks k ++ event_records (Left (port_at x 1) ∷ [])))

abbrev pub ping_ends : ℕ → Cause → List GraphEvent
ping_ends x cause =
    Entered (port_at x 1) Up ∷ Closed (port_at x 0) cause ∷ Closed (port_at x 1) cause ∷ Left (port_at x 1) ∷ LetGo (record { 0 = x }) ∷ Freed (record { 0 = x }) ∷ []

-- both live
abbrev pub two_pings : List Out
two_pings = (ping_begins 0 1 ++ ping_begins 1 2) ++ ping_goes_on 1 0 1

-- the second has ended
abbrev pub one_ends : Cause → List Out
one_ends cause = two_pings ++ ((step 2 ∷ []) ++ (event_records (ping_ends 2 cause) ++ (ended 1 cause ∷ [])))

-- what came to them
abbrev pub came_to_two : List Arrived
came_to_two = record { whose = 0; way = Up; number = 1 } ∷ []

abbrev pub came_to_both : List Arrived
came_to_both = came_to_two ++ (record { whose = 1; way = Up; number = 2 } ∷ [])

-- How the records used and all those written, the graph's among them, follow the machine, and what came to its opens.
use Rattle.std.specs.Prelude.{List, [], ◌∷◌, ◌++◌}
use Rattle.nb_defs.specs.Records.{In, Out}
use Rattle.nb_traced.specs.Plain.{without_graph}
use Rattle.nb_machine.specs.Courses.{Standing, ready, running, waiting, reaching, yielded, handing, left, handed_off, stopped, Progress, nowhere, StepBegins}
use Rattle.nb_traced.specs.Entries.{IsOutside}
use Rattle.nb_traced.specs.Outputs.{Arrived}
use Rattle.nb_client.specs.Progressing.{BeginsStep, ProceedsTo}

-- a step has begun, and isn't over; a script that was left within another moves that
abbrev pub StepGoesOn : Standing → Type 0
StepGoesOn ready = ⊥
StepGoesOn (running s inner outer) = Unit {0}
StepGoesOn (waiting s w) = ⊥
StepGoesOn (reaching s inner outer next) = Unit {0}
StepGoesOn (yielded s inner outer) = ⊥
StepGoesOn (handing s rest) = Unit {0}
StepGoesOn (left s [] cause) = ⊥
StepGoesOn (left s (inner ∷ outer) cause) = Unit {0}
StepGoesOn (handed_off s) = ⊥
StepGoesOn (stopped s) = ⊥

-- They have led the machine here: record after record, each of which begins its step where no entry runs, and brings these to the
-- opens; and by moves in a step that isn't over, which bring nothing.
pub data FollowsMachine : List In → List Out → Progress → List Arrived → Type 0 where
  nothing : FollowsMachine [] [] nowhere []
  uses : (ins : List In) (outs : List Out) (p : Progress) (so_far : List Arrived) (r : In) (added : List Out) (p' : Progress) (came : List Arrived) →
      FollowsMachine ins outs p so_far → IsOutside outs → StepBegins p r (without_graph added) p' → BeginsStep (r ∷ []) p added came → FollowsMachine (ins ++ r ∷ []) (outs ++ added) p' (so_far ++ came)
  goes_on : (ins : List In) (outs : List Out) (p : Progress) (so_far : List Arrived) (added : List Out) (p' : Progress) →
      FollowsMachine ins outs p so_far → StepGoesOn p.standing → ProceedsTo p (without_graph added) p' → FollowsMachine ins (outs ++ added) p' so_far

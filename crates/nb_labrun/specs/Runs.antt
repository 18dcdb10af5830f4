-- A run in a lab: the records used are those that come from its servers, as they stand by the frames that the client has sent.
use Rattle.std.specs.Prelude.{ℕ, ◌+◌, List, [], ◌∷◌, ◌++◌, length}
use Rattle.nb_defs.specs.Records.{In, start, Out, step}
use Rattle.nb_lab.specs.Scripts.{lab_start}
use Rattle.nb_lab.specs.Labs.{LabState, new_lab, next_record, after_next}
use Rattle.nb_labrun.specs.Delivering.{DeliversRecord}

-- The records used, those put so far, and the lab then. START comes first; each later record is the next one that comes from the
-- lab, a FRAME where one is waiting, else a TICK of 250; and before it comes all that was put before its STEP was delivered.
pub data InLab (images : ℕ) : List In → List Out → LabState → Type 0 where
  starts : InLab images (start (lab_start images) ∷ []) (step 1 ∷ []) (new_lab images)
  comes : (ins : List In) (outs : List Out) (l : LabState) → InLab images ins outs l →
      InLab images (ins ++ next_record l.transit.waiting ∷ []) (outs ++ step (length ins + 1) ∷ []) (after_next l l.transit.waiting)
  puts : (ins : List In) (outs : List Out) (l l' : LabState) (o : Out) → InLab images ins outs l → DeliversRecord l o l' →
      InLab images ins (outs ++ o ∷ []) l'

-- With no fault and memory enough, a run ends as the machine does.
use Rattle.std.specs.Prelude.{◌≡◌, ℕ, ◌<◌, List, [], ◌∷◌, length, Some, IsSome}
use Rattle.nb_defs.specs.Records.{Start, In, start, IsIn, in_texts}
use Rattle.nb_record.specs.Outside.{Outside, Rose}
use Rattle.nb_boot.specs.Shown.{IsOther}
use Rattle.nb_runner.specs.declared.status.Status.{Status}
use Rattle.nb_runner.specs.declared.status.Status.TheVariants as status

-- the words were invalid
abbrev pub IsBadWords : Status → Type 0
IsBadWords s = s ≡ status.BadWords

-- no count of faults rose
pub record NoneRose (before after : Outside) : Type 0 where
  pub attach : Rose before.attach_faults after.attach_faults → ⊥
  pub read : Rose before.read_faults after.read_faults → ⊥
  pub write : Rose before.write_faults after.write_faults → ⊥

-- records with a spelling, none of them a START
abbrev pub AreNoStarts : List In → Type 0
AreNoStarts [] = Unit {0}
AreNoStarts (r ∷ rs) = IsIn r × IsOther r × AreNoStarts rs

-- The script handed off, was left, or did not come to its end; or there are more records than numbers for
-- them. What the script did, the run shows by the machine's path.
abbrev pub IsMachines : Status → (count : ℕ) → Type 0
IsMachines status.HandedOff count = Unit {0}
IsMachines status.Ended count = Unit {0}
IsMachines status.ScriptFailed count = Unit {0}
IsMachines status.Unfinished count = Unit {0}
IsMachines status.TooManyRecords count = 4294967295 < count
IsMachines status.BadWords count = ⊥
IsMachines status.BadRecord count = ⊥
IsMachines status.ReadFault count = ⊥
IsMachines status.WriteFault count = ⊥
IsMachines status.NoMemory count = ⊥
IsMachines status.AttachFault count = ⊥

-- where the whole input is the spelling of a START and other records, the line tells what is left, no count
-- rose and memory sufficed, the status is one of these
abbrev pub Completes : Status → Outside → Outside → Type 0
Completes result before after = (s : Start) (others : List In) → IsIn (start s) → AreNoStarts others →
    before.left ≡ Some (in_texts (start s ∷ others)) → IsSome after.left → NoneRose before after → (result ≡ status.NoMemory → ⊥) →
    IsMachines result (length (start s ∷ others))

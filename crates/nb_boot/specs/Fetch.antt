-- What a read brings to the feed.
use Rattle.std.specs.Prelude.{◌≡◌, ℕ, ◌<◌, Bool, true, false, List, [], ◌++◌, length}
use Rattle.nb_defs.specs.Records.{IsPartial}
use Rattle.nb_record.specs.Outside.{Outside, Passes, Rose, IsAtEnd}
use Rattle.nb_record.specs.Bytes.{Held}
use Rattle.nb_boot.specs.declared.feeding.Fetched.{Fetched}
use Rattle.nb_boot.specs.declared.feeding.Fetched.TheVariants as fetched

-- more bytes were read, and are held after the others
pub record BringsBytes (old new : Held) (before now : Outside) : Type 0 where
  pub bytes : List ℕ
  pub held : new.bytes ≡ old.bytes ++ bytes
  pub some : 0 < length bytes
  pub passes : Passes before now bytes []

abbrev pub Fetches : Fetched → Held → Held → Outside → Outside → Type 0
Fetches fetched.More old new before now = BringsBytes old new before now
Fetches fetched.Ended old new before now = (new ≡ old) × Passes before now [] [] × IsAtEnd now
Fetches fetched.Fault old new before now = (new ≡ old) × Passes before now [] [] × Rose before.read_faults now.read_faults

-- what is held is a prefix of a longer record, or isn't
abbrev pub TellsPartial : Bool → List ℕ → Type 0
TellsPartial true bytes = IsPartial bytes
TellsPartial false bytes = IsPartial bytes → ⊥

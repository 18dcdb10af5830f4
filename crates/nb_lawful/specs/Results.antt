-- Why a command has its result, and each COMMAND, RESULT and OPEN its place.
use Rattle.std.specs.Prelude.{◌≡◌, ℕ, ◌-◌, List, Option, Some, None, IsSome, true, false}
use Rattle.std.specs.List.{list_any}
use Rattle.nb_drivecmd.specs.HookedDrives.{is_drive}
use Rattle.nb_terms.specs.declared.cause.Cause.{Cause}
use Rattle.nb_defs.specs.Causes.{ok}
use Rattle.nb_defs.specs.Records.{step, sent, text, command, result, script, opened, tried, advanced, ended, graph, part, done}
use Rattle.nb_laws.specs.Events.{Event, starts, hears, waits, stops, puts}
use Rattle.nb_laws.specs.Lists.{made}
use Rattle.nb_laws.specs.CommandsSoFar.{so_far}
use Rattle.nb_laws.specs.Frames.{HoldsOf, BeginsCommand, ScriptStands}
use Rattle.nb_laws.specs.CommandOpens.{CommandOpen, command_open}
use Rattle.nb_laws.specs.Hookings.{hooked_drives, HasDriveAnswer, KeepsDisk, BootsDisk, BootsBy, HasRead}
use Rattle.nb_laws.specs.Openings.{OpensFor}

-- a command has made no open, or its last one has ended
abbrev pub HasEndedOpens : Option CommandOpen → Type 0
HasEndedOpens None = Unit {0}
HasEndedOpens (Some o) = (cause : Cause) × (o.over ≡ Some cause)

-- SCRIPT: where a script is entered, the opens of the command that runs it have ended; those of earlier commands may live
pub record ScriptComes (es : List Event) (what depth : ℕ) (cause : Cause) : Type 0 where
  pub stands : ScriptStands es what depth cause
  pub ended : what ≡ 0 → HasEndedOpens (command_open es)

-- A RESULT is that of a command that has none yet; opens of earlier commands may live. Where the disk that it hooks has answered, which it keeps, or
-- it has read the first block of the disk that it boots, it is Ok, and no drive of the number of a disk that it hooks is hooked any more.
pub record ResultStands (es : List Event) (cause : Cause) : Type 0 where
  pub is_open : (so_far es).is_open ≡ true
  pub holds : HoldsOf (so_far es).left es cause
  pub hooks : (so_far es).left ≡ None → IsSome (command_open es) → (h : KeepsDisk es) → HasDriveAnswer es → (cause ≡ ok) × (list_any (is_drive h.hooking.number) (hooked_drives es) ≡ false)
  pub reads : (so_far es).left ≡ None → (k : ℕ) (bytes : List ℕ) → BootsBy k es → HasRead k es bytes → cause ≡ ok
  pub frees : (so_far es).left ≡ None → IsSome (command_open es) → (h : BootsDisk es) (bytes : List ℕ) → HasRead (made es - 1) es bytes → list_any (is_drive h.hooking.number) (hooked_drives es) ≡ false

-- An OPEN has the next number, stands while the command that began last has no result, and is for what the words of that command ask:
-- the command makes its first open, or the one before it has ended. Opens of earlier commands may live.
pub record OpenStands (es : List Event) (number kind server port own : ℕ) (target : List ℕ) : Type 0 where
  pub next : number ≡ made es
  pub is_open : (so_far es).is_open ≡ true
  pub none_left : (so_far es).left ≡ None
  pub is_for : OpensFor es number kind server port own target

-- Each COMMAND, each RESULT and each OPEN has its reason in the records so far; fewer than 4,096 COMMANDs stand in its step before each,
-- and between two of them one RESULT. No STEP stands but for a record that is used, and DONE nowhere but at the end of an output that is closed.
abbrev pub CommandsSo : List Event → Event → Type 0
CommandsSo before (puts (command depth line place expanded words)) = BeginsCommand before expanded words
CommandsSo before (puts (result cause)) = ResultStands before cause
CommandsSo before (puts (opened number kind server port own target)) = OpenStands before number kind server port own target
CommandsSo before (puts (done status)) = ⊥
CommandsSo before (puts (step number)) = ⊥
CommandsSo before (puts (sent bytes)) = Unit {0}
CommandsSo before (puts (text bytes)) = Unit {0}
CommandsSo before (puts (script what depth cause)) = ScriptComes before what depth cause
CommandsSo before (puts (tried number count)) = Unit {0}
CommandsSo before (puts (advanced number place)) = Unit {0}
CommandsSo before (puts (ended number cause)) = Unit {0}
CommandsSo before (puts (graph happens)) = Unit {0}
CommandsSo before (puts (part kind index offset bytes)) = Unit {0}
CommandsSo before (starts n s) = Unit {0}
CommandsSo before (hears n bytes m) = Unit {0}
CommandsSo before (waits n ms) = Unit {0}
CommandsSo before (stops n) = Unit {0}

-- How far a run is at each event: which record is used, whether what an open asks for has come, and what ADVANCE tells.
use Rattle.std.specs.Prelude.{◌≡◌, ℕ, ◌+◌, ◌*◌, ◌<◌, true, false, List, [], ◌∷◌, length, Some, None}
use Rattle.nb_defs.specs.Records.{step, advanced}
use Rattle.nb_machine.specs.Effects.{sleeps}
use Rattle.nb_laws.specs.CommandOpens.{command_open}
use Rattle.nb_laws.specs.CommandsSoFar.{so_far, ComesTo}
use Rattle.nb_laws.specs.Hookings.{NoneIsHooked, BootsBy}
use Rattle.nb_laws.specs.Events.{Event, starts, hears, waits, stops, puts, inputs}
use Rattle.nb_laws.specs.Lists.{Opening, live, fetches, file_blocks, last_place, made, commands_begun}
use Rattle.nb_laws.specs.Drives.{session_place}
use Rattle.nb_laws.specs.Webs.{stream_place}
use Rattle.nb_laws.specs.Cores.{has_its_answer}

-- What no live open asks for has come, and no file is whole: an open ends in the step in which it comes.
abbrev pub NoneIsAnswered : List Event → Type 0
NoneIsAnswered es = (k : ℕ) (o : Opening) → live k es ≡ o ∷ [] → has_its_answer k o es ≡ false

-- how far open k has come: by TFTP the number of its file's last block, by HTTP and of a drive the end of what has come of its stream; 0 of any
-- other
abbrev pub file_place : ℕ → List Event → ℕ
file_place k es = file_blocks k es + stream_place k es + session_place k es

-- each open's last ADVANCE has the place to which it has come; one that has neither file nor stream has no ADVANCE
abbrev pub IsAdvanced : List Event → Type 0
IsAdvanced es = (k : ℕ) → last_place k es ≡ file_place k es

-- a command that sleeps has its result once its time has come
abbrev pub NoneOversleeps : List Event → Type 0
NoneOversleeps es = (seconds : ℕ) → (so_far es).is_open ≡ true → ComesTo es (made es) (sleeps seconds) → (so_far es).now < (so_far es).since + 1000 * seconds

-- a record is used: its STEP has its place among the records used, what no live open asks for has come, no disk that a command hooks or boots
-- has answered so, and no sleep is over
pub record IsStep (before : List Event) (number : ℕ) : Type 0 where
  pub counted : number ≡ length (inputs before) + 1
  pub unfinished : NoneIsAnswered before
  pub unhooked : NoneIsHooked before
  pub rested : NoneOversleeps before

-- why a record other than START may be used
pub data IsResumed (before : List Event) : Type 0 where
  -- an open of a command that has no result yet lives
  by_live : (k : ℕ) (o : Opening) → live k before ≡ o ∷ [] → (so_far before).is_open ≡ true → command_open before ≡ Some (record { number = k; over = None }) → IsResumed before
  -- a command boots a hooked drive, whose open lives, and hasn't read its block
  by_reading : (k : ℕ) (o : Opening) → live k before ≡ o ∷ [] → (so_far before).is_open ≡ true → BootsBy k before → IsResumed before
  -- the step before had all the commands that it may have, and the last one's result
  by_count : commands_begun before ≡ 4096 → (so_far before).is_open ≡ false → IsResumed before
  -- a command sleeps
  by_sleep : (seconds : ℕ) → (so_far before).is_open ≡ true → ComesTo before (made before) (sleeps seconds) → IsResumed before

-- START is used first; each other record while an open of a command, or of the drive that it boots, lives or a command sleeps, or where the step before had 4,096 COMMANDs, each with
-- its RESULT
abbrev pub StepsSo : List Event → Event → Type 0
StepsSo before (starts n s) = IsStep before n × (before ≡ [])
StepsSo before (hears n bytes m) = IsStep before n × IsResumed before
StepsSo before (waits n ms) = IsStep before n × IsResumed before
StepsSo before (stops n) = IsStep before n × IsResumed before
StepsSo before (puts o) = Unit {0}

-- further than the last ADVANCE; by TFTP it is the next block
pub record IsFurther (k : ℕ) (before : List Event) (n : ℕ) : Type 0 where
  pub grown : last_place k before < n
  pub next_block : fetches k before ≡ true → n ≡ last_place k before + 1

-- An ADVANCE stands where its open's file has grown by a block, with that block's number, or where its stream has grown, with its end. Before
-- any other record, used or written, each open's last ADVANCE has the place to which its file has come: so none is missing, and none stands
-- late.
abbrev pub AdvancesSo : List Event → Event → Type 0
AdvancesSo before (puts (advanced k n)) = (n ≡ file_place k before) × IsFurther k before n
AdvancesSo before (puts (step number)) = IsAdvanced before
AdvancesSo before _ = IsAdvanced before

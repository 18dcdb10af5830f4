-- A run of the client, from which what the top call shows is known: records used, records written, and what its status says of them.
use Rattle.std.specs.Prelude.{◌≡◌, ℕ, ◌<◌, ◌≤◌, ◌⊎◌, List, [], ◌∷◌, ◌++◌, length}
use Rattle.nb_defs.specs.Records.{In, in_texts, IsPartial, Out, out_texts, done}
use Rattle.nb_traced.specs.Plain.{without_graph}
use Rattle.nb_record.specs.Outside.{Outside, Passes, Rose}
use Rattle.nb_runner.specs.declared.status.Status.{Status}
use Rattle.nb_runner.specs.declared.status.Status.TheVariants as status
use Rattle.nb_machine.specs.Courses.{Progress}
use Rattle.nb_machine.specs.Closings.{Shuts}
use Rattle.nb_traced.specs.Holdings.{Holdings}
use Rattle.nb_traced.specs.Outputs.{Arrived, Traced}
use Rattle.nb_client.specs.Progressing.{ShutsStanding}
use Rattle.nb_boot.specs.InTurn.{MayGoOn, AreInTurn}
use Rattle.nb_boot.specs.Following.{FollowsMachine}
use Rattle.nb_boot.specs.Shown.{EndsWhere, ClosedBy}

-- The records used are those that the bytes read spell, up to a rest; they and those written follow the machine, and the
-- graph is traced in the output, without and with what closes it; the bytes taken are a prefix of the spelling of all.
pub record Run (before after : Outside) : Type 0 where
  pub ins : List In
  pub outs : List Out
  pub progress : Progress
  pub came : List Arrived
  pub rest : List ℕ
  pub closing : List Out
  pub read : List ℕ
  pub written : List ℕ
  pub lost : List ℕ
  pub passes : Passes before after read written
  pub spelled : read ≡ in_texts ins ++ rest
  pub follows : FollowsMachine ins outs progress came
  pub closed : ClosedBy progress rest after (without_graph closing)
  -- records of the graph alone close nothing
  pub alone : without_graph closing ≡ [] → closing ≡ []
  pub holdings : Holdings
  pub traced : Traced outs holdings came
  pub at_end : Holdings
  pub traced_all : Traced (outs ++ closing) at_end came
  pub texts : out_texts (outs ++ closing) ≡ written ++ lost
  -- each record used has a number of 32 bits
  pub few : length ins ≤ 4294967295
  -- what closes them begins with the graph's end, where an open lives
  pub shuts : (closing ≡ []) ⊎ ShutsStanding progress.standing closing
  -- all output was taken before more was read
  pub in_turn : AreInTurn before after ins outs

-- the run is over, for a cause of this number, and all was taken, DONE last; no open lives then, and nothing waits for one
pub record IsOver (before after : Outside) (r : Run before after) (number : ℕ) : Type 0 where
  pub ends : EndsWhere r.progress r.rest after number
  pub put : List Out
  pub shuts : Shuts r.progress.standing put
  pub closing : without_graph r.closing ≡ put ++ done number ∷ []
  pub front : List Out
  pub last : r.closing ≡ front ++ done number ∷ []
  pub none_live : r.at_end.living ≡ []
  pub none_wait : r.at_end.waits ≡ []
  pub all : r.lost ≡ []

-- a read failed between two steps: every whole record read was used, and their whole output was taken
pub record IsUnread (before after : Outside) (r : Run before after) : Type 0 where
  pub between : MayGoOn r.progress.standing
  pub partial : IsPartial r.rest
  pub closing : r.closing ≡ []
  pub all : r.lost ≡ []
  pub rose : Rose before.read_faults after.read_faults

-- memory ran out: nothing closes the output, or some of it is missing
abbrev pub IsUnclosed : (before after : Outside) → Run before after → Type 0
IsUnclosed before after r = (r.closing ≡ []) ⊎ (0 < length r.lost)

-- What a status says of a run. The output ends with DONE, and is whole, where `IsOver` stands; for no other status.
abbrev pub Says : Status → (before after : Outside) → Run before after → Type 0
Says status.HandedOff before after r = IsOver before after r 0
Says status.Ended before after r = IsOver before after r 3
Says status.ScriptFailed before after r = IsOver before after r 4
Says status.Unfinished before after r = IsOver before after r 5
Says status.BadRecord before after r = IsOver before after r 6
Says status.TooManyRecords before after r = IsOver before after r 11
Says status.ReadFault before after r = IsUnread before after r
Says status.WriteFault before after r = Rose before.write_faults after.write_faults × (0 < length r.lost)
Says status.NoMemory before after r = IsUnclosed before after r
Says status.AttachFault before after r = (r.read ≡ []) × (r.written ≡ []) × (r.closing ≡ []) × Rose before.attach_faults after.attach_faults
Says status.BadWords before after r = ⊥

-- a call shows a run of which its status is true
abbrev pub Shows : Status → Outside → Outside → Type 0
Shows s before after = (r : Run before after) × Says s before after r

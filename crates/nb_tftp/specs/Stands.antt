-- What a transfer stands for: all the calls since its start
use Rattle.std.specs.Prelude.{◌≡◌, ◌≤◌, ℕ, suc, ◌==◌, ◌&&◌, Bool, true, false, List, length, Option, Some, None}
use Rattle.std.specs.Option.{option_map_or}
use Rattle.nb_retry.specs.declared.plan.Plan.TheVariants.{Common}
use Rattle.nb_retry.specs.Calls.{TimerStands}
use Rattle.nb_tftp.specs.declared.state.State.{State}
use Rattle.nb_tftp.specs.Asks.{Begun}
use Rattle.nb_tftp.specs.Decisions.{fixed_of, block_size_of, last_of, transfer_has_ended}
use Rattle.nb_tftp.specs.Steps.{begun_of}
use Rattle.nb_tftp.specs.Blocks.{blocks_with, count_with, whole_with, behind_block, blocks_to, first_passing, is_block_from}
use Rattle.nb_tftp.specs.Received.{Received, port_with, size_with}
use Rattle.nb_tftp.specs.History.{Entry, got, is_ended, watched}
use Rattle.nb_tftp.specs.Sentences.{MeetsWith, IsUnansweredWith}

-- no block from the port has come after the last one, where blocks have this size
pub record AwaitsBlock (options : Bool) (received : List Received) (size port : ℕ) : Type 0 where
  pub behind : (ms : List Received) × (behind_block size port received (count_with options received) ≡ Some ms)
      × (first_passing (is_block_from port (suc (count_with options received))) ms ≡ None)
  pub few : count_with options received ≤ length received
  pub all : blocks_to size port received (count_with options received) ≡ blocks_with options received

-- the port and the size can be what is agreed: any, as long as nothing is
abbrev pub can_agree : Option ℕ → ℕ → ℕ → ℕ → Bool
can_agree fixed agreed size port = option_map_or (λ p. p == port && agreed == size) fixed true

-- a transfer that hasn't ended knows what is agreed and the last block's number, and its timer has
-- run since the last first sending
pub record UnderWay (options : Bool) (b : Begun) (start : ℕ) (state : State) (entries : List Entry) : Type 0 where
  pub begun : begun_of state ≡ b
  pub asked : state.options ≡ options
  pub fixed : fixed_of state.phase ≡ port_with options (got entries)
  pub size : block_size_of state.phase ≡ size_with options (got entries)
  pub last : last_of state.phase ≡ count_with options (got entries)
  pub waiting : (size port : ℕ) → can_agree (port_with options (got entries)) (size_with options (got entries)) size port ≡ true
      → AwaitsBlock options (got entries) size port
  pub unfinished : whole_with options (got entries) ≡ false
  pub timer : TimerStands state.retry (watched start entries).times
  pub since : state.retry.since ≡ (watched start entries).since
  pub plan : state.retry.plan ≡ Common
  pub unanswered : IsUnansweredWith options start entries

-- A transfer that was begun so, at a time, with or without options, stands for these calls with what they asked:
-- they meet its promises, and it has ended exactly where one of them told the end.
pub record StandsWith (options : Bool) (b : Begun) (start : ℕ) (state : State) (entries : List Entry) : Type 0 where
  pub meets : MeetsWith options b start entries
  pub over : transfer_has_ended state.phase ≡ is_ended entries
  pub live : transfer_has_ended state.phase ≡ false → UnderWay options b start state entries

-- where options were asked for
abbrev pub Stands : Begun → ℕ → State → List Entry → Type 0
Stands b start state entries = StandsWith true b start state entries

-- What a ping stands for: all the calls since its start
use Rattle.std.specs.Prelude.{◌≡◌, ℕ, Bool, true, false, List}
use Rattle.nb_retry.specs.declared.plan.Plan.TheVariants.{Common}
use Rattle.nb_retry.specs.Calls.{TimerStands}
use Rattle.nb_ping.specs.declared.state.State.{State}
use Rattle.nb_ping.specs.declared.state.PingPhase.{PingPhase}
use Rattle.nb_ping.specs.declared.state.PingPhase.TheVariants.{Waiting, Ended}
use Rattle.nb_ping.specs.Pings.{Pinged}
use Rattle.nb_ping.specs.PingCalls.{PingEntry, echo_replies, ping_times, ping_ended, is_answered}
use Rattle.nb_ping.specs.PingPromises.{PingMeets}

abbrev pub ping_has_ended : PingPhase → Bool
ping_has_ended Waiting = false
ping_has_ended Ended = true

abbrev pub pinged_of : State → Pinged
pinged_of s = record { host = s.host; ident = s.ident }

-- a ping that hasn't ended has had no answer, and its timer has run since its start
pub record IsWaitingForEcho (p : Pinged) (start : ℕ) (s : State) (entries : List PingEntry) : Type 0 where
  pub unanswered : is_answered p (echo_replies entries) ≡ false
  pub timer : TimerStands s.retry (ping_times entries)
  pub since : s.retry.since ≡ start
  pub plan : s.retry.plan ≡ Common

-- A ping that was begun so, at a time, stands for these calls with what they asked: they meet its promises, and it
-- has ended exactly where one of them gave the end.
pub record PingStands (p : Pinged) (start : ℕ) (s : State) (entries : List PingEntry) : Type 0 where
  pub meets : PingMeets p start entries
  pub begun : pinged_of s ≡ p
  pub over : ping_has_ended s.phase ≡ ping_ended entries
  pub waiting : ping_has_ended s.phase ≡ false → IsWaitingForEcho p start s entries

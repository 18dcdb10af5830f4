-- What a call of a ping asks, whatever came before it.
use Rattle.std.proofs.Common.{ℕ, Bool, true, false, cond, refl, lit≤}
use Rattle.nb_retry.specs.declared.retry.Due.{Due}
use Rattle.nb_retry.specs.declared.retry.Due.TheVariants.{Not, Again, Over}
use Rattle.nb_retry.specs.Timer.{due_at}
use Rattle.nb_ping.specs.declared.state.State.{State}
use Rattle.nb_ping.specs.Pings.{Pinged, asks_nothing, asks_end, ping_ok, ping_asks, AsksOneEcho}
use Rattle.nb_ping.specs.PingCalls.{EchoReply, answers_ping}
use Rattle.nb_ping.specs.PingStands.{ping_has_ended, pinged_of}
use Rattle.nb_ping.specs.PingSteps.{acts_on_echo, acts_on_clock}

pub nothing_simple : AsksOneEcho asks_nothing
nothing_simple = record { few = lit≤ tt; echo = tt; gives = refl }

pub due_simple : (p : Pinged) (due : Due) → AsksOneEcho (ping_asks p due)
due_simple p Not = nothing_simple
due_simple p (Again n) = record { few = lit≤ tt; echo = (refl, tt); gives = refl }
due_simple p Over = record { few = lit≤ tt; echo = tt; gives = refl }

pub clock_simple : (s : State) (now : ℕ) → AsksOneEcho (acts_on_clock s now)
clock_simple s now = by (ping_has_ended s.phase)
  where
    by : (b : Bool) → AsksOneEcho (cond b asks_nothing (ping_asks (pinged_of s) (due_at s.retry now)))
    by true = nothing_simple
    by false = due_simple (pinged_of s) (due_at s.retry now)

pub echo_simple : (s : State) (r : EchoReply) → AsksOneEcho (acts_on_echo s r)
echo_simple s r = by (ping_has_ended s.phase) (answers_ping (pinged_of s) r)
  where
    by : (a b : Bool) → AsksOneEcho (cond a asks_nothing (cond b (asks_end ping_ok) asks_nothing))
    by true b = nothing_simple
    by false true = record { few = lit≤ tt; echo = tt; gives = refl }
    by false false = nothing_simple

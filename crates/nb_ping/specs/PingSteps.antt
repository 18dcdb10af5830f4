-- What the steps of a ping come to
use Rattle.std.specs.Prelude.{ℕ, if◌then◌else◌}
use Rattle.nb_retry.specs.declared.retry.Due.{Due}
use Rattle.nb_retry.specs.declared.retry.Due.TheVariants.{Not, Again, Over}
use Rattle.nb_retry.specs.Timer.{due_at, after}
use Rattle.nb_terms.specs.declared.acts.Acts.{Acts}
use Rattle.nb_ping.specs.declared.state.State.{State}
use Rattle.nb_ping.specs.declared.state.PingPhase.TheVariants.{Ended}
use Rattle.nb_ping.specs.Pings.{asks_nothing, asks_end, ping_ok, ping_asks}
use Rattle.nb_ping.specs.PingCalls.{EchoReply, answers_ping}
use Rattle.nb_ping.specs.PingStands.{ping_has_ended, pinged_of}

-- an echo reply
abbrev pub acts_on_echo : State → EchoReply → Acts
acts_on_echo s r = if ping_has_ended s.phase then asks_nothing else (if answers_ping (pinged_of s) r then asks_end ping_ok else asks_nothing)

abbrev pub after_echo : State → EchoReply → State
after_echo s r = if ping_has_ended s.phase then s else (if answers_ping (pinged_of s) r then record s { phase = Ended } else s)

-- a time
abbrev pub after_wait : State → Due → State
after_wait s Not = s
after_wait s (Again n) = s
after_wait s Over = record s { phase = Ended }

abbrev pub acts_on_clock : State → ℕ → Acts
acts_on_clock s now = if ping_has_ended s.phase then asks_nothing else ping_asks (pinged_of s) (due_at s.retry now)

abbrev pub after_waiting : State → ℕ → State
after_waiting s now = if ping_has_ended s.phase then s else after_wait (record s { retry = after s.retry now }) (due_at s.retry now)

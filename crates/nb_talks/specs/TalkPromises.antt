-- The promise of an open on a connection, as equations over what came: how far the stream has come, what is sent, and the end
use Rattle.std.specs.Prelude.{◌≡◌, ◌⊎◌, ℕ, List, [], ◌∷◌, ◌++◌, Option, Some, None}
use Rattle.std.specs.List.{AllByRecursion}
use Rattle.nb_terms.specs.declared.cause.Cause.{Cause}
use Rattle.nb_retry.specs.declared.plan.Plan.{Plan}
use Rattle.nb_retry.specs.declared.retry.Due.{Due}
use Rattle.nb_retry.specs.declared.retry.Due.TheVariants.{Not, Again, Over}
use Rattle.nb_streams.specs.Segments.{Arrival}
use Rattle.nb_streams.specs.Streams.{front, next, has_ended, grown}
use Rattle.nb_streams.specs.Flows.{TcpCall, time_came, ConnPhase, conn_phase}
use Rattle.nb_streams.specs.Sending.{Outgoing, MaySend, without_try, calls_for, text_calls_for, closing_segment, tried_again}
use Rattle.nb_streams.specs.Trying.{timer_after, fired, due_fired}
use Rattle.nb_streams.specs.Endings.{segment_end, due_end}
use Rattle.nb_talks.specs.Talking.{Came, by_segment, by_time, by_task, Talker, Talk, talk_held, unsaid, text_to_send, texts_for, receives, talks_on}

-- segments, each with its try where it is one
abbrev pub Sends : Type 0
Sends = List (Outgoing × Option ℕ)

-- what an exchange puts: the place that the stream has come to, where it grew; what is sent; and how it ends the open
pub record Put : Type 0 where
  pub advance : Option ℕ
  pub sends : Sends
  pub over : Option Cause

abbrev pub phase_of : {T : Type 0} → ℕ → Talk T → ConnPhase
phase_of isn d = conn_phase isn d.calls

-- what new text calls for, where there is any
abbrev pub said_sends : ConnPhase → List ℕ → Sends
said_sends p [] = []
said_sends p (b ∷ bytes) = text_calls_for p (b ∷ bytes)

-- what texts call for that are given one after another after these calls: while one that was sent isn't acknowledged, those after it wait
abbrev pub texts_sent : ℕ → List TcpCall → List (List ℕ) → ℕ → Sends
texts_sent isn calls [] now = []
texts_sent isn calls (x ∷ xs) now = said_sends (conn_phase isn calls) x ++ texts_sent isn (calls ++ text_to_send x now) xs now

-- a connection that a segment ends takes no text any more
abbrev pub unless_ended : Option Cause → Sends → Sends
unless_ended None sends = sends
unless_ended (Some cause) sends = []

-- the talker's end closes a connection that hasn't ended itself
abbrev pub closes_by : Option Cause → Option Cause → ℕ → ConnPhase → Sends
closes_by None by_connection isn p = []
closes_by (Some cause) None isn p = without_try (closing_segment isn p) ∷ []
closes_by (Some cause) (Some other) isn p = []

-- the talker's end goes before the connection's
abbrev pub earlier : Option Cause → Option Cause → Option Cause
earlier None other = other
earlier (Some cause) other = Some cause

-- how the talker ends, by all that has come
abbrev pub talker_end : {T : Type 0} → Talker T → ℕ → ℕ → Talk T → Option Cause
talker_end t isn rec d = t.ends rec (front (talk_held isn d)) (has_ended (talk_held isn d)) d.tasks

-- A segment: the place, where it grew; what it calls for, what its texts do, and the close where the talker ends; the end.
abbrev pub segment_put : {T : Type 0} → Talker T → ℕ → Talk T → Arrival → ℕ → Put
segment_put t isn d m now =
    let heard = receives isn d (by_segment m now) in
    let after = talks_on t isn d (by_segment m now) in
    let ends = talker_end t isn m.rec heard in
    let by_connection = segment_end isn (phase_of isn d) m in
    record {
      advance = grown (next (talk_held isn d)) (next (talk_held isn heard));
      sends = calls_for isn (phase_of isn d) m.segment ++ unless_ended by_connection (texts_sent isn heard.calls (texts_for t isn d (by_segment m now)) now)
          ++ closes_by ends by_connection isn (phase_of isn after);
      over = earlier ends by_connection;
    }

-- a time, by what is due at it
abbrev pub due_sends : ℕ → ConnPhase → Due → Sends
due_sends isn p Not = []
due_sends isn p (Again n) = (tried_again isn p, Some n) ∷ []
due_sends isn p Over = []

abbrev pub time_put : ℕ → ConnPhase → Plan → Due → Put
time_put isn p plan due = record { advance = None; sends = due_sends isn p due; over = due_end plan due }

-- what is due is what the plan that runs fires, over all the times since it was started
pub record PutsAtTime {T : Type 0} (isn start : ℕ) (d : Talk T) (now : ℕ) (put : Put) : Type 0 where
  pub due : Due
  pub fires : fired (timer_after isn start (d.calls ++ time_came now ∷ [])) ≡ fired (timer_after isn start d.calls) ++ due_fired now due
  pub is : put ≡ time_put isn (phase_of isn d) (timer_after isn start d.calls).plan due

-- a task: what is said then
abbrev pub task_put : {T : Type 0} → Talker T → ℕ → Talk T → T → ℕ → Put
task_put t isn d task now =
    let heard = receives isn d (by_task task now) in
    record { advance = None; sends = said_sends (phase_of isn heard) (unsaid t isn heard); over = None }

-- a close from above
abbrev pub close_put : {T : Type 0} → ℕ → Talk T → Cause → Put
close_put isn d cause = record { advance = None; sends = without_try (closing_segment isn (phase_of isn d)) ∷ []; over = Some cause }

-- THE PROMISE: what comes to an open, begun at a time, after all that came before, puts this.
abbrev pub PutsSo : {T : Type 0} → Talker T → ℕ → ℕ → Talk T → Came T → Put → Type 0
PutsSo t isn start d (by_segment m now) put = put ≡ segment_put t isn d m now
PutsSo t isn start d (by_time now) put = PutsAtTime isn start d now put
PutsSo t isn start d (by_task task now) put = put ≡ task_put t isn d task now

-- what has come leaves one answer
abbrev pub OneAnswer : Type 0 → Type 0
OneAnswer T = (t : Talker T) (isn start : ℕ) (d : Talk T) (c : Came T) (a b : Put) → PutsSo t isn start d c a
    → PutsSo t isn start d c b → a ≡ b

-- what is put may be sent by a connection, after what came or after what was said then
abbrev pub MaySendBy : {T : Type 0} → Talker T → ℕ → Talk T → Came T → Outgoing → Type 0
MaySendBy t isn d c o = MaySend isn d.calls o ⊎ (MaySend isn (receives isn d c).calls o ⊎ MaySend isn (talks_on t isn d c).calls o)

abbrev pub SendWhatMayBe : Type 0 → Type 0
SendWhatMayBe T = (t : Talker T) (isn start : ℕ) (d : Talk T) (c : Came T) (put : Put) → PutsSo t isn start d c put
    → AllByRecursion (λ s. MaySendBy t isn d c s.0) put.sends

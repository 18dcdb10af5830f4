-- When a connection tries: one timer, by the plan of what waits to be acknowledged, or of probes
use Rattle.std.specs.Prelude.{◌≡◌, ℕ, ◌==◌, ◌&&◌, ◌||◌, Bool, false, List, [], ◌∷◌, ◌++◌, if◌then◌else◌}
use Rattle.std.specs.List.{flat_map}
use Rattle.nb_retry.specs.declared.plan.Plan.{Plan}
use Rattle.nb_retry.specs.declared.plan.Plan.TheVariants.{Common, Probe, Dhcp}
use Rattle.nb_retry.specs.declared.retry.Due.{Due}
use Rattle.nb_retry.specs.declared.retry.Due.TheVariants.{Not, Again, Over}
use Rattle.nb_retry.specs.Plans.{Asked, asked_at, firings, waits}
use Rattle.nb_streams.specs.Segments.{Incoming}
use Rattle.nb_streams.specs.Flows.{TcpCall, segment_came, time_came, text_came, Flow, ConnPhase, asking, flowing, after_tcp_call, is_taken, advances, with_segment, is_sending, answers_syn, establishes, opened_by}
use Rattle.nb_streams.specs.Sending.{is_reset}

-- a segment answers what the connection tried last: its SYN, its text, or a probe
abbrev pub is_answer : ℕ → ConnPhase → Incoming → Bool
is_answer isn (asking text) s = answers_syn isn s && (s.syn || s.rst)
is_answer isn (flowing f) s = is_reset f s || (is_taken f s && (advances f s || f.acked == f.sent))

-- the plan that runs, since when, and the times since then
pub record TryTimer : Type 0 where
  pub plan : Plan
  pub since : ℕ
  pub times : List ℕ

abbrev pub timer_since : Plan → ℕ → TryTimer
timer_since plan now = record { plan = plan; since = now; times = [] }

-- the timer after a call that left the connection so: a new segment starts the plan of tries, a call at which nothing
-- waits to be acknowledged that of probes
abbrev pub timer_of : Bool → Flow → ℕ → TryTimer → TryTimer
timer_of sending f now w = if sending then timer_since Common now else (if f.acked == f.sent then timer_since Probe now else w)

abbrev pub segment_timer : ℕ → ConnPhase → Incoming → ℕ → TryTimer → TryTimer
segment_timer isn (asking text) s now w = if establishes isn s then timer_of (is_sending false (opened_by isn text s)) (opened_by isn text s) now w else w
segment_timer isn (flowing f) s now w = if is_taken f s then timer_of (is_sending (advances f s) (with_segment s f)) (with_segment s f) now w else w

abbrev pub text_timer : ConnPhase → List ℕ → ℕ → TryTimer → TryTimer
text_timer (asking text) bytes now w = w
text_timer (flowing f) bytes now w = if is_sending false (record f { text = f.text ++ bytes }) then timer_since Common now else w

abbrev pub timer_by : ℕ → ConnPhase → TcpCall → TryTimer → TryTimer
timer_by isn p (segment_came m now) w = segment_timer isn p m.segment now w
timer_by isn p (time_came now) w = record w { times = w.times ++ now ∷ [] }
timer_by isn p (text_came bytes now) w = text_timer p bytes now w

abbrev pub timer_from : ℕ → ConnPhase → TryTimer → List TcpCall → TryTimer
timer_from isn p w [] = w
timer_from isn p w (c ∷ cs) = timer_from isn (after_tcp_call isn p c) (timer_by isn p c w) cs

-- the timer after these calls, of a connection that was begun then
unfoldable pub timer_after : ℕ → ℕ → List TcpCall → TryTimer
timer_after isn start calls = timer_from isn (asking []) (timer_since Common start) calls

-- the tries that a plan makes when it starts
abbrev pub starting_try : Plan → ℕ → List (ℕ × ℕ)
starting_try Common now = (1, now) ∷ []
starting_try Dhcp now = (1, now) ∷ []
starting_try Probe now = []

abbrev pub try_of : Asked → List (ℕ × ℕ)
try_of a = try_said a.at a.said
  where
    try_said : ℕ → Due → List (ℕ × ℕ)
    try_said now Not = []
    try_said now (Again n) = (n, now) ∷ []
    try_said now Over = []

abbrev pub fired : TryTimer → List Asked
fired w = firings w.since (waits w.plan) w.times

-- the numbers and times of the tries since the timer was started
abbrev pub due_tries : TryTimer → List (ℕ × ℕ)
due_tries w = starting_try w.plan w.since ++ flat_map try_of (fired w)

-- what fires at a time
abbrev pub due_fired : ℕ → Due → List Asked
due_fired now Not = []
due_fired now (Again n) = asked_at now (Again n) ∷ []
due_fired now Over = asked_at now Over ∷ []

-- the plan is over at this time
pub record PlanIsOver (w : TryTimer) (now : ℕ) : Type 0 where
  pub earlier : List Asked
  pub last : fired w ≡ earlier ++ asked_at now Over ∷ []

-- what concerns an open's tries, in order: what came to it, or a try that was made, with its time
pub data TryMark : Type 0 where
  comes_in : TcpCall → TryMark
  tries_at : (count now : ℕ) → TryMark

abbrev pub mark_calls : TryMark → List TcpCall
mark_calls (comes_in c) = c ∷ []
mark_calls (tries_at count now) = []

abbrev pub mark_tries : TryMark → List (ℕ × ℕ)
mark_tries (comes_in c) = []
mark_tries (tries_at count now) = (count, now) ∷ []

-- The open has had all the tries of the plan that runs, at its times, and the plan is over now. The marks since its
-- start hold no answer, since an answer starts a plan anew or ends the open.
pub record HasTriedAll (isn start now : ℕ) (marks : List TryMark) : Type 0 where
  pub earlier : List TryMark
  pub rest : List TryMark
  pub all : marks ≡ earlier ++ rest
  pub tried : flat_map mark_tries rest ≡ due_tries (timer_after isn start (flat_map mark_calls marks))
  pub over : PlanIsOver (timer_after isn start (flat_map mark_calls marks)) now

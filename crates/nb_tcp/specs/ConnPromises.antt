-- RFC 9293: what a connection promises of all its calls, by what came and when
use Rattle.std.specs.Prelude.{◌≡◌, ℕ, ◌==◌, not, ◌&&◌, Bool, false, List, [], ◌∷◌, ◌++◌, Option, Some, None, map, fold, if◌then◌else◌}
use Rattle.nb_retry.specs.declared.plan.Plan.{Plan}
use Rattle.nb_retry.specs.declared.retry.Due.{Due}
use Rattle.nb_retry.specs.declared.retry.Due.TheVariants.{Not, Again, Over}
use Rattle.nb_terms.specs.declared.acts.Acts.{Acts}
use Rattle.nb_streams.specs.Segments.{Arrival}
use Rattle.nb_streams.specs.Streams.{front, next, grown}
use Rattle.nb_streams.specs.Flows.{TcpCall, segment_came, time_came, text_came, ConnPhase, asking, flowing, conn_phase, after_tcp_call, held_in, held_after}
use Rattle.nb_streams.specs.Sending.{Outgoing, syn, calls_for, tried_again, with_first_try, without_try, text_calls_for, closing_segment}
use Rattle.nb_streams.specs.Trying.{timer_after, fired, due_fired}
use Rattle.nb_streams.specs.Endings.{end_cause, plan_tries, segment_end}
use Rattle.nb_tcp.specs.declared.link.Link.{Link}
use Rattle.nb_tcp.specs.Messages.{outgoing_message}
use Rattle.nb_tcp.specs.Replies.{only_ready}
use Rattle.nb_tcp.specs.ConnHistory.{ConnCall, calls_in, lends_out, comes_back, closes_from_above, ConnEntry, tcp_calls, advanced_to, delivered, is_waiting_after, due_said, EachConnEntry}

-- the number of the try that the last message is
abbrev pub last_try : List (Outgoing × Option ℕ) → Option ℕ
last_try sends = fold (λ t s. s.1) None sends

-- all the text that was given
abbrev pub text_in : ConnPhase → List ℕ
text_in (asking text) = text
text_in (flowing f) = f.text

-- these are sent, the last one maybe as a try
abbrev pub asked_sends : Link → List (Outgoing × Option ℕ) → Acts → Acts
asked_sends l sends acts = record acts { sends = record { items = map (λ s. outgoing_message l s.0) sends }; tried = last_try sends }

-- the SYN, under a timer
abbrev pub starting_acts : Link → Acts
starting_acts l = asked_sends l (with_first_try (syn l.isn) ∷ []) (only_ready false)

-- a segment: what it calls for is sent; the place is told where it grew, and then bytes wait
abbrev pub segment_asks : Link → ConnPhase → Arrival → ℕ → Acts
segment_asks l p m now =
    let before = next (held_in p) in
    let after = next (held_in (after_tcp_call l.isn p (segment_came m now))) in
    record (asked_sends l (calls_for l.isn p m.segment) (only_ready (not (before == after)))) { advance = grown before after; over = segment_end l.isn p m }

-- a time: a try again, or the end of all tries
abbrev pub due_asks : Link → ConnPhase → Bool → Plan → Due → Acts
due_asks l p waits plan Not = only_ready waits
due_asks l p waits plan (Again n) = record (asked_sends l (without_try (tried_again l.isn p) ∷ []) (only_ready waits)) { tried = Some n }
due_asks l p waits plan Over = record (only_ready waits) { over = Some (end_cause 2 (plan_tries plan) 0) }

-- what a call asks, by what came before it; for a time, what the timer's answer asks
abbrev pub conn_asks : Link → ConnPhase → Bool → Plan → TcpCall → Acts → Acts
conn_asks l p waits plan (segment_came m now) acts = segment_asks l p m now
conn_asks l p waits plan (time_came now) acts = due_asks l p waits plan (due_said acts)
conn_asks l p waits plan (text_came bytes now) acts = asked_sends l (text_calls_for p bytes) (only_ready waits)

-- at a time the plan that runs fires as the call says, over all the times since it was started
abbrev pub FiresSo : Link → ℕ → List TcpCall → TcpCall → Acts → Type 0
FiresSo l start before (segment_came m now) acts = Unit {0}
FiresSo l start before (text_came bytes now) acts = Unit {0}
FiresSo l start before (time_came now) acts = fired (timer_after l.isn start (before ++ time_came now ∷ [])) ≡ fired (timer_after l.isn start before) ++ due_fired now (due_said acts)

abbrev pub IsAskedSo : Link → ℕ → List ConnEntry → ConnEntry → ConnCall → Type 0
IsAskedSo l start before e (calls_in c) =
    (e.acts ≡ conn_asks l (conn_phase l.isn (tcp_calls before)) (is_waiting_after before) (timer_after l.isn start (tcp_calls before)).plan c e.acts)
    × FiresSo l start (tcp_calls before) c e.acts
-- with what is lent all that has come has gone up
IsAskedSo l start before e (lends_out bytes) = delivered before ++ bytes ≡ front (held_after l.isn (tcp_calls before))
IsAskedSo l start before e comes_back = Unit {0}
IsAskedSo l start before e closes_from_above = e.acts ≡ asked_sends l (without_try (closing_segment l.isn (conn_phase l.isn (tcp_calls before))) ∷ []) (only_ready (is_waiting_after before))

abbrev pub AsksAsPromised : Link → ℕ → List ConnEntry → ConnEntry → Type 0
AsksAsPromised l start before e = IsAskedSo l start before e e.call

-- The promises of a connection with these ends that was begun at a time.
pub record ConnKeeps (l : Link) (start : ℕ) (entries : List ConnEntry) : Type 0 where
  -- the place told last is the end of what has come
  pub advance : advanced_to entries ≡ next (held_after l.isn (tcp_calls entries))
  -- each call sends, tries, delivers and ends as what came before it says
  pub each : EachConnEntry (AsksAsPromised l start) [] entries

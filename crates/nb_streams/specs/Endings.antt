-- Why a connection ends: the cause stands in what came (RFC 9293, section 3.10).
use Rattle.std.specs.Prelude.{◌≡◌, ◌&&◌, ℕ, true, List, [], ◌∷◌, ◌++◌, Option, Some, None, if◌then◌else◌}
use Rattle.std.specs.List.{list_any}
use Rattle.nb_terms.specs.declared.cause.Cause.{Cause}
use Rattle.nb_retry.specs.declared.plan.Plan.{Plan}
use Rattle.nb_retry.specs.declared.plan.Plan.TheVariants.{Common, Probe, Dhcp}
use Rattle.nb_retry.specs.declared.retry.Due.{Due}
use Rattle.nb_retry.specs.declared.retry.Due.TheVariants.{Not, Again, Over}
use Rattle.nb_streams.specs.Segments.{Arrival}
use Rattle.nb_streams.specs.Flows.{TcpCall, segment_came, time_came, Flow, ConnPhase, asking, flowing, conn_phase, is_taken, window_bytes, has_other_stop, is_past, answers_syn}
use Rattle.nb_streams.specs.Sending.{is_reset}
use Rattle.nb_streams.specs.Trying.{timer_after, PlanIsOver}

abbrev pub end_cause : ℕ → ℕ → ℕ → Cause
end_cause code a b = record { code = code; a = a; b = b }

-- how many tries a plan has
abbrev pub plan_tries : Plan → ℕ
plan_tries Common = 6
plan_tries Dhcp = 4
plan_tries Probe = 4

-- how a segment that is taken ends the connection, if it does: a stream that is too long goes before a second end
abbrev pub taken_end : Flow → Arrival → Option Cause
taken_end f m =
    if list_any is_past (window_bytes f m.segment) then Some (end_cause 5 3 0)
    else (if has_other_stop f m.segment then Some (end_cause 3 m.rec 0) else None)

-- and how any segment does
abbrev pub segment_end : ℕ → ConnPhase → Arrival → Option Cause
segment_end isn (asking text) m = if answers_syn isn m.segment && m.segment.rst then Some (end_cause 1 m.rec 65535) else None
segment_end isn (flowing f) m =
    if is_reset f m.segment then Some (end_cause 1 m.rec 65535)
    else (if is_taken f m.segment then taken_end f m else None)

-- how a time does, by what is due
abbrev pub due_end : Plan → Due → Option Cause
due_end plan Not = None
due_end plan (Again n) = None
due_end plan Over = Some (end_cause 2 (plan_tries plan) 0)

-- The connection, after these calls, ends at the next one. A stream that is too long goes before a second end.
pub data ConnEnds (isn start : ℕ) (before : List TcpCall) : TcpCall → Cause → Type 0 where
  by_syn_refusal : (text : List ℕ) (m : Arrival) (now : ℕ) → conn_phase isn before ≡ asking text → answers_syn isn m.segment ≡ true → m.segment.rst ≡ true
      → ConnEnds isn start before (segment_came m now) (end_cause 1 m.rec 65535)
  by_reset : (f : Flow) (m : Arrival) (now : ℕ) → conn_phase isn before ≡ flowing f → is_reset f m.segment ≡ true
      → ConnEnds isn start before (segment_came m now) (end_cause 1 m.rec 65535)
  by_length : (f : Flow) (m : Arrival) (now : ℕ) → conn_phase isn before ≡ flowing f → is_taken f m.segment ≡ true → list_any is_past (window_bytes f m.segment) ≡ true
      → ConnEnds isn start before (segment_came m now) (end_cause 5 3 0)
  by_second_stop : (f : Flow) (m : Arrival) (now : ℕ) → conn_phase isn before ≡ flowing f → has_other_stop f m.segment ≡ true
      → ConnEnds isn start before (segment_came m now) (end_cause 3 m.rec 0)
  by_no_answer : (now : ℕ) → PlanIsOver (timer_after isn start (before ++ time_came now ∷ [])) now
      → ConnEnds isn start before (time_came now) (end_cause 2 (plan_tries (timer_after isn start before).plan) 0)

-- Why a segment ends a connection.
use Rattle.std.proofs.Common.{◌≡◌, ℕ, ◌&&◌, List, Some, None, true, cond, ap, ◌∙◌, sym, subst}
use Rattle.std.specs.List.{list_any}
use Rattle.std.proofs.lemmas.Bool.{and_parts}
use Rattle.std.proofs.lemmas.Option.{none-some, same_Some}
use Rattle.nb_terms.specs.declared.cause.Cause.{Cause}
use Rattle.nb_streams.specs.Segments.{Arrival}
use Rattle.nb_streams.specs.Flows.{TcpCall, segment_came, ConnPhase, asking, flowing, conn_phase, is_taken, window_bytes, is_past, has_other_stop, answers_syn}
use Rattle.nb_streams.specs.Sending.{is_reset}
use Rattle.nb_streams.specs.Endings.{end_cause, taken_end, segment_end, ConnEnds, by_syn_refusal, by_reset, by_length, by_second_stop}
use Rattle.nb_streams.proofs.StreamLaws.{either}

-- why a segment ends it
pub end_by_segment : (isn start : ℕ) (before : List TcpCall) (p : ConnPhase) (m : Arrival) (now : ℕ) (cause : Cause) → conn_phase isn before ≡ p → segment_end isn p m ≡ Some cause → ConnEnds isn start before (segment_came m now) cause
end_by_segment isn start before (asking text) m now cause e over = either (answers_syn isn m.segment && m.segment.rst)
    (λ t. subst (λ c. ConnEnds isn start before (segment_came m now) c) (same_Some (end_cause 1 m.rec 65535) cause (rw t at over)) (by_syn_refusal text m now e (and_parts (answers_syn isn m.segment) m.segment.rst t).0 (and_parts (answers_syn isn m.segment) m.segment.rst t).1))
    (λ f. absurd (none-some cause (rw f at over)))
end_by_segment isn start before (flowing f) m now cause e over = either (is_reset f m.segment)
    (λ t. subst (λ c. ConnEnds isn start before (segment_came m now) c) (same_Some (end_cause 1 m.rec 65535) cause (rw t at over)) (by_reset f m now e t))
    (λ g. let rest : cond (is_taken f m.segment) (taken_end f m) None ≡ Some cause = rw g at over in
    either (is_taken f m.segment)
    (λ t. by_taken t (sym (ap (λ b. cond b (taken_end f m) None) t) ∙ rest))
    (λ n. absurd (none-some cause (sym (ap (λ b. cond b (taken_end f m) None) n) ∙ rest))))
  where
    by_taken : is_taken f m.segment ≡ true → taken_end f m ≡ Some cause → ConnEnds isn start before (segment_came m now) cause
    by_taken taken k = either (list_any is_past (window_bytes f m.segment))
        (λ t. subst (λ c. ConnEnds isn start before (segment_came m now) c) (same_Some (end_cause 5 3 0) cause (rw t at k)) (by_length f m now e taken t))
        (λ n. let rest : cond (has_other_stop f m.segment) (Some (end_cause 3 m.rec 0)) None ≡ Some cause = rw n at k in
        either (has_other_stop f m.segment)
        (λ t. subst (λ c. ConnEnds isn start before (segment_came m now) c) (same_Some (end_cause 3 m.rec 0) cause (rw t at rest)) (by_second_stop f m now e t))
        (λ o. absurd (none-some cause (rw o at rest))))

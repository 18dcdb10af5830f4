-- What a taken segment asks is what it calls for.
use Rattle.std.proofs.Common.{◌≡◌, ◌<◌, ℕ, ◌-◌, ◌^◌, ◌==◌, ◌||◌, not, List, [], ◌∷◌, ◌++◌, length, drop, Option, Some, None, Bool, true, false, cond, refl, ap, ◌∙◌, subst, arith, ltb}
use Rattle.std.specs.List.{list_any}
use Rattle.std.proofs.lemmas.Bool.{ltb-true, lt-ltb, false≢true, and_parts}
use Rattle.std.proofs.lemmas.List.{length-drop}
use Rattle.nb_terms.specs.declared.acts.Acts.{Acts}
use Rattle.nb_terms.specs.declared.cause.Cause.{Cause}
use Rattle.nb_streams.specs.Segments.{Incoming, Arrival}
use Rattle.nb_streams.specs.Streams.{HeldBytes, grown}
use Rattle.nb_streams.specs.Flows.{flowing, after_segment, full_window, is_taken, is_past, window_bytes, advances, with_segment, is_sending, going_on, is_other, has_other_stop}
use Rattle.nb_streams.specs.Sending.{Outgoing, calls_for, too_long_sends, ongoing_sends, brings_more, only_if, without_try, with_first_try, pure_ack, rst_ack, text_segment, is_reset}
use Rattle.nb_streams.specs.Endings.{end_cause, taken_end, segment_end}
use Rattle.nb_streams.proofs.StreamLaws.{either}
use Rattle.nb_tcp.specs.declared.link.Link.{Link}
use Rattle.nb_tcp.specs.declared.variables.Variables.{Variables}
use Rattle.nb_tcp.specs.declared.variables.Breach.TheVariants as breach
use Rattle.nb_tcp.specs.Numbers.{flow_of, bare_flow, found_stop, piece_bytes, distance_of, passes_limit, sends_more, next_sending}
use Rattle.nb_tcp.specs.Replies.{only_ready, also_sending, also_over, first_tried, unacked_text, ack_of_variables, conn_reset, went_on, grown_acts, acknowledging, breach_acts, taken_acts}
use Rattle.nb_tcp.specs.ConnPromises.{asked_sends}
use Rattle.nb_tcp.specs.ConnStanding.{FlowStands}
use Rattle.nb_tcp.proofs.FlowStandsLemmas.{ack_out, reset_out, text_out, sending_same, next_same, next_stands, going_same}

-- the sends, by what holds of the segment: too long, brings something, begins new text
abbrev pub sends_by : Bool → Bool → Bool → Outgoing → Outgoing → Outgoing → List (Outgoing × Option ℕ)
sends_by past brings sending ack reset text = cond past (without_try ack ∷ without_try reset ∷ []) (only_if brings (without_try ack) ++ only_if sending (with_first_try text))

abbrev pub over_by : Bool → Bool → ℕ → Option Cause
over_by past other rec = cond past (Some (end_cause 5 3 0)) (cond other (Some (end_cause 3 rec 0)) None)

abbrev pub acts_by : Link → List (Outgoing × Option ℕ) → ℕ → ℕ → Option Cause → Acts
acts_by l sends before after over = record (asked_sends l sends (only_ready (not (before == after)))) { advance = grown before after; over = over }

abbrev steps_by : Link → Bool → Bool → Bool → Bool → Outgoing → Outgoing → Outgoing → ℕ → Acts → Acts
steps_by l past other brings sending ack reset text rec base =
    cond past (also_over (end_cause 5 3 0) (also_sending l reset (cond brings (also_sending l ack base) base)))
    (cond other (also_over (end_cause 3 rec 0) (cond sending (first_tried (also_sending l text (cond brings (also_sending l ack base) base))) (cond brings (also_sending l ack base) base)))
    (cond sending (first_tried (also_sending l text (cond brings (also_sending l ack base) base))) (cond brings (also_sending l ack base) base)))

steps_are : (l : Link) (past other brings sending : Bool) (ack reset text : Outgoing) (rec before after : ℕ) → (past ≡ true → brings ≡ true)
    → steps_by l past other brings sending ack reset text rec (grown_acts before after) ≡ acts_by l (sends_by past brings sending ack reset text) before after (over_by past other rec)
steps_are l true other true sending ack reset text rec before after so = refl
steps_are l true other false sending ack reset text rec before after so = absurd (false≢true (so refl))
steps_are l false true true true ack reset text rec before after so = refl
steps_are l false true true false ack reset text rec before after so = refl
steps_are l false true false true ack reset text rec before after so = refl
steps_are l false true false false ack reset text rec before after so = refl
steps_are l false false true true ack reset text rec before after so = refl
steps_are l false false true false ack reset text rec before after so = refl
steps_are l false false false true ack reset text rec before after so = refl
steps_are l false false false false ack reset text rec before after so = refl

breach_is : (l : Link) (v a : Variables) (given : ℕ) (rest : List ℕ) (rec : ℕ) (s : Incoming) (base : Acts) (past other : Bool)
    → breach_acts l v a given rest rec s (cond past breach.TooLong (cond other breach.OtherStop breach.None)) (acknowledging l a s base)
    ≡ steps_by l past other (brings_more s) (sends_more (advances (bare_flow v) s) given a) (ack_of_variables a) (conn_reset a) (unacked_text (next_sending given a) rest) rec base
breach_is l v a given rest rec s base true other = refl
breach_is l v a given rest rec s base false true = refl
breach_is l v a given rest rec s base false false = refl

brings_body : (v : Variables) (s : Incoming) → passes_limit v s ≡ true → brings_more s ≡ true
brings_body v s past =
    let some : 0 < length (piece_bytes v s) = ltb-true 0 (length (piece_bytes v s)) (and_parts (ltb 0 (length (piece_bytes v s))) _ past).0 in
    or_left (ltb 0 (length s.body)) s.fin (lt-ltb 0 (length s.body) (either (ltb (distance_of v s.number) full_window)
    (λ t. subst (λ c. 0 < length (cond c s.body (drop (2 ^ 32 - distance_of v s.number) s.body))) t some)
    (λ f. longer (2 ^ 32 - distance_of v s.number) s.body (subst (λ c. 0 < length (cond c s.body (drop (2 ^ 32 - distance_of v s.number) s.body))) f some))))
  where
    longer : (k : ℕ) (xs : List ℕ) → 0 < length (drop k xs) → 0 < length xs
    longer k xs l = omega (arith, l, length-drop k xs)

    or_left : (a b : Bool) → a ≡ true → (a || b) ≡ true
    or_left true b e = refl
    or_left false b e = absurd (false≢true e)

-- what a connection asks at a taken segment, by the cases
pub taken_acts_are : (l : Link) (v a : Variables) (given : ℕ) (rest : List ℕ) (rec : ℕ) (s : Incoming)
    → taken_acts l v a given rest rec s
    ≡ acts_by l (sends_by (passes_limit v s) (brings_more s) (sends_more (advances (bare_flow v) s) given a) (ack_of_variables a) (conn_reset a) (unacked_text (next_sending given a) rest)) v.next a.next (over_by (passes_limit v s) (is_other v.stop (found_stop v s)) rec)
taken_acts_are l v a given rest rec s =
    breach_is l v a given rest rec s (grown_acts v.next a.next) (passes_limit v s) (is_other v.stop (found_stop v s))
    ∙ steps_are l (passes_limit v s) (is_other v.stop (found_stop v s)) (brings_more s) (sends_more (advances (bare_flow v) s) given a) (ack_of_variables a) (conn_reset a) (unacked_text (next_sending given a) rest) rec v.next a.next (brings_body v s)

-- the text that begins
pub text_begins : (advanced : Bool) (a : Variables) (h : HeldBytes) (text : List ℕ) (given : ℕ) (rest : List ℕ) → FlowStands a h text given rest
    → only_if (is_sending advanced (flow_of a h text)) (with_first_try (text_segment (going_on advanced (flow_of a h text)))) ≡ only_if (sends_more advanced given a) (with_first_try (unacked_text (next_sending given a) rest))
text_begins advanced a h text given rest c = either (sends_more advanced given a)
    (λ t. rw (sending_same advanced a h text given c.in_all, t) (ap (λ o. with_first_try o ∷ []) (ap text_segment (next_same a h text given c.in_all) ∙ text_out (next_sending given a) h text given rest (next_stands a h text given rest c))))
    (λ f. rw (sending_same advanced a h text given c.in_all, f) refl)

ongoing_are : (v : Variables) (h : HeldBytes) (text : List ℕ) (s : Incoming) (a : Variables) (h2 : HeldBytes) (given : ℕ) (rest : List ℕ) → with_segment s (flow_of v h text) ≡ flow_of a h2 text → FlowStands a h2 text given rest
    → ongoing_sends (flow_of v h text) s ≡ only_if (brings_more s) (without_try (ack_of_variables a)) ++ only_if (sends_more (advances (bare_flow v) s) given a) (with_first_try (unacked_text (next_sending given a) rest))
ongoing_are v h text s a h2 given rest e c =
    ap (λ f. only_if (brings_more s) (without_try (pure_ack f)) ++ only_if (is_sending (advances (bare_flow v) s) f) (with_first_try (text_segment (going_on (advances (bare_flow v) s) f)))) e
    ∙ ap (λ o. only_if (brings_more s) (without_try o) ++ only_if (is_sending (advances (bare_flow v) s) (flow_of a h2 text)) (with_first_try (text_segment (going_on (advances (bare_flow v) s) (flow_of a h2 text))))) (ack_out a h2 text c.next c.stop)
    ∙ ap (λ xs. only_if (brings_more s) (without_try (ack_of_variables a)) ++ xs) (text_begins (advances (bare_flow v) s) a h2 text given rest c)

too_long_are : (v : Variables) (h : HeldBytes) (text : List ℕ) (s : Incoming) (a : Variables) (h2 : HeldBytes) (given : ℕ) (rest : List ℕ) → with_segment s (flow_of v h text) ≡ flow_of a h2 text → FlowStands a h2 text given rest
    → too_long_sends (flow_of v h text) s ≡ without_try (ack_of_variables a) ∷ without_try (conn_reset a) ∷ []
too_long_are v h text s a h2 given rest e c =
    ap (λ f. without_try (pure_ack f) ∷ without_try (rst_ack f) ∷ []) e
    ∙ ap (λ o. without_try o ∷ without_try (rst_ack (flow_of a h2 text)) ∷ []) (ack_out a h2 text c.next c.stop)
    ∙ ap (λ o. without_try (ack_of_variables a) ∷ without_try o ∷ []) (reset_out a h2 text c.next c.stop)

pub sends_are : (isn : ℕ) (v : Variables) (h : HeldBytes) (text : List ℕ) (s : Incoming) (a : Variables) (h2 : HeldBytes) (given : ℕ) (rest : List ℕ) → is_taken (flow_of v h text) s ≡ true → list_any is_past (window_bytes (flow_of v h text) s) ≡ passes_limit v s
    → with_segment s (flow_of v h text) ≡ flow_of a h2 text → FlowStands a h2 text given rest
    → calls_for isn (flowing (flow_of v h text)) s ≡ sends_by (passes_limit v s) (brings_more s) (sends_more (advances (bare_flow v) s) given a) (ack_of_variables a) (conn_reset a) (unacked_text (next_sending given a) rest)
sends_are isn v h text s a h2 given rest taken past e c = rw (taken, past) (either (passes_limit v s)
    (λ t. rw t (too_long_are v h text s a h2 given rest e c))
    (λ f. rw f (ongoing_are v h text s a h2 given rest e c)))

pub over_is : (isn : ℕ) (v : Variables) (h : HeldBytes) (text : List ℕ) (m : Arrival) → is_taken (flow_of v h text) m.segment ≡ true → is_reset (flow_of v h text) m.segment ≡ false
    → list_any is_past (window_bytes (flow_of v h text) m.segment) ≡ passes_limit v m.segment → has_other_stop (flow_of v h text) m.segment ≡ is_other v.stop (found_stop v m.segment)
    → segment_end isn (flowing (flow_of v h text)) m ≡ over_by (passes_limit v m.segment) (is_other v.stop (found_stop v m.segment)) m.rec
over_is isn v h text m taken reset past other =
    ap (λ b. cond b (Some (end_cause 1 m.rec 65535)) (cond (is_taken (flow_of v h text) m.segment) (taken_end (flow_of v h text) m) None)) reset
    ∙ ap (λ b. cond b (taken_end (flow_of v h text) m) None) taken
    ∙ ap (λ b. cond b (Some (end_cause 5 3 0)) (cond (has_other_stop (flow_of v h text) m.segment) (Some (end_cause 3 m.rec 0)) None)) past
    ∙ ap (λ b. cond (passes_limit v m.segment) (Some (end_cause 5 3 0)) (cond b (Some (end_cause 3 m.rec 0)) None)) other

-- the flow after the segment
pub after_is : (v : Variables) (h : HeldBytes) (text : List ℕ) (s : Incoming) (a : Variables) (h2 : HeldBytes) (given : ℕ) (rest : List ℕ) → is_taken (flow_of v h text) s ≡ true
    → with_segment s (flow_of v h text) ≡ flow_of a h2 text → FlowStands a h2 text given rest
    → after_segment (flow_of v h text) s ≡ flow_of (went_on (advances (bare_flow v) s) given a) h2 text
after_is v h text s a h2 given rest taken e c = rw taken (ap (λ f. going_on (advances (bare_flow v) s) f) e ∙ going_same (advances (bare_flow v) s) a h2 text given c.in_all)

-- A taken segment: the variables after it stand for the flow after it.
use Rattle.std.proofs.Common.{◌≡◌, ◌<◌, ℕ, ◌+◌, ◌%◌, ◌^◌, ◌==◌, ◌&&◌, ◌||◌, not, List, length, drop, Bool, true, false, cond, refl, ap, ◌∙◌, sym, subst, arith, ltb}
use Rattle.std.specs.List.{list_any}
use Rattle.std.proofs.lemmas.Bool.{eqb-true}
use Rattle.std.proofs.lemmas.Bool.Decides.{nat_tests}
use Rattle.std.proofs.lemmas.List.{drop-drop}
use Rattle.nb_streams.specs.Segments.{Incoming, ahead, places}
use Rattle.nb_streams.specs.Streams.{HeldBytes, next, first_stop}
use Rattle.nb_streams.specs.Flows.{full_window, is_beyond, is_taken, is_current, advance_of, with_segment, window_bytes, is_past, is_other, has_other_stop}
use Rattle.nb_streams.specs.Sending.{is_reset, is_answered_by_ack}
use Rattle.nb_streams.proofs.StreamLaws.{either}
use Rattle.nb_streams.proofs.TryLaws.{not_past, not_beyond}
use Rattle.nb_streams.proofs.SendLaws.{IsFlow}
use Rattle.nb_tcp.specs.declared.variables.Variables.{Variables}
use Rattle.nb_tcp.specs.declared.variables.Verdict.{Verdict}
use Rattle.nb_tcp.specs.declared.variables.Verdict.TheVariants as verdict
use Rattle.nb_tcp.specs.Numbers.{flow_of, distance_of, judged, judged_reset, found_stop, with_stop, with_next, with_ack, passes_limit}
use Rattle.nb_tcp.specs.ConnStanding.{FlowStands}
use Rattle.nb_tcp.proofs.PieceLemmas.{past_is}
use Rattle.nb_tcp.proofs.WindowStandsLemmas.{held_then, held_same, stop_same}

-- what a verdict says of a segment: whether it is taken, resets, and is answered
abbrev taken_by : Bool → Bool → Bool → Bool → Bool
taken_by ack syn rst beyond = ack && (not syn && (not rst && not beyond))

abbrev answered_by : Bool → Bool → Bool → Bool → ℕ → Bool
answered_by ack syn rst beyond d = cond rst (ltb 0 d && ltb d 65535) (syn || (ack && beyond))

abbrev verdict_by : Bool → Bool → Bool → Bool → ℕ → Verdict
verdict_by ack syn rst beyond d = cond rst (judged_reset d) (cond syn verdict.Answered (cond ack (cond beyond verdict.Answered verdict.Taken) verdict.Dropped))

abbrev pub Means : Bool → Bool → Bool → Verdict → Type 0
Means taken reset answered verdict.Taken = (taken ≡ true) × (reset ≡ false)
Means taken reset answered verdict.Reset = (taken ≡ false) × (reset ≡ true) × (answered ≡ false)
Means taken reset answered verdict.Answered = (taken ≡ false) × (reset ≡ false) × (answered ≡ true)
Means taken reset answered verdict.Dropped = (taken ≡ false) × (reset ≡ false) × (answered ≡ false)

not_taken : (ack syn beyond : Bool) → taken_by ack syn true beyond ≡ false
not_taken true true beyond = refl
not_taken true false beyond = refl
not_taken false syn beyond = refl

reset_means : (taken : Bool) (d : ℕ) → taken ≡ false → Means taken (true && d == 0) (ltb 0 d && ltb d 65535) (judged_reset d)
reset_means taken d none = either (d == 0)
    (λ t. rw t (none, refl, zero_not d (eqb-true d 0 t)))
    (λ f. rw f (either (ltb d 65535)
    (λ t. rw t (none, refl, rw (pos d f) refl))
    (λ g. rw g (none, refl, and_off (ltb 0 d)))))
  where
    zero_not : (d : ℕ) → d ≡ 0 → (ltb 0 d && ltb d 65535) ≡ false
    zero_not d e = rw e refl

    pos : (d : ℕ) → (d == 0) ≡ false → ltb 0 d ≡ true
    pos d f = grind (arith, nat_tests)

    and_off : (b : Bool) → (b && false) ≡ false
    and_off true = refl
    and_off false = refl

means : (ack syn rst beyond : Bool) (d : ℕ) → Means (taken_by ack syn rst beyond) (rst && d == 0) (answered_by ack syn rst beyond d) (verdict_by ack syn rst beyond d)
means ack syn true beyond d = reset_means (taken_by ack syn true beyond) d (not_taken ack syn beyond)
means true true false beyond d = (refl, refl, refl)
means false true false beyond d = (refl, refl, refl)
means true false false true d = (refl, refl, refl)
means true false false false d = (refl, refl)
means false false false beyond d = (refl, refl, refl)

pub verdict_means : (v : Variables) (h : HeldBytes) (text : List ℕ) (s : Incoming) → v.next ≡ next h → Means (is_taken (flow_of v h text) s) (is_reset (flow_of v h text) s) (is_answered_by_ack (flow_of v h text) s) (judged v s)
verdict_means v h text s same = subst (λ n. Means (is_taken (flow_of v h text) s) (s.rst && ahead (v.irs + 1 + n) s.number == 0) (answered_by s.ack s.syn s.rst (is_beyond (flow_of v h text) s) (ahead (v.irs + 1 + n) s.number)) (judged v s)) same
    (means s.ack s.syn s.rst (is_beyond (flow_of v h text) s) (distance_of v s.number))

-- the acknowledgement counts no further than what was given
pub acked_low : (v : Variables) (h : HeldBytes) (text : List ℕ) (s : Incoming) (given : ℕ) (unacked : List ℕ) → FlowStands v h text given unacked → IsFlow (flow_of v h text) → is_taken (flow_of v h text) s ≡ true
    → is_current (flow_of v h text) s ≡ true → v.acked + advance_of (flow_of v h text) s < 2 ^ 31
acked_low v h text s given unacked c is taken current = omega (arith, not_past (flow_of v h text) s (not_beyond (flow_of v h text) s taken) current, is.sent, c.in_all, c.small)

-- the variables after it, once its bytes are held up to a place
abbrev pub then_variables : Variables → Incoming → ℕ → Variables
then_variables v s n = with_ack (with_next (with_stop v s) n) s

pub flow_then : (v : Variables) (h : HeldBytes) (text : List ℕ) (s : Incoming) (n given : ℕ) (unacked : List ℕ) → FlowStands v h text given unacked → IsFlow (flow_of v h text) → is_taken (flow_of v h text) s ≡ true → v.next < 2 ^ 31
    → with_segment s (flow_of v h text) ≡ flow_of (then_variables v s n) (held_then v h s) text
flow_then v h text s n given unacked c is taken small = either (is_current (flow_of v h text) s)
    (λ t. let low : v.acked + advance_of (flow_of v h text) s < 2 ^ 31 = acked_low v h text s given unacked c is taken t in
    let e : (v.acked + advance_of (flow_of v h text) s) % 2 ^ 32 ≡ v.acked + advance_of (flow_of v h text) s = by_low (v.acked + advance_of (flow_of v h text) s) low in
    rw t (ap (λ x. record (flow_of v h text) { held = x; acked = v.acked + advance_of (flow_of v h text) s; room = s.window }) (held_same v h text s c.next small)
    ∙ ap (λ k. record (flow_of v h text) { held = held_then v h s; acked = k; room = s.window }) (sym e)))
    (λ f. rw f (ap (λ x. record (flow_of v h text) { held = x }) (held_same v h text s c.next small)))
  where
    by_low : (k : ℕ) → k < 2 ^ 31 → k % 2 ^ 32 ≡ k
    by_low k l = omega (arith, l)

-- how many bytes are forgotten
forgotten : (a d : ℕ) → a + d < 2 ^ 31 → ahead a ((a + d) % 2 ^ 32) ≡ d
forgotten a d l = omega (arith, l)

forgotten_none : (a : ℕ) → a < 2 ^ 31 → ahead a a ≡ 0
forgotten_none a l = omega (arith, l)

pub stands_then : (v : Variables) (h : HeldBytes) (text : List ℕ) (s : Incoming) (n given : ℕ) (unacked rest : List ℕ) → FlowStands v h text given unacked → IsFlow (flow_of v h text) → is_taken (flow_of v h text) s ≡ true
    → (then_variables v s n).next ≡ next (held_then v h s) → rest ≡ drop (ahead v.acked (then_variables v s n).acked) unacked
    → FlowStands (then_variables v s n) (held_then v h s) text given rest
stands_then v h text s n given unacked rest c is taken here left = record {
  next = here;
  stop = ap (λ o. first_stop o (found_stop v s)) c.stop;
  in_all = c.in_all;
  small = c.small;
  rest = either (is_current (flow_of v h text) s)
      (λ t. let low : v.acked + advance_of (flow_of v h text) s < 2 ^ 31 = acked_low v h text s given unacked c is taken t in
      let at : (then_variables v s n).acked ≡ (v.acked + advance_of (flow_of v h text) s) % 2 ^ 32 = rw t refl in
      left
      ∙ ap (λ k. drop (ahead v.acked k) unacked) at
      ∙ ap (λ k. drop k unacked) (forgotten v.acked (advance_of (flow_of v h text) s) low)
      ∙ ap (λ xs. drop (advance_of (flow_of v h text) s) xs) c.rest
      ∙ drop-drop (advance_of (flow_of v h text) s) v.acked text
      ∙ ap (λ k. drop k text) (sym (at ∙ by_low (v.acked + advance_of (flow_of v h text) s) low)))
      (λ f. let at : (then_variables v s n).acked ≡ v.acked = rw f refl in
      let low : v.acked < 2 ^ 31 = omega (arith, is.acked, is.sent, c.in_all, c.small) in
      left ∙ ap (λ k. drop (ahead v.acked k) unacked) at ∙ ap (λ k. drop k unacked) (forgotten_none v.acked low) ∙ c.rest ∙ ap (λ k. drop k text) (sym at));
  few = either (is_current (flow_of v h text) s)
      (λ t. let low : v.acked + advance_of (flow_of v h text) s < 2 ^ 31 = acked_low v h text s given unacked c is taken t in
      let at : (then_variables v s n).acked ≡ (v.acked + advance_of (flow_of v h text) s) % 2 ^ 32 = rw t refl in
      omega (arith, at ∙ by_low (v.acked + advance_of (flow_of v h text) s) low, c.few))
      (λ f. let at : (then_variables v s n).acked ≡ v.acked = rw f refl in omega (arith, at, c.few));
}
  where
    by_low : (k : ℕ) → k < 2 ^ 31 → k % 2 ^ 32 ≡ k
    by_low k l = omega (arith, l)

-- the rules that it breaks
pub past_same : (v : Variables) (h : HeldBytes) (text : List ℕ) (s : Incoming) → v.next ≡ next h → length s.body < 2 ^ 16 → v.next < 2 ^ 31 → list_any is_past (window_bytes (flow_of v h text) s) ≡ passes_limit v s
past_same v h text s same short small = ap (λ n. list_any is_past (places full_window (v.irs + 1) n s.number s.body)) (sym same) ∙ past_is v s short small

pub other_same : (v : Variables) (h : HeldBytes) (text : List ℕ) (s : Incoming) → v.next ≡ next h → v.stop ≡ h.stop → v.next < 2 ^ 31 → is_taken (flow_of v h text) s ≡ true → has_other_stop (flow_of v h text) s ≡ is_other v.stop (found_stop v s)
other_same v h text s same stop small taken = rw taken (ap (λ o. is_other h.stop o) (stop_same v h text s same small) ∙ ap (λ o. is_other o (found_stop v s)) (sym stop))

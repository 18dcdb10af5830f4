-- An answer to what a connection tried starts its timer anew, so no answer has come since the timer was started.
use Rattle.std.proofs.Common.{◌≡◌, ◌≤◌, ℕ, ◌+◌, ◌==◌, ◌&&◌, ◌||◌, not, Bool, true, false, refl, ◌∙◌, sym, arith, ltb, ⊎_elim}
use Rattle.std.proofs.lemmas.Bool.{false≢true, and_parts, and_cases, or_parts, or_cases, ltb-false, eq-eqb, eqb-true, not-true}
use Rattle.nb_retry.specs.declared.plan.Plan.{Plan}
use Rattle.nb_retry.specs.declared.plan.Plan.TheVariants.{Common, Probe}
use Rattle.nb_streams.specs.Segments.{Incoming, Arrival}
use Rattle.nb_streams.specs.Flows.{segment_came, Flow, flowing, is_taken, is_beyond, is_current, advance_of, advances, with_segment, is_sending}
use Rattle.nb_streams.specs.Sending.{is_reset}
use Rattle.nb_streams.specs.Trying.{is_answer, TryTimer, timer_since, timer_of, segment_timer, timer_by}
use Rattle.nb_streams.proofs.StreamLaws.{either}

-- the timer was started just now
pub record IsFresh (now : ℕ) (w : TryTimer) : Type 0 where
  pub plan : Plan
  pub fresh : w ≡ timer_since plan now

clash : (b : Bool) → b ≡ true → b ≡ false → ⊥
clash b only_if off = false≢true (sym off ∙ only_if)

watch_fresh : (sending : Bool) (f : Flow) (now : ℕ) (w : TryTimer) → (sending ≡ false → f.acked ≡ f.sent) → IsFresh now (timer_of sending f now w)
watch_fresh sending f now w all = either sending
    (λ only_if. record { plan = Common; fresh = rw only_if refl })
    (λ off. record { plan = Probe; fresh = rw (off, eq-eqb f.acked f.sent (all off)) refl })

-- nothing that was acknowledged is past what was sent
pub not_past : (f : Flow) (s : Incoming) → is_beyond f s ≡ false → is_current f s ≡ true → f.acked + advance_of f s ≤ f.sent
not_past f s within current = ⊎_elim
    (λ acknowledged_place. absurd (clash (is_current f s) current acknowledged_place))
    (λ low. ltb-false f.sent (f.acked + advance_of f s) low)
    (and_cases (is_current f s) (ltb f.sent (f.acked + advance_of f s)) within)

pub acked_now : (f : Flow) (s : Incoming) → is_current f s ≡ true → (with_segment s f).acked ≡ f.acked + advance_of f s
acked_now f s current = rw current refl

pub acked_still : (f : Flow) (s : Incoming) → is_current f s ≡ false → (with_segment s f).acked ≡ f.acked
acked_still f s acknowledged_place = rw acknowledged_place refl

pub not_beyond : (f : Flow) (s : Incoming) → is_taken f s ≡ true → is_beyond f s ≡ false
not_beyond f s taken =
    let first : (not s.syn && (not s.rst && not (is_beyond f s))) ≡ true = (and_parts s.ack (not s.syn && (not s.rst && not (is_beyond f s))) taken).1 in
    let second : (not s.rst && not (is_beyond f s)) ≡ true = (and_parts (not s.syn) (not s.rst && not (is_beyond f s)) first).1 in
    not-true (is_beyond f s) (and_parts (not s.rst) (not (is_beyond f s)) second).1

pub by_advance : (f : Flow) (s : Incoming) → is_taken f s ≡ true → advances f s ≡ true → is_sending (advances f s) (with_segment s f) ≡ false → (with_segment s f).acked ≡ f.sent
by_advance f s taken only_if still =
    let current : is_current f s ≡ true = (and_parts (is_current f s) (ltb 0 (advance_of f s)) only_if).0 in
    let most : f.acked + advance_of f s ≤ f.sent = not_past f s (not_beyond f s taken) current in
    let none : (advances f s && ltb (with_segment s f).acked f.sent) ≡ false = (or_parts (advances f s && ltb (with_segment s f).acked f.sent) _ still).0 in
    ⊎_elim
    (λ off. absurd (clash (advances f s) only_if off))
    (λ low. let least : f.sent ≤ (with_segment s f).acked = ltb-false (with_segment s f).acked f.sent low in omega (arith, least, most, acked_now f s current))
    (and_cases (advances f s) (ltb (with_segment s f).acked f.sent) none)

pub by_rest : (f : Flow) (s : Incoming) → is_taken f s ≡ true → f.acked ≡ f.sent → (with_segment s f).acked ≡ f.sent
by_rest f s taken same = either (is_current f s)
    (λ current. let most : f.acked + advance_of f s ≤ f.sent = not_past f s (not_beyond f s taken) current in omega (arith, most, same, acked_now f s current))
    (λ acknowledged_place. acked_still f s acknowledged_place ∙ same)

taken_fresh : (f : Flow) (s : Incoming) (now : ℕ) (w : TryTimer) → is_taken f s ≡ true → (advances f s || f.acked == f.sent) ≡ true → IsFresh now (segment_timer 0 (flowing f) s now w)
taken_fresh f s now w taken why = rw taken (watch_fresh (is_sending (advances f s) (with_segment s f)) (with_segment s f) now w
    (λ still. ⊎_elim (λ only_if. by_advance f s taken only_if still) (λ same. by_rest f s taken (eqb-true f.acked f.sent same)) (or_cases (advances f s) (f.acked == f.sent) why)))

-- an answer that doesn't end the connection starts its timer anew
pub answer_restarts : (isn : ℕ) (f : Flow) (m : Arrival) (now : ℕ) (w : TryTimer) → is_answer isn (flowing f) m.segment ≡ true → is_reset f m.segment ≡ false
    → IsFresh now (timer_by isn (flowing f) (segment_came m now) w)
answer_restarts isn f m now w only_if alive = ⊎_elim
    (λ reset. absurd (clash (is_reset f m.segment) reset alive))
    (λ both. taken_fresh f m.segment now w (and_parts (is_taken f m.segment) (advances f m.segment || f.acked == f.sent) both).0 (and_parts (is_taken f m.segment) (advances f m.segment || f.acked == f.sent) both).1)
    (or_cases (is_reset f m.segment) (is_taken f m.segment && (advances f m.segment || f.acked == f.sent)) only_if)

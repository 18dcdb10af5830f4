-- Where a segment's bytes lie in the peer's stream.
use Rattle.std.proofs.Common.{◌≡◌, ◌≤◌, ◌<◌, ℕ, suc, ◌+◌, ◌%◌, ◌^◌, ◌==◌, List, [], ◌∷◌, Bool, false, refl, ap, ◌∙◌, sym, subst, arith, ltb, ◌⊎◌, inl, inr}
use Rattle.std.specs.List.{slice_get}
use Rattle.std.proofs.lemmas.Bool.{ltb-false, eqb-true, eq-eqb, cases_lt, false≢true}
use Rattle.nb_streams.specs.Segments.{ahead, places}
use Rattle.nb_streams.specs.Streams.{byte_at, if_here}
use Rattle.nb_streams.proofs.StreamLaws.{either}
use Rattle.nb_streams.proofs.PieceLaws.{ahead_at}

pub ahead_low : (from to : ℕ) → ahead from to < 2 ^ 32
ahead_low from to = omega arith

pub ahead_back : (from to : ℕ) → (from + ahead from to) % 2 ^ 32 ≡ to % 2 ^ 32
ahead_back from to = omega arith

zero_ahead : (x at e : ℕ) → ahead x at ≡ e → ahead at (x + e) ≡ 0
zero_ahead x at e is = ahead_at at (x + e) 0 (omega arith) (omega (arith, subst (λ k. (x + k) % 2 ^ 32 ≡ at % 2 ^ 32) is (ahead_back x at)))

step_ahead : (x at e : ℕ) → e < 2 ^ 32 → (ahead x at ≡ e → ⊥) → ahead at (x + e) ≡ suc (ahead (at + 1) (x + e))
step_ahead x at e l apart =
    let k : ℕ = ahead (at + 1) (x + e) in
    let back : ((at + 1) + ahead (at + 1) (x + e)) % 2 ^ 32 ≡ (x + e) % 2 ^ 32 = ahead_back (at + 1) (x + e) in
    let low : ahead (at + 1) (x + e) < 2 ^ 32 = ahead_low (at + 1) (x + e) in
    by_low x at e (ahead (at + 1) (x + e)) l apart back low (cases_lt (suc (ahead (at + 1) (x + e))) (2 ^ 32))
  where
    by_low : (x at e k : ℕ) → e < 2 ^ 32 → (ahead x at ≡ e → ⊥) → ((at + 1) + k) % 2 ^ 32 ≡ (x + e) % 2 ^ 32 → k < 2 ^ 32 → (suc k < 2 ^ 32) ⊎ (2 ^ 32 ≤ suc k) → ahead at (x + e) ≡ suc k
    by_low x at e k l apart back low (inl small) = ahead_at at (x + e) (suc k) small (omega (arith, back))
    by_low x at e k l apart back low (inr large) = absurd (apart (ahead_at x at e l (omega (arith, back, low, large))))

-- the byte for a place of the window is the segment's, by how far the place's number is ahead of the segment's
pub place_byte : (width first n e at : ℕ) (bytes : List ℕ) → e < width → e < 2 ^ 32 → byte_at (n + e) (places width first n at bytes) ≡ slice_get bytes (ahead at ((first + n) + e))
place_byte width first n e at [] inside l = refl
place_byte width first n e at (b ∷ bytes) inside l = either (ltb (ahead (first + n) at) width)
    (λ t. rw t (either ((n + ahead (first + n) at) == (n + e))
    (λ here. let same : ahead (first + n) at ≡ e = omega (arith, eqb-true (n + ahead (first + n) at) (n + e) here) in
    ap (λ (c : Bool). if_here c b (byte_at (n + e) (places width first n (at + 1) bytes))) here ∙ ap (λ (k : ℕ). slice_get (b ∷ bytes) k) (sym (zero_ahead (first + n) at e same)))
    (λ off. ap (λ (c : Bool). if_here c b (byte_at (n + e) (places width first n (at + 1) bytes))) off
    ∙ place_byte width first n e (at + 1) bytes inside l ∙ later first n e at b bytes l (λ same. differs (n + ahead (first + n) at) (n + e) off (ap (λ k. n + k) same)))))
    (λ f. rw f (place_byte width first n e (at + 1) bytes inside l ∙ later first n e at b bytes l (λ same. beyond (ahead (first + n) at) width e inside (ltb-false (ahead (first + n) at) width f) same)))
  where
    later : (first n e at b : ℕ) (bytes : List ℕ) → e < 2 ^ 32 → (ahead (first + n) at ≡ e → ⊥) → slice_get bytes (ahead (at + 1) ((first + n) + e)) ≡ slice_get (b ∷ bytes) (ahead at ((first + n) + e))
    later first n e at b bytes l apart = ap (λ (k : ℕ). slice_get (b ∷ bytes) k) (sym (step_ahead (first + n) at e l apart))

    differs : (a b : ℕ) → (a == b) ≡ false → a ≡ b → ⊥
    differs a b off same = false≢true (sym off ∙ eq-eqb a b same)

    beyond : (d w e : ℕ) → e < w → w ≤ d → d ≡ e → ⊥
    beyond d w e l m same = omega (arith, l, m, same)

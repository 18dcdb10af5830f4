-- The window's bytes are those of a map by the first pair, and its next place is the least that isn't held.
use Rattle.std.proofs.Common.{◌≡◌, ℕ, suc, ◌+◌, ◌-◌, ◌≤◌, ◌==◌, ◌&&◌, nat_lt, nat_le, Bool, true, false, cond, Option, Some, None, List, [], ◌∷◌, ◌++◌, refl, sym, ap, ◌∙◌, arith}
use Rattle.std.specs.Option.{option_or, is_some}
use Rattle.std.specs.List.{slice_get}
use Rattle.std.proofs.lemmas.Bool.{ltb-true, ltb-false, eqb-true}
use Rattle.std.proofs.lemmas.Bool.Decides.{nat_tests}
use Rattle.nb_streams.specs.Streams.{byte_at, if_here}
use Rattle.nb_streams.proofs.StreamLaws.{either}
use Rattle.nb_reasm.specs.Rings.{capacity, held_byte, IsRing}
use Rattle.nb_reasm.specs.Windows.{HeldWindow, window_of, is_inside, window_byte, window_pairs, HoldsPairs, NextIsLeast}
use Rattle.nb_reasm.specs.declared.ring.Ring.{Ring}
use Rattle.nb_reasm.proofs.RingLemmas.{unequal}
use Rattle.nb_reasm.proofs.SpotLemmas.{held_front, held_free, held_above}
use Rattle.nb_reasm.proofs.PutLemmas.{byte_if, le_of}

pub next_is_least : (r : Ring) → IsRing r → NextIsLeast (window_of r)
next_is_least r is = (is.joinable.from, is.joinable.to, none, λ p h l. ap (λ (o : Option ℕ). is_some o) (held_front r p h l))
  where
    none : held_byte r r.next ≡ None
    none = either (nat_lt r.next (r.base + capacity r))
        (λ t. held_free r r.next (omega arith) (is.here (ltb-true r.next (r.base + capacity r) t)))
        (λ f. held_above r r.next (omega arith) (ltb-false r.next (r.base + capacity r) f))

pub byte_at-append : (p : ℕ) (xs ys : List (ℕ × ℕ)) → byte_at p (xs ++ ys) ≡ option_or (byte_at p xs) (byte_at p ys)
byte_at-append p [] ys = refl
byte_at-append p (q ∷ xs) ys = ap (λ (o : Option ℕ). if_here (q.0 == p) q.1 o) (byte_at-append p xs ys) ∙ first (q.0 == p) q.1 (byte_at p xs) (byte_at p ys)
  where
    first : (b : Bool) (x : ℕ) (m n : Option ℕ) → if_here b x (option_or m n) ≡ option_or (if_here b x m) n
    first true x m n = refl
    first false x m n = refl

nothing_left : (w : HeldWindow) (pos p : ℕ) → window_byte w pos [] p ≡ None
nothing_left w pos p = either (is_inside w p && nat_le pos p) (λ t. byte_if w pos [] p true t) (λ f. byte_if w pos [] p false f)

one_later : (w : HeldWindow) (pos b : ℕ) (bytes : List ℕ) (p : ℕ) → (p ≡ pos → ⊥) → window_byte w (pos + 1) bytes p ≡ window_byte w pos (b ∷ bytes) p
one_later w pos b bytes p apart = either (is_inside w p && nat_le pos p)
    (λ t. byte_if w (pos + 1) bytes p true (later (is_inside w p) t) ∙ ap (λ (k : ℕ). slice_get (b ∷ bytes) k) (offset (le_of (is_inside w p) pos p t)) ∙ sym (byte_if w pos (b ∷ bytes) p true t))
    (λ f. byte_if w (pos + 1) bytes p false (sooner (is_inside w p) f) ∙ sym (byte_if w pos (b ∷ bytes) p false f))
  where
    later : (a : Bool) → a && nat_le pos p ≡ true → a && nat_le (pos + 1) p ≡ true
    later a t = grind (arith, nat_tests)

    sooner : (a : Bool) → a && nat_le pos p ≡ false → a && nat_le (pos + 1) p ≡ false
    sooner a f = grind (arith, nat_tests)

    offset : pos ≤ p → suc (p - (pos + 1)) ≡ p - pos
    offset h = omega (arith, h, apart)

pub pairs_byte : (w : HeldWindow) (pos : ℕ) (bytes : List ℕ) (p : ℕ) → byte_at p (window_pairs w pos bytes) ≡ window_byte w pos bytes p
pairs_byte w pos [] p = sym (nothing_left w pos p)
pairs_byte w pos (b ∷ bytes) p = either (is_inside w pos)
    (λ t. ap (λ (c : Bool). byte_at p (cond c ((pos, b) ∷ window_pairs w (pos + 1) bytes) (window_pairs w (pos + 1) bytes))) t ∙ either (pos == p)
    (λ e. ap (λ (c : Bool). if_here c b (byte_at p (window_pairs w (pos + 1) bytes))) e ∙ sym (here t (eqb-true pos p e)))
    (λ f. ap (λ (c : Bool). if_here c b (byte_at p (window_pairs w (pos + 1) bytes))) f ∙ pairs_byte w (pos + 1) bytes p ∙ one_later w pos b bytes p (λ e. unequal pos p f (sym e))))
    (λ f. ap (λ (c : Bool). byte_at p (cond c ((pos, b) ∷ window_pairs w (pos + 1) bytes) (window_pairs w (pos + 1) bytes))) f ∙ pairs_byte w (pos + 1) bytes p ∙ either (p == pos)
    (λ e. outside w (pos + 1) bytes p (at_place f (eqb-true p pos e)) ∙ sym (outside w pos (b ∷ bytes) p (at_place f (eqb-true p pos e))))
    (λ g. one_later w pos b bytes p (unequal p pos g)))
  where
    both : (a : Bool) (q : ℕ) → a ≡ true → a && nat_le q q ≡ true
    both a q t = grind (arith, nat_tests)

    none : (q : ℕ) → q - q ≡ 0
    none q = omega arith

    here : is_inside w pos ≡ true → pos ≡ p → window_byte w pos (b ∷ bytes) p ≡ Some b
    here t e =
        ap (λ (q : ℕ). window_byte w pos (b ∷ bytes) q) (sym e)
        ∙ byte_if w pos (b ∷ bytes) pos true (both (is_inside w pos) pos t)
        ∙ ap (λ (k : ℕ). slice_get (b ∷ bytes) k) (none pos)

    at_place : is_inside w pos ≡ false → p ≡ pos → is_inside w p ≡ false
    at_place f e = ap (λ (q : ℕ). is_inside w q) e ∙ f

    outside : (w : HeldWindow) (from : ℕ) (xs : List ℕ) (q : ℕ) → is_inside w q ≡ false → window_byte w from xs q ≡ None
    outside w from xs q f = byte_if w from xs q false (ap (λ (c : Bool). c && nat_le from q) f)

pub put_stands : (w v : HeldWindow) (pos : ℕ) (bytes : List ℕ) → v.base ≡ w.base → ((p : ℕ) → v.at p ≡ option_or (w.at p) (window_byte w pos bytes p)) → (pairs : List (ℕ × ℕ)) → HoldsPairs w pairs → HoldsPairs v (pairs ++ window_pairs w pos bytes)
put_stands w v pos bytes base held pairs holds p h =
    held p
    ∙ ap (λ (o : Option ℕ). option_or o (window_byte w pos bytes p)) (holds p (omega (arith, h, base)))
    ∙ ap (λ (o : Option ℕ). option_or (byte_at p pairs) o) (sym (pairs_byte w pos bytes p))
    ∙ sym (byte_at-append p pairs (window_pairs w pos bytes))

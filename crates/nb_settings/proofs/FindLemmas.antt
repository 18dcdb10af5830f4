-- The first of a list that passes a test.
use Rattle.std.proofs.Common.{◌≡◌, ℕ, zero, suc, ◌+◌, ◌<◌, ◌≤◌, Bool, true, false, ◌&&◌, List, [], ◌∷◌, map, Some, refl, ap, ◌∙◌, sym, arith}
use Rattle.std.specs.Prelude.{find, option_map}
use Rattle.std.specs.List.{range_with_len}
use Rattle.std.proofs.lemmas.Option.{same_Some}

-- either answer of a test
pub either_way : {P : Type 0} (b : Bool) → (b ≡ true → P) → (b ≡ false → P) → P
either_way true on off = on refl
either_way false on off = off refl

-- two tests that both pass
pub both : (a b : Bool) → (a && b) ≡ true → (a ≡ true) × (b ≡ true)
both true true h = (refl, refl)
both true false h = absurd cc
both false b h = absurd cc

-- the first of a mapped list is the mapped first
pub find-map : {A B : Type 0} (f : A → B) (p : B → Bool) (xs : List A) → option_map f (find (λ x. p (f x)) xs) ≡ find p (map f xs)
find-map f p [] = refl
find-map f p (x ∷ xs) = either_way (p (f x)) (λ on. rw on refl) (λ off. rw off (find-map f p xs))

-- what is found passes, and is in the range
pub find-in_range : (p : ℕ → Bool) (a len n : ℕ) → find p (range_with_len a len) ≡ Some n → (a ≤ n) × (n < a + len) × (p n ≡ true)
find-in_range p a zero n h = absurd cc
find-in_range p a (suc len) n h = either_way (p a)
    (λ on.
    let same : a ≡ n = same_Some a n (rw on at h) in
    (omega arith, omega arith, ap p (sym same) ∙ on))
    (λ off.
    let later = find-in_range p (a + 1) len n (rw off at h) in
    (omega (arith, later.0), omega (arith, later.1), later.2))

-- the one number of a range that passes is found
pub find-of_range : (p : ℕ → Bool) (a len n : ℕ) → a ≤ n → n < a + len → p n ≡ true → ((k : ℕ) → a ≤ k → k ≤ n → p k ≡ true → k ≡ n) → find p (range_with_len a len) ≡ Some n
find-of_range p a zero n low high passes one = absurd (omega arith)
find-of_range p a (suc len) n low high passes one = either_way (p a)
    (λ on. let same : a ≡ n = one a (omega arith) low on in rw on (ap Some same))
    (λ off.
    let other : a ≡ n → ⊥ = λ same. (let both : true ≡ false = sym passes ∙ ap p (sym same) ∙ off in absurd cc) in
    rw off (find-of_range p (a + 1) len n (omega (arith, other)) (omega arith) passes (λ k low' high' on. one k (omega arith) high' on)))

-- what is found passes
pub find-passes : {A : Type 0} (p : A → Bool) (xs : List A) (x : A) → find p xs ≡ Some x → p x ≡ true
find-passes p [] x is = absurd cc
find-passes p (y ∷ ys) x is = either_way (p y)
    (λ on. ap p (sym (same_Some y x (rw on at is))) ∙ on)
    (λ off. find-passes p ys x (rw off at is))

-- How many places of a kind there are, from one on.
use Rattle.std.proofs.Common.{◌≡◌, ℕ, zero, suc, ◌+◌, ◌-◌, ◌<◌, ◌≤◌, max, nat_lt, Bool, true, false, cond, List, [], ◌∷◌, length, refl, sym, ap, ◌∙◌, arith}
use Rattle.std.proofs.lemmas.Bool.{ltb-true, ltb-false}
use Rattle.nb_streams.proofs.StreamLaws.{either}
use Rattle.nb_reasm.specs.Windows.{HeldWindow, is_new, new_count, places_count}

abbrev pub one_if : Bool → ℕ
one_if b = cond b 1 0

left : (n : ℕ) → 0 + n ≡ n
left n = omega arith

pub count_split : (kind : ℕ → Bool) (p m n : ℕ) → places_count kind p (m + n) ≡ places_count kind p m + places_count kind (p + m) n
count_split kind p zero n = ap (λ (i : ℕ). places_count kind p i) (left n) ∙ ap (λ (q : ℕ). places_count kind q n) (none p) ∙ sym (left (places_count kind (p + 0) n))
  where
    none : (p : ℕ) → p ≡ p + 0
    none p = omega arith
count_split kind p (suc m) n =
    let later : places_count kind (p + 1) (m + n) ≡ places_count kind (p + 1) m + places_count kind ((p + 1) + m) n = count_split kind (p + 1) m n in
    let at : (p + 1) + m ≡ p + suc m = omega arith in
    let rest : places_count kind ((p + 1) + m) n ≡ places_count kind (p + suc m) n = ap (λ (q : ℕ). places_count kind q n) at in
    ap (λ (i : ℕ). places_count kind p i) (suc_add m n) ∙ omega (arith, later, rest)
  where
    suc_add : (m n : ℕ) → suc m + n ≡ suc (m + n)
    suc_add m n = omega arith

pub count_same : (kind other : ℕ → Bool) (p n : ℕ) → ((k : ℕ) → k < n → kind (p + k) ≡ other (p + k)) → places_count kind p n ≡ places_count other p n
count_same kind other p zero same = refl
count_same kind other p (suc n) same =
    let later : places_count kind (p + 1) n ≡ places_count other (p + 1) n = count_same kind other (p + 1) n (λ k l. ap (λ (q : ℕ). kind q) (shift p k) ∙ same (k + 1) (omega (arith, l)) ∙ ap (λ (q : ℕ). other q) (sym (shift p k))) in
    let here : one_if (kind p) ≡ one_if (other p) = ap (λ (b : Bool). one_if b) (ap (λ (q : ℕ). kind q) (none p) ∙ same 0 (omega arith) ∙ ap (λ (q : ℕ). other q) (sym (none p))) in
    omega (arith, later, here)
  where
    none : (p : ℕ) → p ≡ p + 0
    none p = omega arith

    shift : (p k : ℕ) → (p + 1) + k ≡ p + (k + 1)
    shift p k = omega arith

all_count : (p n : ℕ) → places_count (λ _. true) p n ≡ n
all_count p zero = refl
all_count p (suc n) = let later : places_count (λ _. true) (p + 1) n ≡ n = all_count (p + 1) n in omega (arith, later)

no_count : (p n : ℕ) → places_count (λ _. false) p n ≡ 0
no_count p zero = refl
no_count p (suc n) = left (places_count (λ _. false) (p + 1) n) ∙ no_count (p + 1) n

pub count_all : (kind : ℕ → Bool) (p n : ℕ) → ((k : ℕ) → k < n → kind (p + k) ≡ true) → places_count kind p n ≡ n
count_all kind p n all = count_same kind (λ _. true) p n all ∙ all_count p n

pub count_none : (kind : ℕ → Bool) (p n : ℕ) → ((k : ℕ) → k < n → kind (p + k) ≡ false) → places_count kind p n ≡ 0
count_none kind p n none = count_same kind (λ _. false) p n none ∙ no_count p n

-- none of the bytes below a place counts, and none from another on
pub count_between : (w : HeldWindow) (from at pos : ℕ) (bytes : List ℕ) → ((p : ℕ) → pos ≤ p → p < from → is_new w p ≡ false) → ((p : ℕ) → at ≤ p → p < pos + length bytes → is_new w p ≡ false) → at ≤ max (pos + length bytes) from
    → new_count w pos bytes ≡ places_count (is_new w) (max pos from) (at - max pos from)
count_between w from at pos [] below above few = sym (ap (λ (n : ℕ). places_count (is_new w) (max pos from) n) nothing)
  where
    nothing : at - max pos from ≡ 0
    nothing = omega (arith, few)
count_between w from at pos (b ∷ bytes) below above few =
    let later : new_count w (pos + 1) bytes ≡ places_count (is_new w) (max (pos + 1) from) (at - max (pos + 1) from) = count_between w from at (pos + 1) bytes (λ p h l. below p (omega (arith, h)) l) (λ p h l. above p h (omega (arith, l))) (omega (arith, few)) in
    either (nat_lt pos from)
    (λ t. let l : pos < from = ltb-true pos from t in
    let none : one_if (is_new w pos) ≡ 0 = ap (λ (c : Bool). one_if c) (below pos (omega arith) l) in
    let at_from : max (pos + 1) from ≡ max pos from = omega (arith, l) in
    let moved : places_count (is_new w) (max (pos + 1) from) (at - max (pos + 1) from) ≡ places_count (is_new w) (max pos from) (at - max pos from) = ap (λ (q : ℕ). places_count (is_new w) q (at - q)) at_from in
    omega (arith, later, none, moved))
    (λ f. let h : from ≤ pos = ltb-false pos from f in
    let here : max pos from ≡ pos = omega (arith, h) in
    let next : max (pos + 1) from ≡ pos + 1 = omega (arith, h) in
    let moved : places_count (is_new w) (max (pos + 1) from) (at - max (pos + 1) from) ≡ places_count (is_new w) (pos + 1) (at - (pos + 1)) = ap (λ (q : ℕ). places_count (is_new w) q (at - q)) next in
    either (nat_lt pos at)
    (λ t. let l : pos < at = ltb-true pos at t in
    let one_more : at - pos ≡ suc (at - (pos + 1)) = omega (arith, l) in
    let all : places_count (is_new w) (max pos from) (at - max pos from) ≡ one_if (is_new w pos) + places_count (is_new w) (pos + 1) (at - (pos + 1)) = ap (λ (q : ℕ). places_count (is_new w) q (at - q)) here ∙ ap (λ (n : ℕ). places_count (is_new w) pos n) one_more in
    omega (arith, later, moved, all))
    (λ g. let l : at ≤ pos = ltb-false pos at g in
    let none : one_if (is_new w pos) ≡ 0 = ap (λ (c : Bool). one_if c) (above pos l (omega arith)) in
    let empty : places_count (is_new w) (pos + 1) (at - (pos + 1)) ≡ 0 = ap (λ (n : ℕ). places_count (is_new w) (pos + 1) n) (nothing (pos + 1) (omega (arith, l))) in
    let all : places_count (is_new w) (max pos from) (at - max pos from) ≡ 0 = ap (λ (n : ℕ). places_count (is_new w) (max pos from) n) (nothing (max pos from) (omega (arith, l))) in
    omega (arith, later, moved, empty, none, all)))
  where
    nothing : (q : ℕ) → at ≤ q → at - q ≡ 0
    nothing q h = omega (arith, h)

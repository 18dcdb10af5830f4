-- A filler, a record of a kind and a length with nothing in it, and bytes that are filled up with it.
use Rattle.std.proofs.Common.{◌≡◌, ℕ, zero, suc, ◌+◌, ◌-◌, ◌<◌, ◌≤◌, List, [], ◌∷◌, ◌++◌, length, get_or, drop, replicate, refl, sym, ap, subst, ◌∙◌, arith, inl, inr, lit≤, lit<}
use Rattle.std.proofs.lemmas.Bool.{cases_lt}
use Rattle.std.proofs.lemmas.List.{length-replicate, get_or-drop, get_or_past, get_or_append_left, get_or-append_right, get_or-replicate}
use Rattle.nb_record.specs.declared.kind.Kind.{Kind}
use Rattle.nb_record.specs.declared.kind.Kind.TheVariants as kind
use Rattle.nb_record.specs.Reading.{ms_with, record_type, least_length, greatest_length, BodyBeginsAs}
use Rattle.nb_record.proofs.KnownLemmas.{IsBytes}

zeros : ℕ → List ℕ
zeros n = replicate n 0

zeros_at : (n i d : ℕ) → i < n → get_or (zeros n) i d ≡ 0
unfolding zeros
zeros_at n i d lt = get_or-replicate {A = ℕ} n i 0 d lt

zeros_fit : (n : ℕ) → IsBytes (zeros n)
unfolding zeros
zeros_fit n i =
    elim (cases_lt i n) [
      | inl lt ↦ rw (get_or-replicate {A = ℕ} n i 0 0 lt) (lit< tt)
      | inr le ↦ rw (get_or_past {X = ℕ} (replicate n 0) i 0 (omega (arith, length-replicate {A = ℕ} n 0))) (lit< tt)
    ]

length-zeros : (n : ℕ) → length (zeros n) ≡ n
unfolding zeros
length-zeros n = length-replicate {A = ℕ} n 0

cons_fits : (x : ℕ) (xs : List ℕ) → x < 256 → IsBytes xs → IsBytes (x ∷ xs)
cons_fits x xs h fits zero = h
cons_fits x xs h fits (suc i) = fits i

pub none_fits : IsBytes []
none_fits i = lit< tt

-- its body
abbrev body_filler : Kind → ℕ → List ℕ
body_filler kind.Start n = 1 ∷ zeros (n - 2)
body_filler kind.Frame n = zeros (n - 1)
body_filler kind.Tick n = 0 ∷ 1 ∷ []
body_filler kind.Off n = []

body_filler_fits : (k : Kind) (n : ℕ) → IsBytes (body_filler k n)
body_filler_fits kind.Start n = cons_fits 1 (zeros (n - 2)) (lit< tt) (zeros_fit (n - 2))
body_filler_fits kind.Frame n = zeros_fit (n - 1)
body_filler_fits kind.Tick n = cons_fits 0 (1 ∷ []) (lit< tt) (cons_fits 1 [] (lit< tt) none_fits)
body_filler_fits kind.Off n = none_fits

length-body_filler : (k : Kind) (n : ℕ) → least_length k ≤ n → n ≤ greatest_length k → 1 + length (body_filler k n) ≡ n
length-body_filler kind.Start n low high = omega (arith, length-zeros (n - 2))
length-body_filler kind.Frame n low high = omega (arith, length-zeros (n - 1))
length-body_filler kind.Tick n low high = omega arith
length-body_filler kind.Off n low high = omega arith

-- a record of a kind and a length, with nothing in it
pub filler : Kind → ℕ → List ℕ
filler k n = 0 ∷ 0 ∷ 0 ∷ 0 ∷ record_type k ∷ body_filler k n

number_fits : (k : Kind) → record_type k < 256
number_fits kind.Start = lit< tt
number_fits kind.Frame = lit< tt
number_fits kind.Tick = lit< tt
number_fits kind.Off = lit< tt

pub four_fits : (a b c d : ℕ) (xs : List ℕ) → a < 256 → b < 256 → c < 256 → d < 256 → IsBytes xs → IsBytes (a ∷ b ∷ c ∷ d ∷ xs)
four_fits a b c d xs fa fb fc fd fits =
    cons_fits a (b ∷ c ∷ d ∷ xs) fa (cons_fits b (c ∷ d ∷ xs) fb (cons_fits c (d ∷ xs) fc (cons_fits d xs fd fits)))

pub filler_fits : (k : Kind) (n : ℕ) → IsBytes (filler k n)
unfolding filler
filler_fits k n =
    four_fits 0 0 0 0 (record_type k ∷ body_filler k n) (lit< tt) (lit< tt) (lit< tt) (lit< tt)
    (cons_fits (record_type k) (body_filler k n) (number_fits k) (body_filler_fits k n))

pub length-filler : (k : Kind) (n : ℕ) → least_length k ≤ n → n ≤ greatest_length k → length (filler k n) ≡ 4 + n
unfolding filler
length-filler k n low high = omega (arith, length-body_filler k n low high)

pub filler-4 : (k : Kind) (n : ℕ) → get_or (filler k n) 4 (record_type k) ≡ record_type k
unfolding filler
filler-4 k n = refl

-- ---- bytes filled up

-- after the bytes stands what the filler has there
filled_behind : (a t : List ℕ) (i d : ℕ) → length a ≤ i → get_or (a ++ drop (length a) t) i d ≡ get_or t i d
filled_behind a t i d le =
    get_or-append_right a (drop (length a) t) (length a) i d refl le ∙ get_or-drop (length a) t (i - length a) d
    ∙ ap (λ (k : ℕ). get_or t k d) (let k : length a + (i - length a) ≡ i = omega arith in k)

-- at each place stands what stood there, or else what the filler has there
pub at_filled : (a t : List ℕ) (i d : ℕ) → (P : ℕ → Type 0) → P (get_or a i d) → P (get_or t i d) → P (get_or (a ++ drop (length a) t) i d)
at_filled a t i d P here there =
    elim (cases_lt i (length a)) [
      | inl lt ↦ subst P (sym (get_or_append_left a (drop (length a) t) d i lt)) here
      | inr le ↦ subst P (sym (filled_behind a t i d le)) there
    ]

start_filled : (a : List ℕ) (n : ℕ) → 76 ≤ n → BodyBeginsAs kind.Start a → BodyBeginsAs kind.Start (a ++ drop (length a) (filler kind.Start n))
unfolding filler
start_filled a n big p = (
  at_filled a (filler kind.Start n) 5 1 (λ (x : ℕ). x ≡ 1) p.0 refl,
  at_filled a (filler kind.Start n) 62 0 (λ (x : ℕ). x < 64) p.1 (rw (zeros_at (n - 2) 56 0 (omega arith)) (lit< tt)),
)

-- a tick that is not whole has at most its high byte: with 1 as its low byte it is neither too little nor too much
tick_filled : (a : List ℕ) (n : ℕ) → length a < 7 → BodyBeginsAs kind.Tick a → BodyBeginsAs kind.Tick (a ++ drop (length a) (filler kind.Tick n))
unfolding filler ms_with
tick_filled a n short p =
    let t = filler kind.Tick n in
    let low0 : get_or (a ++ drop (length a) t) 6 0 ≡ 1 = filled_behind a t 6 0 (omega (arith, short)) in
    let low255 : get_or (a ++ drop (length a) t) 6 255 ≡ 1 = filled_behind a t 6 255 (omega (arith, short)) in
    let high : get_or (a ++ drop (length a) t) 5 0 ≤ 234 = at_filled a t 5 0 (λ (x : ℕ). x ≤ 234) (omega (arith, p.1)) (lit≤ tt) in
    (omega (arith, low255), omega (arith, low0, high))

pub body_filled : (k : Kind) (a : List ℕ) (n : ℕ) → least_length k ≤ n → n ≤ greatest_length k → length a < 4 + n → BodyBeginsAs k a
    → BodyBeginsAs k (a ++ drop (length a) (filler k n))
body_filled kind.Start a n low high short p = start_filled a n low p
body_filled kind.Frame a n low high short p = tt
body_filled kind.Tick a n low high short p = tick_filled a n (omega (arith, short, high)) p
body_filled kind.Off a n low high short p = tt

-- Which serials are in a list, and lists of serials that rise.
use Rattle.std.proofs.Common.{◌≡◌, ◌⊎◌, inl, inr, ℕ, ◌<◌, ◌≤◌, ◌==◌, ◌||◌, Bool, true, false, List, [], ◌∷◌, ◌++◌, refl, sym, ◌∙◌, ap, subst, arith, lt_irrefl}
use Rattle.std.specs.List.{AllByRecursion}
use Rattle.std.proofs.lemmas.Bool.{cases_Bool, eq-eqb, eqb-true, false≢true, or_cases}
use Rattle.std.proofs.lemmas.List.{map-append}
use Rattle.nb_frames.specs.Frames.{is_one_of}
use Rattle.nb_traced.specs.Holdings.{GraphObject, lowest_of, serials}

pub one_first : (x : ℕ) (xs : List ℕ) → is_one_of (x ∷ xs) x ≡ true
one_first x xs = ap (λ b. b || is_one_of xs x) (eq-eqb x x refl)

or_true : (b : Bool) → (b || true) ≡ true
or_true true = refl
or_true false = refl

pub one_later : (x y : ℕ) (xs : List ℕ) → is_one_of xs y ≡ true → is_one_of (x ∷ xs) y ≡ true
one_later x y xs h = ap (λ b. (y == x) || b) h ∙ or_true (y == x)

-- it is the first, or one of the others
pub one_cases : (x y : ℕ) (xs : List ℕ) → is_one_of (x ∷ xs) y ≡ true → (y ≡ x) ⊎ (is_one_of xs y ≡ true)
one_cases x y xs h = elim (or_cases (y == x) (is_one_of xs y) h) [ inl e ↦ inl (eqb-true y x e) | inr e ↦ inr e ]

pub one_in_first : (xs ys : List ℕ) (x : ℕ) → is_one_of xs x ≡ true → is_one_of (xs ++ ys) x ≡ true
one_in_first [] ys x h = absurd (false≢true h)
one_in_first (y ∷ xs) ys x h = elim (one_cases y x xs h) [
  | inl e ↦ subst (λ z. is_one_of (y ∷ xs ++ ys) z ≡ true) (sym e) (one_first y (xs ++ ys))
  | inr e ↦ one_later y x (xs ++ ys) (one_in_first xs ys x e)
]

pub one_in_last : (xs ys : List ℕ) (x : ℕ) → is_one_of ys x ≡ true → is_one_of (xs ++ ys) x ≡ true
one_in_last [] ys x h = h
one_in_last (y ∷ xs) ys x h = one_later y x (xs ++ ys) (one_in_last xs ys x h)

pub one_in_either : (xs ys : List ℕ) (x : ℕ) → is_one_of (xs ++ ys) x ≡ true → (is_one_of xs x ≡ true) ⊎ (is_one_of ys x ≡ true)
one_in_either [] ys x h = inr h
one_in_either (y ∷ xs) ys x h = elim (one_cases y x (xs ++ ys) h) [
  | inl e ↦ inl (subst (λ z. is_one_of (y ∷ xs) z ≡ true) (sym e) (one_first y xs))
  | inr e ↦ elim (one_in_either xs ys x e) [ inl f ↦ inl (one_later y x xs f) | inr f ↦ inr f ]
]

pub not_one : (xs : List ℕ) (x : ℕ) → (is_one_of xs x ≡ true → ⊥) → is_one_of xs x ≡ false
not_one xs x other = elim (cases_Bool (is_one_of xs x)) [ inl e ↦ absurd (other e) | inr e ↦ e ]

-- the lowest of some is one of them
pub lowest_is_one : (x : ℕ) (xs : List ℕ) → is_one_of (x ∷ xs) (lowest_of (x ∷ xs)) ≡ true
lowest_is_one x [] = one_first x []
lowest_is_one x (y ∷ ys) = one_later x (lowest_of (y ∷ ys)) (y ∷ ys) (lowest_is_one y ys)

pub lowest_in : (ps : List GraphObject) → (ps ≡ [] → ⊥) → is_one_of (serials ps) (lowest_of (serials ps)) ≡ true
lowest_in [] some = absurd (some refl)
lowest_in (p ∷ ps) some = lowest_is_one p.serial (serials ps)

pub serials_append : (ps qs : List GraphObject) → serials (ps ++ qs) ≡ serials ps ++ serials qs
serials_append ps qs = map-append (λ p. p.serial) ps qs

-- what is so of each piece is so of the one of this serial
pub at_serial : (P : ℕ → Type 0) (ps : List GraphObject) → AllByRecursion (λ p. P p.serial) ps → (x : ℕ) → is_one_of (serials ps) x ≡ true → P x
at_serial P [] all x h = absurd (false≢true h)
at_serial P (p ∷ ps) all x h = elim (one_cases p.serial x (serials ps) h) [
  | inl e ↦ subst P (sym e) all.0
  | inr e ↦ at_serial P ps all.1 x e
]

pub each_serial : (P : ℕ → Type 0) (ps : List GraphObject) → ((x : ℕ) → is_one_of (serials ps) x ≡ true → P x) → AllByRecursion (λ p. P p.serial) ps
each_serial P [] f = tt
each_serial P (p ∷ ps) f = (f p.serial (one_first p.serial (serials ps)), each_serial P ps (λ x h. f x (one_later p.serial x (serials ps) h)))

-- each was made later than those before it
abbrev pub AreRising : List GraphObject → Type 0
AreRising [] = Unit {0}
AreRising (p ∷ ps) = AllByRecursion (λ q. p.serial < q.serial) ps × AreRising ps

-- no serial stands in both parts
pub rising_parts : (ps qs : List GraphObject) (x : ℕ) → AreRising (ps ++ qs) → is_one_of (serials ps) x ≡ true → is_one_of (serials qs) x ≡ true → ⊥
rising_parts [] qs x r a b = false≢true a
rising_parts (p ∷ ps) qs x r a b = elim (one_cases p.serial x (serials ps) a) [
  | inl e ↦ lt_irrefl x (subst (λ z. z < x) (sym e) (at_serial (λ y. p.serial < y) (ps ++ qs) r.0 x (ap (λ z. is_one_of z x) (serials_append ps qs) ∙ one_in_last (serials ps) (serials qs) x b)))
  | inr e ↦ rising_parts ps qs x r.1 e b
]

all_of_first : (P : GraphObject → Type 0) (ps qs : List GraphObject) → AllByRecursion P (ps ++ qs) → AllByRecursion P ps
all_of_first P [] qs a = tt
all_of_first P (p ∷ ps) qs a = (a.0, all_of_first P ps qs a.1)

pub rising_first : (ps qs : List GraphObject) → AreRising (ps ++ qs) → AreRising ps
rising_first [] qs r = tt
rising_first (p ∷ ps) qs r = (all_of_first (λ q. p.serial < q.serial) ps qs r.0, rising_first ps qs r.1)

all_of_both : (P : GraphObject → Type 0) (ps qs : List GraphObject) → AllByRecursion P ps → AllByRecursion P qs → AllByRecursion P (ps ++ qs)
all_of_both P [] qs a b = b
all_of_both P (p ∷ ps) qs a b = (a.0, all_of_both P ps qs a.1 b)

later_all : (n m : ℕ) (qs : List GraphObject) → n ≤ m → AllByRecursion (λ q. m < q.serial) qs → AllByRecursion (λ q. n < q.serial) qs
later_all n m [] h a = tt
later_all n m (q ∷ qs) h a = (omega (arith, a.0), later_all n m qs h a.1)

-- those up to a number, and then those above it
pub rising_append : (m : ℕ) (ps qs : List GraphObject) → AreRising ps → AllByRecursion (λ p. p.serial ≤ m) ps → AreRising qs → AllByRecursion (λ q. m < q.serial) qs → AreRising (ps ++ qs)
rising_append m [] qs r below s above = s
rising_append m (p ∷ ps) qs r below s above =
    (all_of_both (λ q. p.serial < q.serial) ps qs r.0 (later_all p.serial m qs below.0 above), rising_append m ps qs r.1 below.1 s above)

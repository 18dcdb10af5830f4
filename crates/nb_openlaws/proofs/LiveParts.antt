-- Some of the opens that live, and the others.
use Rattle.std.proofs.Common.{◌≡◌, ℕ, ◌==◌, ◌||◌, Bool, true, false, not, cond, List, [], ◌∷◌, ◌++◌, refl, sym, ◌∙◌, ap, subst, eq-eqb}
use Rattle.std.specs.Prelude.{filter}
use Rattle.std.specs.List.{AllByRecursion}
use Rattle.std.proofs.lemmas.Bool.{eqb-true}
use Rattle.nb_tftp.proofs.BlockLemmas.{either_way}
use Rattle.nb_drivecmd.specs.declared.drive.Drive.{Drive}
use Rattle.nb_machine.specs.Lives.{Live}
use Rattle.nb_machine.specs.Scripts.{has_number}
use Rattle.nb_machine.specs.Courses.{drives_first}
use Rattle.nb_openlaws.specs.Standings.{lives_among, HaveOwnNumbers}

with_one : (P : Live → Type 0) (l : Live) (ls : List Live) (b : Bool) → P l → AllByRecursion P ls → AllByRecursion P (cond b (l ∷ ls) ls)
with_one P l ls true here h = (here, h)
with_one P l ls false here h = h

pub all_filter : (P : Live → Type 0) (f : Live → Bool) (ls : List Live) → AllByRecursion P ls → AllByRecursion P (filter f ls)
all_filter P f [] h = tt
all_filter P f (l ∷ ls) h = with_one P l (filter f ls) (f l) h.0 (all_filter P f ls h.1)

-- those that a test takes, and those that it leaves
abbrev pub left_by_test : (Live → Bool) → List Live → List Live
left_by_test f ls = filter (λ l. not (f l)) ls

or_swap : (a b c : Bool) → (a || (b || c)) ≡ (b || (a || c))
or_swap true true c = refl
or_swap true false c = refl
or_swap false b c = refl

or_deep : (a b c : Bool) → (a || (b || c)) ≡ ((a || b) || c)
or_deep true b c = refl
or_deep false b c = refl

one_among : (j : ℕ) (l : Live) (xs ys : List Live) (b : Bool) → ((l.number == j) || (lives_among j xs || lives_among j ys)) ≡ (lives_among j (cond b (l ∷ xs) xs) || lives_among j (cond (not b) (l ∷ ys) ys))
one_among j l xs ys true = or_deep (l.number == j) (lives_among j xs) (lives_among j ys)
one_among j l xs ys false = or_swap (l.number == j) (lives_among j xs) (lives_among j ys)

-- a number is among both together
pub among_both : (j : ℕ) (f : Live → Bool) (ls : List Live) → lives_among j ls ≡ (lives_among j (filter f ls) || lives_among j (left_by_test f ls))
among_both j f [] = refl
among_both j f (l ∷ ls) = ap (λ z. (l.number == j) || z) (among_both j f ls) ∙ one_among j l (filter f ls) (left_by_test f ls) (f l)

or_one : (a b : Bool) → (a || b) ≡ false → a ≡ false
or_one true b e = absurd (let no : true ≡ false = e in cc no)
or_one false b e = refl

or_two : (a b : Bool) → (a || b) ≡ false → b ≡ false
or_two true b e = absurd (let no : true ≡ false = e in cc no)
or_two false b e = e

pub not_taken : (j : ℕ) (f : Live → Bool) (ls : List Live) → lives_among j ls ≡ false → lives_among j (filter f ls) ≡ false
not_taken j f ls none = or_one (lives_among j (filter f ls)) (lives_among j (left_by_test f ls)) (sym (among_both j f ls) ∙ none)

pub not_left : (j : ℕ) (f : Live → Bool) (ls : List Live) → lives_among j ls ≡ false → lives_among j (left_by_test f ls) ≡ false
not_left j f ls none = or_two (lives_among j (filter f ls)) (lives_among j (left_by_test f ls)) (sym (among_both j f ls) ∙ none)

own_with : (l : Live) (ls : List Live) (b : Bool) → lives_among l.number ls ≡ false → HaveOwnNumbers ls → HaveOwnNumbers (cond b (l ∷ ls) ls)
own_with l ls true other h = (other, h)
own_with l ls false other h = h

-- their numbers are their own
pub own_taken : (f : Live → Bool) (ls : List Live) → HaveOwnNumbers ls → HaveOwnNumbers (filter f ls)
own_taken f [] h = tt
own_taken f (l ∷ ls) h = own_with l (filter f ls) (f l) (not_taken l.number f ls h.0) (own_taken f ls h.1)

later_among : (b c : Bool) → b ≡ false → (b || c) ≡ true → c ≡ true
later_among true c e g = absurd (let no : true ≡ false = e in cc no)
later_among false c e g = g

both_not : (b c : Bool) → b ≡ false → c ≡ false → (b || c) ≡ false
both_not true c e g = absurd (let no : true ≡ false = e in cc no)
both_not false c e g = g

one_apart : (j : ℕ) (l : Live) (xs ys : List Live) (b : Bool) → ((l.number == j) ≡ true → lives_among j xs ≡ false) → ((l.number == j) ≡ true → lives_among j ys ≡ false) → (lives_among j xs ≡ true → lives_among j ys ≡ false) →
    lives_among j (cond b (l ∷ xs) xs) ≡ true → lives_among j (cond (not b) (l ∷ ys) ys) ≡ false
one_apart j l xs ys true none also rest e = either_way (l.number == j) also (λ other. rest (later_among (l.number == j) (lives_among j xs) other e))
one_apart j l xs ys false none also rest e =
    either_way (l.number == j) (λ is. absurd (let no : false ≡ true = sym (none is) ∙ e in cc no)) (λ other. both_not (l.number == j) (lives_among j ys) other (rest e))

-- none of those is among these
pub parts_apart : (j : ℕ) (f : Live → Bool) (ls : List Live) → HaveOwnNumbers ls → lives_among j (filter f ls) ≡ true → lives_among j (left_by_test f ls) ≡ false
parts_apart j f [] h some = refl
parts_apart j f (l ∷ ls) h some =
    one_apart j l (filter f ls) (left_by_test f ls) (f l) (λ is. not_taken j f ls (here is)) (λ is. not_left j f ls (here is)) (parts_apart j f ls h.1) some
  where
    here : (l.number == j) ≡ true → lives_among j ls ≡ false
    here is = subst (λ z. lives_among z ls ≡ false) (eqb-true l.number j is) h.0

-- TWO LISTS

pub among_two : (j : ℕ) (xs ys : List Live) → lives_among j (xs ++ ys) ≡ (lives_among j xs || lives_among j ys)
among_two j [] ys = refl
among_two j (x ∷ xs) ys = ap (λ z. (x.number == j) || z) (among_two j xs ys) ∙ or_deep (x.number == j) (lives_among j xs) (lives_among j ys)

pub own_two : (xs ys : List Live) → HaveOwnNumbers xs → HaveOwnNumbers ys → ((j : ℕ) → lives_among j xs ≡ true → lives_among j ys ≡ false) → HaveOwnNumbers (xs ++ ys)
own_two [] ys h g away = g
own_two (x ∷ xs) ys h g away = (
  among_two x.number xs ys ∙ ap (λ z. z || lives_among x.number ys) h.0 ∙ away x.number (ap (λ z. z || lives_among x.number xs) (same x.number)),
  own_two xs ys h.1 g (λ j some. away j (later (x.number == j) (lives_among j xs) some)),
)
  where
    same : (n : ℕ) → (n == n) ≡ true
    same n = eq-eqb n n refl

    later : (b c : Bool) → c ≡ true → (b || c) ≡ true
    later true c e = refl
    later false c e = e

-- THE DRIVES FIRST

pub all_first : (P : Live → Type 0) (drives : List Drive) (ls : List Live) → AllByRecursion P ls → AllByRecursion P (drives_first drives ls)
all_first P [] ls h = h
all_first P (d ∷ drives) ls h =
    all_two (filter (has_number d.open_number) ls) (drives_first drives (left_by_test (has_number d.open_number) ls)) (all_filter P (has_number d.open_number) ls h)
    (all_first P drives (left_by_test (has_number d.open_number) ls) (all_filter P (λ l. not (has_number d.open_number l)) ls h))
  where
    all_two : (xs ys : List Live) → AllByRecursion P xs → AllByRecursion P ys → AllByRecursion P (xs ++ ys)
    all_two [] ys h g = g
    all_two (x ∷ xs) ys h g = (h.0, all_two xs ys h.1 g)

pub among_first : (j : ℕ) (drives : List Drive) (ls : List Live) → lives_among j (drives_first drives ls) ≡ lives_among j ls
among_first j [] ls = refl
among_first j (d ∷ drives) ls =
    let f = has_number d.open_number in
    among_two j (filter f ls) (drives_first drives (left_by_test f ls)) ∙ ap (λ z. lives_among j (filter f ls) || z) (among_first j drives (left_by_test f ls)) ∙ sym (among_both j f ls)

pub own_first : (drives : List Drive) (ls : List Live) → HaveOwnNumbers ls → HaveOwnNumbers (drives_first drives ls)
own_first [] ls h = h
own_first (d ∷ drives) ls h =
    let f = has_number d.open_number in
    own_two (filter f ls) (drives_first drives (left_by_test f ls)) (own_taken f ls h) (own_first drives (left_by_test f ls) (own_taken (λ l. not (f l)) ls h))
    (λ j some. among_first j drives (left_by_test f ls) ∙ parts_apart j f ls h some)

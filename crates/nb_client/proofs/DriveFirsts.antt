-- What is closed of the drives, and what lives on.
use Rattle.std.proofs.Common.{◌≡◌, ℕ, ◌+◌, ◌<◌, ◌≤◌, ◌==◌, ◌||◌, Bool, true, false, not, cond, List, [], ◌∷◌, ◌++◌, filter, refl, sym, ◌∙◌, ap, subst, arith, eq-eqb}
use Rattle.std.specs.List.{list_any}
use Rattle.std.proofs.lemmas.Bool.{eqb-true}
use Rattle.nb_graph.specs.Whole.{Objects}
use Rattle.nb_nodes.specs.declared.obj.Obj.{Obj}
use Rattle.nb_drivecmd.specs.declared.drive.Drive.{Drive}
use Rattle.nb_machine.specs.Courses.{drives_first}
use Rattle.nb_machine.specs.Lives.{Live}
use Rattle.nb_machine.specs.Scripts.{has_number}
use Rattle.nb_machine.specs.States.{has_open, still_hooked}
use Rattle.nb_network.specs.declared.living.Living.{Living as Open}
use Rattle.nb_network.specs.Many.{AreOpensOf, AreRising}

-- SOME AND NONE

-- where none passes, none is taken and all are left
pub any_false : {A : Type 0} (f : A → Bool) (xs : List A) → list_any f xs ≡ false → (filter f xs ≡ []) × (filter (λ x. not (f x)) xs ≡ xs)
any_false f [] e = (refl, refl)
any_false {A} f (x ∷ xs) e = by (f x) refl (λ fails. any_false f xs fails) e
  where
    by : (b : Bool) → f x ≡ b → (list_any f xs ≡ false → (filter f xs ≡ []) × (filter (λ y. not (f y)) xs ≡ xs)) → (b || list_any f xs) ≡ false →
        (filter f (x ∷ xs) ≡ []) × (filter (λ y. not (f y)) (x ∷ xs) ≡ x ∷ xs)
    by true is none fails = absurd (let two : true ≡ false = fails in cc)
    by false is none fails =
        let rest = none fails in
        let others = filter (λ y. not (f y)) xs in (
          ap (λ b. cond b (x ∷ filter f xs) (filter f xs)) is ∙ rest.0,
          ap (λ b. cond (not b) (x ∷ others) others) is ∙ ap (λ ys. x ∷ ys) rest.1,
        )

-- one of those that are left is one of them all
pub any_left : {A : Type 0} (f h : A → Bool) (xs : List A) → list_any f (filter h xs) ≡ true → list_any f xs ≡ true
any_left f h [] e = e
any_left {A} f h (x ∷ xs) e = by (h x) (λ is. any_left f h xs is) e
  where
    either : (b : Bool) (rest : Bool) → rest ≡ true → (b || rest) ≡ true
    either true rest is = refl
    either false rest is = is

    weaker : (b c d : Bool) → (c ≡ true → d ≡ true) → (b || c) ≡ true → (b || d) ≡ true
    weaker true c d w is = refl
    weaker false c d w is = w is

    by : (b : Bool) → (list_any f (filter h xs) ≡ true → list_any f xs ≡ true) → list_any f (cond b (x ∷ filter h xs) (filter h xs)) ≡ true → (f x || list_any f xs) ≡ true
    by true rest is = weaker (f x) (list_any f (filter h xs)) (list_any f xs) rest is
    by false rest is = either (f x) (list_any f xs) (rest is)

-- DRIVES FIRST

abbrev pub others_than : ℕ → List Live → List Live
others_than n live = filter (λ l. not (has_number n l)) live

-- drives whose open doesn't live take nothing
pub first_filter : (f : Drive → Bool) (ds : List Drive) (live : List Live) → ((d : Drive) → has_open live d ≡ true → f d ≡ true) → drives_first (filter f ds) live ≡ drives_first ds live
first_filter f [] live h = refl
first_filter f (d ∷ ds) live h =
    by (f d) refl (first_filter f ds (others_than d.open_number live) (λ e lives. h e (any_left (λ l. l.number == e.open_number) (λ l. not (has_number d.open_number l)) live lives))) (first_filter f ds live h)
  where
    gone : (b : Bool) → has_open live d ≡ b → f d ≡ false → drives_first (filter f ds) live ≡ drives_first ds live → drives_first (filter f ds) live ≡ drives_first (d ∷ ds) live
    gone true lives is rest = absurd (let two : true ≡ false = sym (h d lives) ∙ is in cc)
    gone false lives is rest =
        let none = any_false (has_number d.open_number) live lives in
        rest ∙ (ap (λ z. drives_first ds z) (sym none.1) ∙ ap (λ z. z ++ drives_first ds (others_than d.open_number live)) (sym none.0))

    by : (b : Bool) → f d ≡ b → drives_first (filter f ds) (others_than d.open_number live) ≡ drives_first ds (others_than d.open_number live) → drives_first (filter f ds) live ≡ drives_first ds live →
        drives_first (cond b (d ∷ filter f ds) (filter f ds)) live ≡ drives_first (d ∷ ds) live
    by true is later rest = ap (λ z. filter (has_number d.open_number) live ++ z) later
    by false is later rest = gone (has_open live d) refl is rest

-- once the open of the first is closed, the others come
pub none_left : (n : ℕ) (live : List Live) → list_any (has_number n) (others_than n live) ≡ false
none_left n [] = refl
none_left n (l ∷ live) = by (l.number == n) refl (none_left n live)
  where
    by : (b : Bool) → (l.number == n) ≡ b → list_any (has_number n) (others_than n live) ≡ false → list_any (has_number n) (cond (not b) (l ∷ others_than n live) (others_than n live)) ≡ false
    by true is rest = rest
    by false is rest = ap (λ b. b || list_any (has_number n) (others_than n live)) is ∙ rest

pub first_next : (d : Drive) (ds : List Drive) (live : List Live) →
    drives_first (d ∷ ds) live ≡ filter (has_number d.open_number) live ++ drives_first (still_hooked (others_than d.open_number live) (d ∷ ds)) (others_than d.open_number live)
first_next d ds live =
    let left = others_than d.open_number live in
    let none = any_false (has_number d.open_number) left (none_left d.open_number live) in
    let later : drives_first (d ∷ ds) left ≡ drives_first ds left = ap (λ z. z ++ drives_first ds (others_than d.open_number left)) none.0 ∙ ap (λ z. drives_first ds z) none.1 in
    ap (λ z. filter (has_number d.open_number) live ++ z) (sym (first_filter (has_open left) (d ∷ ds) left (λ e is. is) ∙ later))

-- and it is hooked no longer
pub first_dropped : (d : Drive) (ds : List Drive) (live : List Live) → still_hooked (others_than d.open_number live) (d ∷ ds) ≡ still_hooked (others_than d.open_number live) ds
first_dropped d ds live =
    let left = others_than d.open_number live in
    ap (λ b. cond b (d ∷ still_hooked left ds) (still_hooked left ds)) (none_left d.open_number live)

-- where nothing lives, none is hooked
pub none_hooked : (ds : List Drive) → still_hooked [] ds ≡ []
none_hooked [] = refl
none_hooked (d ∷ ds) = none_hooked ds

-- ONE OPEN OF A NUMBER

abbrev pub RisingLives : ℕ → List Live → Type 0
RisingLives least [] = Unit {0}
RisingLives least (l ∷ ls) = (least ≤ l.number) × RisingLives (l.number + 1) ls

pub lives_rise : (g : Objects Obj) (os : List Open) (ls : List Live) (least most : ℕ) → AreOpensOf g os ls → AreRising least most os → RisingLives least ls
lives_rise g [] [] least most are rising = tt
lives_rise g [] (l ∷ ls) least most are rising = absurd are
lives_rise g (o ∷ os) [] least most are rising = absurd are
lives_rise g (o ∷ os) (l ∷ ls) least most are rising =
    let same : l.number ≡ o.speaker.number = are.0.called.number in
    (omega (arith, same, rising.0), lives_rise g os ls (l.number + 1) most are.1 (subst (λ k. AreRising (k + 1) most os) (sym same) rising.2))

pub none_above : (n least : ℕ) (ls : List Live) → RisingLives least ls → n < least → list_any (has_number n) ls ≡ false
none_above n least [] rising less = refl
none_above n least (l ∷ ls) rising less = by (l.number == n) refl (none_above n (l.number + 1) ls rising.1 (omega (arith, rising.0, less)))
  where
    by : (b : Bool) → (l.number == n) ≡ b → list_any (has_number n) ls ≡ false → (b || list_any (has_number n) ls) ≡ false
    by true is rest = absurd (let same : l.number ≡ n = eqb-true l.number n is in omega (arith, same, rising.0, less))
    by false is rest = rest

own_above : (front back : List Live) (own : Live) (least : ℕ) → RisingLives least (front ++ (own ∷ back)) → least ≤ own.number
own_above [] back own least rising = rising.0
own_above (l ∷ front) back own least rising = omega (arith, rising.0, own_above front back own (l.number + 1) rising.1)

pub one_of : (n : ℕ) (front back : List Live) (own : Live) (least : ℕ) → RisingLives least (front ++ (own ∷ back)) → own.number ≡ n →
    (filter (has_number n) (front ++ (own ∷ back)) ≡ own ∷ []) × (others_than n (front ++ (own ∷ back)) ≡ front ++ back)
one_of n [] back own least rising is =
    let here : has_number n own ≡ true = eq-eqb own.number n is in
    let none = any_false (has_number n) back (none_above n (own.number + 1) back rising.1 (omega (arith, is))) in (
      ap (λ b. cond b (own ∷ filter (has_number n) back) (filter (has_number n) back)) here ∙ ap (λ z. own ∷ z) none.0,
      ap (λ b. cond (not b) (own ∷ others_than n back) (others_than n back)) here ∙ none.1,
    )
one_of n (l ∷ front) back own least rising is = by (l.number == n) refl (one_of n front back own (l.number + 1) rising.1 is)
  where
    by : (b : Bool) → (l.number == n) ≡ b → (filter (has_number n) (front ++ (own ∷ back)) ≡ own ∷ []) × (others_than n (front ++ (own ∷ back)) ≡ front ++ back) →
        (filter (has_number n) ((l ∷ front) ++ (own ∷ back)) ≡ own ∷ []) × (others_than n ((l ∷ front) ++ (own ∷ back)) ≡ (l ∷ front) ++ back)
    by true same rest = absurd (let number : l.number ≡ n = eqb-true l.number n same in omega (arith, number, is, own_above front back own (l.number + 1) rising.1))
    by false other rest =
        let all = front ++ (own ∷ back) in (
          ap (λ b. cond b (l ∷ filter (has_number n) all) (filter (has_number n) all)) other ∙ rest.0,
          ap (λ b. cond (not b) (l ∷ others_than n all) (others_than n all)) other ∙ ap (λ z. l ∷ z) rest.1,
        )

-- of the opens that live, one has this number
pub split_one : (g : Objects Obj) (os : List Open) (most n : ℕ) (live front back : List Live) (own : Live) → AreOpensOf g os live → AreRising 0 most os → live ≡ front ++ (own ∷ back) → own.number ≡ n →
    (filter (has_number n) live ≡ own ∷ []) × (others_than n live ≡ front ++ back)
split_one g os most n live front back own are rising all is =
    subst (λ z. (filter (has_number n) z ≡ own ∷ []) × (others_than n z ≡ front ++ back)) (sym all)
    (one_of n front back own 0 (subst (RisingLives 0) all (lives_rise g os live 0 most are rising)) is)

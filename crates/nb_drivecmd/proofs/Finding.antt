-- Drives are found by their numbers among those that are hooked.
use Rattle.std.proofs.Common.{◌≡◌, ℕ, ◌<◌, ◌≤◌, Bool, true, false, cond, not, List, [], ◌∷◌, ◌++◌, Option, Some, None, refl, sym, ap, ◌∙◌, nat_lt, filter, find, eqb-true, eq-eqb, ne_eqb, lt-ltb, le-ltb, ltb-true, ltb-false, arith}
use Rattle.std.specs.Option.{option_or}
use Rattle.std.proofs.lemmas.List.Folds.{find-append}
use Rattle.nb_drivecmd.specs.declared.drive.Drive.{Drive}
use Rattle.nb_drivecmd.specs.HookedDrives.{is_drive, drive_numbered, with_hooked, without_drive}

unlike : {P : Type 0} (b : Bool) → b ≡ true → b ≡ false → P
unlike true e f = absurd (let z = f in cc)
unlike false e f = absurd (let z = e in cc)

-- a filter that lets all of a number pass leaves the first of it
keeps_found : (k : ℕ) (q : Drive → Bool) (ds : List Drive) → ((x : Drive) → is_drive k x ≡ true → q x ≡ true) → find (is_drive k) (filter q ds) ≡ find (is_drive k) ds
keeps_found k q [] h = refl
keeps_found k q (x ∷ xs) h = by (q x) refl (is_drive k x) refl (keeps_found k q xs h)
  where
    by : (b : Bool) → q x ≡ b → (t : Bool) → is_drive k x ≡ t → find (is_drive k) (filter q xs) ≡ find (is_drive k) xs → find (is_drive k) (cond b (x ∷ filter q xs) (filter q xs)) ≡ find (is_drive k) (x ∷ xs)
    by true e true f rest = rw f refl
    by true e false f rest = rw f rest
    by false e true f rest = unlike (q x) (h x f) e
    by false e false f rest = rw f rest

-- and one that lets none of it pass leaves none
loses_found : (k : ℕ) (q : Drive → Bool) (ds : List Drive) → ((x : Drive) → is_drive k x ≡ true → q x ≡ false) → find (is_drive k) (filter q ds) ≡ None
loses_found k q [] h = refl
loses_found k q (x ∷ xs) h = by (q x) refl (is_drive k x) refl (loses_found k q xs h)
  where
    by : (b : Bool) → q x ≡ b → (t : Bool) → is_drive k x ≡ t → find (is_drive k) (filter q xs) ≡ None → find (is_drive k) (cond b (x ∷ filter q xs) (filter q xs)) ≡ None
    by true e true f rest = unlike (q x) e (h x f)
    by true e false f rest = rw f rest
    by false e t f rest = rest

abbrev below_number : ℕ → Drive → Bool
below_number n x = nat_lt x.number n

abbrev above_number : ℕ → Drive → Bool
above_number n x = nat_lt n x.number

-- what is found in three parts
in_parts : (k : ℕ) (xs : List Drive) (d : Drive) (ys : List Drive) → find (is_drive k) (xs ++ d ∷ ys) ≡ option_or (find (is_drive k) xs) (find (is_drive k) (d ∷ ys))
in_parts k xs d ys = find-append (is_drive k) xs (d ∷ ys)

pub hooked_found : (d : Drive) (ds : List Drive) → drive_numbered d.number (with_hooked d ds) ≡ Some d
hooked_found d ds =
    let n = d.number in
    let xs = filter (below_number n) ds in
    let ys = filter (above_number n) ds in
    let none : find (is_drive n) xs ≡ None = loses_found n (below_number n) ds (λ x f. le-ltb x.number n (omega (arith, eqb-true x.number n f))) in
    in_parts n xs d ys ∙ ap (λ o. option_or o (find (is_drive n) (d ∷ ys))) none ∙ ap (λ t. cond t (Some d) (find (is_drive n) ys)) (eq-eqb n n refl)

option_or_none : (o : Option Drive) → option_or o None ≡ o
option_or_none None = refl
option_or_none (Some x) = refl

apart_above : (k n : ℕ) → n ≤ k → (k ≡ n → ⊥) → n < k
apart_above k n most other = omega (arith, most, other)

pub beside_found : (d : Drive) (ds : List Drive) (k : ℕ) → (k ≡ d.number → ⊥) → drive_numbered k (with_hooked d ds) ≡ drive_numbered k ds
beside_found d ds k other = by (nat_lt k n) refl
  where
    n : ℕ
    n = d.number

    xs : List Drive
    xs = filter (below_number n) ds

    ys : List Drive
    ys = filter (above_number n) ds

    past : find (is_drive k) (d ∷ ys) ≡ find (is_drive k) ys
    past = ap (λ t. cond t (Some d) (find (is_drive k) ys)) (ne_eqb n k (λ e. other (sym e)))

    by : (b : Bool) → nat_lt k n ≡ b → find (is_drive k) (xs ++ d ∷ ys) ≡ find (is_drive k) ds
    by true e =
        let low : k < n = ltb-true k n e in
        let kept : find (is_drive k) xs ≡ find (is_drive k) ds = keeps_found k (below_number n) ds (λ x f. lt-ltb x.number n (omega (arith, low, eqb-true x.number k f))) in
        let none : find (is_drive k) ys ≡ None = loses_found k (above_number n) ds (λ x f. le-ltb n x.number (omega (arith, low, eqb-true x.number k f))) in
        in_parts k xs d ys ∙ ap (λ o. option_or (find (is_drive k) xs) o) (past ∙ none) ∙ option_or_none (find (is_drive k) xs) ∙ kept
    by false e =
        let high : n < k = apart_above k n (ltb-false k n e) other in
        let none : find (is_drive k) xs ≡ None = loses_found k (below_number n) ds (λ x f. le-ltb x.number n (omega (arith, high, eqb-true x.number k f))) in
        let kept : find (is_drive k) ys ≡ find (is_drive k) ds = keeps_found k (above_number n) ds (λ x f. lt-ltb n x.number (omega (arith, high, eqb-true x.number k f))) in
        in_parts k xs d ys ∙ ap (λ o. option_or o (find (is_drive k) (d ∷ ys))) none ∙ past ∙ kept

pub dropped_found : (k : ℕ) (ds : List Drive) → drive_numbered k (without_drive k ds) ≡ None
dropped_found k ds = loses_found k (λ x. not (is_drive k x)) ds (λ x f. ap not f)

pub kept_found : (k other : ℕ) (ds : List Drive) → (other ≡ k → ⊥) → drive_numbered other (without_drive k ds) ≡ drive_numbered other ds
kept_found k other ds apart =
    keeps_found other (λ x. not (is_drive k x)) ds (λ x f. ap not (ne_eqb x.number k (λ e. apart (sym (eqb-true x.number other f) ∙ e))))

-- Drives and the opens that live: those whose open has ended are forgotten.
use Rattle.std.proofs.Common.{◌≡◌, ℕ, ◌<◌, ◌≤◌, ◌==◌, ◌||◌, Bool, true, false, cond, List, [], ◌∷◌, ◌++◌, length, drop, filter, refl, sym, ◌∙◌, ap, arith}
use Rattle.std.proofs.lemmas.Bool.{eqb-true}
use Rattle.std.specs.List.{AllByRecursion, list_any}
use Rattle.nb_graph.specs.Whole.{Objects}
use Rattle.nb_nodes.specs.declared.obj.Obj.{Obj}
use Rattle.nb_drivecmd.specs.declared.drive.Drive.{Drive}
use Rattle.nb_machine.specs.Lives.{Live}
use Rattle.nb_machine.specs.States.{has_open, still_hooked}
use Rattle.nb_network.specs.declared.living.Living.{Living as Open}
use Rattle.nb_network.specs.Many.{AreOpensOf}
use Rattle.nb_network.specs.Ones.{HasOpen}
use Rattle.nb_client.specs.Soundness.{has_its_open, kept_drives}

-- FILTERS

pub filter_same : {A : Type 0} (f h : A → Bool) → ((x : A) → f x ≡ h x) → (xs : List A) → filter f xs ≡ filter h xs
filter_same f h e [] = refl
filter_same f h e (x ∷ xs) = ap (λ b. cond b (x ∷ filter f xs) (filter f xs)) (e x) ∙ ap (λ ys. cond (h x) (x ∷ ys) ys) (filter_same f h e xs)

pub filter_twice : {A : Type 0} (f : A → Bool) (xs : List A) → filter f (filter f xs) ≡ filter f xs
filter_twice f [] = refl
filter_twice {A} f (x ∷ xs) = by (f x) refl (filter_twice f xs)
  where
    by : (b : Bool) → f x ≡ b → filter f (filter f xs) ≡ filter f xs → filter f (cond b (x ∷ filter f xs) (filter f xs)) ≡ cond b (x ∷ filter f xs) (filter f xs)
    by true e rest = ap (λ b. cond b (x ∷ filter f (filter f xs)) (filter f (filter f xs))) e ∙ ap (λ ys. x ∷ ys) rest
    by false e rest = rest

pub filter_fewer : {A : Type 0} (f : A → Bool) (xs : List A) → length (filter f xs) ≤ length xs
filter_fewer f [] = omega arith
filter_fewer {A} f (x ∷ xs) = by (f x) (filter_fewer f xs)
  where
    by : (b : Bool) → length (filter f xs) ≤ length xs → length (cond b (x ∷ filter f xs) (filter f xs)) ≤ length (x ∷ xs)
    by true rest = omega (arith, rest)
    by false rest = omega (arith, rest)

pub all_filter : {A : Type 0} (P : A → Type 0) (f : A → Bool) (xs : List A) → AllByRecursion P xs → AllByRecursion P (filter f xs)
all_filter P f [] h = tt
all_filter {A} P f (x ∷ xs) h = by (f x) (all_filter P f xs h.1)
  where
    by : (b : Bool) → AllByRecursion P (filter f xs) → AllByRecursion P (cond b (x ∷ filter f xs) (filter f xs))
    by true rest = (h.0, rest)
    by false rest = rest

-- all are kept, and each passes
pub each_passes : {A : Type 0} (f : A → Bool) (xs : List A) → filter f xs ≡ xs → AllByRecursion (λ x. f x ≡ true) xs
each_passes f [] e = tt
each_passes {A} f (x ∷ xs) e = by (f x) refl (λ rest. each_passes f xs rest) e
  where
    by : (b : Bool) → f x ≡ b → (filter f xs ≡ xs → AllByRecursion (λ y. f y ≡ true) xs) → cond b (x ∷ filter f xs) (filter f xs) ≡ x ∷ xs → AllByRecursion (λ y. f y ≡ true) (x ∷ xs)
    by true is rest same = (is, rest (ap (drop 1) same))
    by false is rest same = absurd (omega (arith, filter_fewer f xs, ap length same))

pub all_pass : {A : Type 0} (f : A → Bool) (xs : List A) → AllByRecursion (λ x. f x ≡ true) xs → filter f xs ≡ xs
all_pass f [] h = refl
all_pass f (x ∷ xs) h = ap (λ b. cond b (x ∷ filter f xs) (filter f xs)) h.0 ∙ ap (λ ys. x ∷ ys) (all_pass f xs h.1)

pub all_weaker : {A : Type 0} (P Q : A → Type 0) → ((x : A) → P x → Q x) → (xs : List A) → AllByRecursion P xs → AllByRecursion Q xs
all_weaker P Q f [] h = tt
all_weaker P Q f (x ∷ xs) h = (f x h.0, all_weaker P Q f xs h.1)

-- where one test lets all pass, a weaker one does
pub passes_weaker : {A : Type 0} (f h : A → Bool) → ((x : A) → f x ≡ true → h x ≡ true) → (xs : List A) → filter f xs ≡ xs → filter h xs ≡ xs
passes_weaker f h w xs e = all_pass h xs (all_weaker (λ x. f x ≡ true) (λ x. h x ≡ true) w xs (each_passes f xs e))

pub any_front : {A : Type 0} (f : A → Bool) (xs ys : List A) → list_any f xs ≡ true → list_any f (xs ++ ys) ≡ true
any_front f [] ys e = absurd (let no : false ≡ true = e in cc)
any_front {A} f (x ∷ xs) ys e = by (f x) (λ rest. any_front f xs ys rest) e
  where
    by : (b : Bool) → (list_any f xs ≡ true → list_any f (xs ++ ys) ≡ true) → (b || list_any f xs) ≡ true → (b || list_any f (xs ++ ys)) ≡ true
    by true rest is = refl
    by false rest is = rest is

-- DRIVES

-- an open has one number, here and in the machine
pub has_same : (g : Objects Obj) (os : List Open) (ls : List Live) → AreOpensOf g os ls → (d : Drive) → has_its_open os d ≡ has_open ls d
has_same g [] [] are d = refl
has_same g [] (l ∷ ls) are d = absurd are
has_same g (o ∷ os) [] are d = absurd are
has_same g (o ∷ os) (l ∷ ls) are d =
    ap (λ (n : ℕ). (n == d.open_number) || list_any (λ x. x.speaker.number == d.open_number) os) (sym are.0.called.number)
    ∙ ap (λ b. (l.number == d.open_number) || b) (has_same g os ls are.1 d)

pub kept_same : (g : Objects Obj) (os : List Open) (ls : List Live) → AreOpensOf g os ls → (ds : List Drive) → kept_drives os ds ≡ still_hooked ls ds
kept_same g os ls are ds = filter_same (has_its_open os) (has_open ls) (has_same g os ls are) ds

pub kept_twice : (os : List Open) (ds : List Drive) → kept_drives os (kept_drives os ds) ≡ kept_drives os ds
kept_twice os ds = filter_twice (has_its_open os) ds

-- with another open, all stay
pub kept_more : (g h : Objects Obj) (os os' : List Open) (ls more : List Live) (ds : List Drive) → AreOpensOf g os ls → AreOpensOf h os' (ls ++ more) → kept_drives os ds ≡ ds → kept_drives os' ds ≡ ds
kept_more g h os os' ls more ds are are' e =
    kept_same h os' (ls ++ more) are' ds
    ∙ passes_weaker (has_open ls) (has_open (ls ++ more)) (λ d is. any_front (λ l. l.number == d.open_number) ls more is) ds (sym (kept_same g os ls are ds) ∙ e)

pub room_kept : (f : Drive → Bool) (ds : List Drive) → length ds < 2 → length (filter f ds) < 2
room_kept f ds h = omega (arith, h, filter_fewer f ds)

-- with the same opens, all stay
pub kept_none_more : (g h : Objects Obj) (os os' : List Open) (ls : List Live) (ds : List Drive) → AreOpensOf g os ls → AreOpensOf h os' ls → kept_drives os ds ≡ ds → kept_drives os' ds ≡ ds
kept_none_more g h os os' ls ds are are' e = kept_same h os' ls are' ds ∙ (sym (kept_same g os ls are ds) ∙ e)

-- where no open lives, none is kept
pub kept_none : (ds : List Drive) → kept_drives [] ds ≡ []
kept_none [] = refl
kept_none (d ∷ ds) = kept_none ds

-- where an open has this number, it lives
pub has_open_at : (list : List Open) (n : ℕ) → list_any (λ o. o.speaker.number == n) list ≡ true → HasOpen n list
has_open_at [] n e = absurd (let bad : false ≡ true = e in cc)
has_open_at (o ∷ os) n e = by (o.speaker.number == n) refl e (λ is. has_open_at os n is)
  where
    by : (b : Bool) → (o.speaker.number == n) ≡ b → (b || list_any (λ x. x.speaker.number == n) os) ≡ true → (list_any (λ x. x.speaker.number == n) os ≡ true → HasOpen n os) → HasOpen n (o ∷ os)
    by true is any rest = record { before = []; own = o; behind = os; all = refl; number_is = eqb-true o.speaker.number n is }
    by false is any rest =
        let k = rest any in
        record { before = o ∷ k.before; own = k.own; behind = k.behind; all = ap (λ xs. o ∷ xs) k.all; number_is = k.number_is }

-- Laws of the firings of a plan over a list of times.
use Rattle.std.proofs.Common.{◌≡◌, ℕ, ◌+◌, ◌<◌, ◌≤◌, List, [], ◌∷◌, Option, Some, None, Bool, true, false, refl, ap, arith, leb}
use Rattle.std.specs.Option.{option_map_or, IfSome}
use Rattle.std.proofs.lemmas.Bool.{lt-leb, leb-true, leb-false}
use Rattle.nb_retry.specs.Plans.{Asked, asked_at, Wait, first_from, firings}

-- every delay takes some time
abbrev pub ArePositive : List Wait → Type 0
ArePositive [] = Unit {0}
ArePositive (w ∷ ws) = (0 < w.delay) × ArePositive ws

-- either answer of a test
pub either_way : {P : Type 0} (b : Bool) → (b ≡ true → P) → (b ≡ false → P) → P
either_way true on off = on refl
either_way false on off = off refl

-- what is found is not before the moment
pub first_from-late : (moment : ℕ) (times : List ℕ) → IfSome (first_from moment times) (λ time. moment ≤ time)
first_from-late moment [] = tt
first_from-late moment (t ∷ ts) = either_way (leb moment t)
    (λ on. rw on (leb-true moment t on))
    (λ off. rw off (first_from-late moment ts))

option_map_or-same : (f g : ℕ → List Asked) (P : ℕ → Type 0) (o : Option ℕ) → IfSome o P → ((n : ℕ) → P n → f n ≡ g n) → option_map_or f o [] ≡ option_map_or g o []
option_map_or-same f g P None h same = refl
option_map_or-same f g P (Some n) h same = same n h

-- no time, no firing
pub firings-none : (last : ℕ) (ws : List Wait) → firings last ws [] ≡ []
firings-none last [] = refl
firings-none last (w ∷ ws) = refl

-- a time that is not after the last firing changes nothing
pub firings-past : (last time : ℕ) (ws : List Wait) (times : List ℕ) → ArePositive ws → time ≤ last → firings last ws (time ∷ times) ≡ firings last ws times
firings-past last time [] times positive past = refl
firings-past last time (w ∷ ws) times positive past =
    let early : leb (last + w.delay) time ≡ false = lt-leb (last + w.delay) time (omega (arith, positive.0)) in
    rw early (option_map_or-same
    (λ t. asked_at t w.says ∷ firings t ws (time ∷ times)) (λ t. asked_at t w.says ∷ firings t ws times)
    (λ t. last + w.delay ≤ t) (first_from (last + w.delay) times) (first_from-late (last + w.delay) times)
    (λ t late. ap (λ rest. asked_at t w.says ∷ rest) (firings-past t time ws times positive.1 (omega arith))))

-- nor does one before the next moment
pub firings-early : (last time : ℕ) (w : Wait) (ws : List Wait) (times : List ℕ) → ArePositive ws → leb (last + w.delay) time ≡ false → firings last (w ∷ ws) (time ∷ times) ≡ firings last (w ∷ ws) times
firings-early last time w ws times positive early =
    let before : time < last + w.delay = leb-false (last + w.delay) time early in
    rw early (option_map_or-same
    (λ t. asked_at t w.says ∷ firings t ws (time ∷ times)) (λ t. asked_at t w.says ∷ firings t ws times)
    (λ t. last + w.delay ≤ t) (first_from (last + w.delay) times) (first_from-late (last + w.delay) times)
    (λ t late. ap (λ rest. asked_at t w.says ∷ rest) (firings-past t time ws times positive (omega arith))))

-- at the moment or after it the wait ends, and the next one counts from there
pub firings-due : (last time : ℕ) (w : Wait) (ws : List Wait) (times : List ℕ) → ArePositive ws → leb (last + w.delay) time ≡ true → firings last (w ∷ ws) (time ∷ times) ≡ asked_at time w.says ∷ firings time ws times
firings-due last time w ws times positive due =
    rw due (ap (λ rest. asked_at time w.says ∷ rest) (firings-past time time ws times positive (omega arith)))

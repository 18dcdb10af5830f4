-- Words of two and of three.
use Rattle.std.proofs.Common.{◌≡◌, ◌<◌, ◌≤◌, List, [], ◌∷◌, length, map, get_or, arith, refl}

pub two : {A B : Type 0} (f : A → B) (words : List A) (x y : A) → 2 ≤ length words → length words < 3 → x ≡ get_or words 0 x → y ≡ get_or words 1 y → map f words ≡ f x ∷ f y ∷ []
two f [] x y least most first second = absurd (omega arith)
two f (a ∷ []) x y least most first second = absurd (omega arith)
two f (a ∷ b ∷ []) x y least most first second = rw (first, second) refl
two f (a ∷ b ∷ c ∷ more) x y least most first second = absurd (omega arith)

pub three : {A B : Type 0} (f : A → B) (words : List A) (x y z : A) → 3 ≤ length words → length words < 4 → x ≡ get_or words 0 x → y ≡ get_or words 1 y → z ≡ get_or words 2 z → map f words ≡ f x ∷ f y ∷ f z ∷ []
three f [] x y z least most first second third = absurd (omega arith)
three f (a ∷ []) x y z least most first second third = absurd (omega arith)
three f (a ∷ b ∷ []) x y z least most first second third = absurd (omega arith)
three f (a ∷ b ∷ c ∷ []) x y z least most first second third = rw (first, second, third) refl
three f (a ∷ b ∷ c ∷ d ∷ more) x y z least most first second third = absurd (omega arith)

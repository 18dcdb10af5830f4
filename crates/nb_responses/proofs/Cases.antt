-- Cases of a test and of an option, with the equation that each case gives.
use Rattle.std.proofs.Common.{◌≡◌, Option, Some, None, Bool, true, false, refl}

pub either : {Z : Type 0} (b : Bool) → (b ≡ true → Z) → (b ≡ false → Z) → Z
either true f g = f refl
either false f g = g refl

pub by_option : {A Z : Type 0} (o : Option A) → (o ≡ None → Z) → ((a : A) → o ≡ Some a → Z) → Z
by_option None f g = f refl
by_option (Some a) f g = g a refl

-- What holds of a call that succeeds.
use Rattle.std.proofs.Common.{◌≡◌, Option, Some, None, Result, Ok, Err, IfOk, OnOk, refl}
use Rattle.std.specs.Prelude.{option_map}
use Rattle.std.specs.Option.{is_some}

pub if_ok : {A E : Type 0} {P Q : A → Type 0} (r : Result A E) → ((x : A) → P x → Q x) → IfOk r P → IfOk r Q
if_ok (Ok x) f p = f x p
if_ok (Err e) f p = tt

-- of one that ensures several facts
pub if_ok_so : {A E B C D : Type 0} {P Q : A → Type 0} (r : Result A E) → (B → C → D → (x : A) → P x → Q x) → OnOk r B → OnOk r C → OnOk r D → IfOk r P → IfOk r Q
if_ok_so (Ok x) f b c d p = f b c d x p
if_ok_so (Err e) f b c d p = tt

-- whether something is there doesn't depend on how it is looked at
pub some_mapped : {A B : Type 0} (f : A → B) (o : Option A) → is_some o ≡ is_some (option_map f o)
some_mapped f None = refl
some_mapped f (Some x) = refl

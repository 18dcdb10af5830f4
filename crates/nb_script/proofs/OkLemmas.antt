-- Facts of an Ok, taken together.
use Rattle.std.specs.Prelude.{Result, Ok, Err}
use Rattle.std.specs.Result.{OnOk}

-- what follows from three facts of an Ok
pub ok_three : {T E A B C D : Type 0} (r : Result T E) → (A → B → C → D) → OnOk r A → OnOk r B → OnOk r C → OnOk r D
ok_three (Ok x) f a b c = f a b c
ok_three (Err e) f a b c = tt

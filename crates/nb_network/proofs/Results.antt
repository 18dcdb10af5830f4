-- What is known of a result where it is a success.
use Rattle.std.specs.Prelude.{IfOk, OnOk, Result, Ok, Err}

pub ok_map : {A E : Type 0} (P Q : A → Type 0) (r : Result A E) → ((a : A) → P a → Q a) → IfOk r P → IfOk r Q
ok_map P Q (Ok a) f h = f a h
ok_map P Q (Err e) f h = tt

pub ok_on : {A E : Type 0} (P : A → Type 0) (X : Type 0) (r : Result A E) → ((a : A) → P a → X) → IfOk r P → OnOk r X
ok_on P X (Ok a) f h = f a h
ok_on P X (Err e) f h = tt

pub on_map : {A E : Type 0} (X Y : Type 0) (r : Result A E) → (X → Y) → OnOk r X → OnOk r Y
on_map X Y (Ok a) f h = f h
on_map X Y (Err e) f h = tt

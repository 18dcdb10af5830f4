-- What holds of a call that succeeds, by two facts of it.
use Rattle.std.proofs.Common.{Result, Ok, Err, IfOk}

pub if_ok_both : {A E : Type 0} {P Q R : A → Type 0} (r : Result A E) → ((x : A) → P x → Q x → R x) → IfOk r P → IfOk r Q → IfOk r R
if_ok_both (Ok x) f p q = f x p q
if_ok_both (Err e) f p q = tt

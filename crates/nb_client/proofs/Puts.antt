-- What was put stands after a place of a log.
use Rattle.std.proofs.Common.{◌≡◌, ◌≤◌, ℕ, List, length, sym, ap, subst, arith}
use Rattle.std.proofs.lemmas.List.{length-append}
use Rattle.nb_record.specs.Logged.{Logged, Puts}

pub moved_puts : {old between new : Logged} {added : List ℕ} → new ≡ between → Puts old between added → Puts old new added
moved_puts {old} {between} {new} {added} same p = subst (λ (l : Logged). Puts old l added) (sym same) p

pub at_most : {old new : Logged} {added : List ℕ} → Puts old new added → length old.bytes ≤ length new.bytes
at_most {old} {new} {added} p = omega (arith, ap length p.appended, length-append old.bytes p.part)

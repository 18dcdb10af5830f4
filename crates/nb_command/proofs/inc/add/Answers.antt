use Rattle.std.proofs.Common.{◌≡◌, Some, sym, ◌∙◌, arith, ◌+ℤ◌, ◌≤ℤ◌, negsuc, pos, to_z, of_z, w64}
use Rattle.std.proofs.lemmas.Int.{ints}
use Rattle.nb_settings.specs.Names.{name_of}
use Rattle.nb_command.specs.Inc.{named_count}
use Rattle.nb_command.proofs.inc.add.Goals as goal

pub returns-clause-cause : goal.returns-clause-cause
returns-clause-cause c =
    let low : negsuc 2147483647 ≤ℤ c.in-Some.number = c.in-Some.ensures.low in
    let high : c.in-Some.number ≤ℤ pos 4294967295 = c.in-Some.ensures.high in
    let sum : to_z w64 (of_z w64 (to_z w64 (of_z w64 c.in-Some.number) +ℤ to_z w64 (of_z w64 c.from.result))) ≡ c.in-Some.number +ℤ c.args.by = omega (arith, ints) in
    let count : named_count (name_of c.args.name.now) c.args.table.now ≡ Some (c.in-Some.kind, c.in-Some.number) = sym c.counted_from.ensures.value ∙ c.in-Some.is in
    rw count (rw sum at c.put_number.ensures.cause)

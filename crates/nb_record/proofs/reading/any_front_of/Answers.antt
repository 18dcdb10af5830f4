use Rattle.std.proofs.Common.{◌+◌, ap, arith, ℕ}
use Rattle.nb_record.proofs.PartialLemmas.{is_partial}
use Rattle.nb_record.proofs.WholeLemmas.{front_long, front_is}
use Rattle.nb_record.proofs.reading.any_front_of.Goals as goal

pub returns-then-bytes-len : goal.returns-then-bytes-len
returns-then-bytes-len c =
    is_partial c.in-Some.kind c.args.bytes.now c.in-Some.ensures.some (λ i. omega (arith, c.type_inv.bytes i))
    (λ _. omega (arith, c.spelled_length.ensures, c.if-bytes-len.true))

pub record_of-requires : goal.record_of-requires
record_of-requires c = front_long c.in-Some.kind c.args.bytes.now _ c.in-Some.ensures.some (ap (λ (n : ℕ). 4 + n) c.spelled_length.ensures) c.if-bytes-len.false

pub returns : goal.returns
returns c =
    front_is c.in-Some.kind c.args.bytes.now _ _ c.in-Some.ensures.some (λ i. omega (arith, c.type_inv.bytes i)) (ap (λ (n : ℕ). 4 + n) c.spelled_length.ensures)
    c.if-bytes-len.false c.record_of.ensures

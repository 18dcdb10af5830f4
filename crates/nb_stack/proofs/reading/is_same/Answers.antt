use Rattle.std.proofs.Common.{◌≡◌, ℕ, List, length, ap, arith, rules}
use Rattle.std.proofs.lemmas.Bool.{eqb-true}
use Rattle.nb_wire.specs.declared.address.Mac.{Mac}
use Rattle.nb_wire.proofs.BytesLaws.{IsBytes}
use Rattle.nb_stack.proofs.MacLaws.{six_same}
use Rattle.nb_stack.proofs.reading.is_same.Goals as goal

pub returns-then-from_be_bytes : goal.returns-then-from_be_bytes
returns-then-from_be_bytes c =
    let one : length c.args.one.0 ≡ 6 = search rules in
    let other : length c.args.other.0 ≡ 6 = search rules in
    let one_fits : IsBytes c.args.one.0 = λ i. search rules in
    let other_fits : IsBytes c.args.other.0 = λ i. search rules in (
      λ same.
          let low : c.from_be_bytes-then-from_be_bytes.result ≡ c.from_be_bytes-then-from_be_bytes-2.result = eqb-true _ _ same in
          ap (λ (x : List ℕ). let m : Mac = record { 0 = x } in m)
          (six_same c.args.one.0 c.args.other.0 one other one_fits other_fits
          (omega (arith, c.from_be_bytes.ensures, c.from_be_bytes-2.ensures, c.if-from_be_bytes.true))
          (omega (arith, c.from_be_bytes-then-from_be_bytes.ensures, c.from_be_bytes-then-from_be_bytes-2.ensures, low))),
      λ same. search rules,
    )

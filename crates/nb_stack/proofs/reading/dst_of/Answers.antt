use Rattle.std.proofs.Common.{List, ℕ, ap, ◌∙◌, arith}
use Rattle.nb_wire.specs.declared.address.Mac.{Mac}
use Rattle.nb_stack.proofs.MacLaws.{dst_first, dst_whole}
use Rattle.nb_stack.proofs.reading.dst_of.Goals as goal

pub returns-in_err-dst : goal.returns-in_err-dst
returns-in_err-dst c = λ f is. absurd (omega (arith, dst_whole _ f is, c.in_err-dst.ensures.cases))

pub returns : goal.returns
returns c = λ f is.
    ap (λ (x : List ℕ). let m : Mac = record { 0 = x } in m) (c.in_ok-dst.ensures.cases.0 ∙ dst_first _ f is)

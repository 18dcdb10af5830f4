use Rattle.std.proofs.Common.{◌-◌, Bool, cond, w64, sym, ap, ◌∙◌, arith}
use Rattle.std.specs.Int.{bit_at}
use Rattle.std.proofs.lemmas.Nat.Bits.{bit_at_not}
use Rattle.nb_reasm.proofs.marks.unlike.Goals as goal

pub returns-then-marked : goal.returns-then-marked
returns-then-marked c = λ i l. bit_at_not w64 c.args.word i (omega arith) l ∙ sym (ap (λ (t : Bool). cond t (1 - bit_at c.args.word i) (bit_at c.args.word i)) c.if-marked.true)

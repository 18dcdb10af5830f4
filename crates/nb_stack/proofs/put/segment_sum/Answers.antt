use Rattle.std.proofs.Common.{arith}
use Rattle.nb_stack.proofs.SegmentLaws.{covered_has_sum}
use Rattle.nb_stack.proofs.put.segment_sum.Goals as goal

pub returns : goal.returns
returns c =
    covered_has_sum c.args.src c.args.dst c.args.len _ _ c.args.fixed.now c.pseudo_sum.ensures.sum c.requires.bytes c.requires.whole (omega arith)

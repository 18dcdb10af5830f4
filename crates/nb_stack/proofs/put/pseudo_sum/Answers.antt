use Rattle.std.proofs.Common.{◌<◌, ◌^◌, arith, rules}
use Rattle.nb_stack.proofs.SegmentLaws.{pseudo_has_sum}
use Rattle.nb_stack.proofs.put.pseudo_sum.Goals as goal

pub returns-clause-sum : goal.returns-clause-sum
returns-clause-sum c =
    let room : c.args.len < 2 ^ 16 = search rules in
    pseudo_has_sum c.args.src c.args.dst c.args.len _ room (omega arith)

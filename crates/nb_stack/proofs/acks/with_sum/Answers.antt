use Rattle.std.proofs.Common.{◌≡◌, length, ◌∙◌, rules}
use Rattle.nb_tcpseg.specs.SegmentText.{tcp_pseudo_header}
use Rattle.nb_stack.proofs.SegmentLaws.{header_whole}
use Rattle.nb_stack.proofs.acks.with_sum.Goals as goal

pub returns : goal.returns
returns c =
    let twenty : length c.args.fixed ≡ 20 = search rules in
    let front = tcp_pseudo_header c.args.src c.args.dst 20 in
    c.header_with-2.ensures ∙ header_whole c.args.src c.args.dst c.args.fixed _ _ twenty c.header_with.ensures (c.sum16_after-sum.ensures front c.pseudo_sum-before.ensures.sum)

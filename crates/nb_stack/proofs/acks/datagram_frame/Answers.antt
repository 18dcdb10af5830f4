use Rattle.std.proofs.Common.{◌≡◌, ℕ, List, ◌++◌, length, ap, ◌∙◌, rules, arith}
use Rattle.std.proofs.lemmas.List.{length-append}
use Rattle.nb_stack.specs.Sends.{packet_between}
use Rattle.nb_stack.proofs.AckLaws.{datagram_whole}
use Rattle.nb_stack.proofs.acks.datagram_frame.Goals as goal

pub returns : goal.returns
returns c =
    let body = c.head-head.result ++ c.args.body in
    let eight : length c.head-head.result ≡ 8 = search rules in
    let four : length c.args.body ≡ 4 = search rules in
    let twelve : length body ≡ 12 = omega (arith, length-append c.head-head.result c.args.body, eight, four) in
    c.with_body.ensures
    ∙ ap (λ (x : List ℕ). x ++ c.args.body) c.with_head.ensures
    ∙ datagram_whole c.frame_heads-heads.result c.head-head.result c.args.body _ (c.frame_heads-heads.ensures.put body twelve)
    ∙ ap (λ (x : List ℕ). packet_between c.args.ends 17 x) c.head-head.ensures.value

use Rattle.std.proofs.Common.{◌≡◌, ℕ, List, length, ap, ◌∙◌, rules}
use Rattle.nb_stack.specs.Sends.{packet_between}
use Rattle.nb_stack.proofs.acks.segment_frame.Goals as goal

pub returns : goal.returns
returns c =
    let twenty : length c.with_sum-head.result ≡ 20 = search rules in
    c.with_header.ensures
    ∙ c.frame_heads.ensures.put c.with_sum-head.result twenty
    ∙ ap (λ (x : List ℕ). packet_between c.args.ends 6 x) c.with_sum-head.ensures

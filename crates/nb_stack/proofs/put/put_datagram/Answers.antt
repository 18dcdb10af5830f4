use Rattle.std.proofs.Common.{◌≡◌, ℕ, ◌+◌, List, ◌++◌, length, ◌∙◌, ap, subst, arith, rules}
use Rattle.std.proofs.lemmas.List.{length-append}
use Rattle.nb_stack.specs.Sends.{packet_between}
use Rattle.nb_stack.specs.Sizes.{IsFrameSize}
use Rattle.nb_stack.proofs.PutLaws.{head_between}
use Rattle.nb_stack.proofs.put.put_datagram.Goals as goal

body_len : (c : goal.After-put-3) → length (c.head-head.result ++ (c.args.first.now ++ c.args.second.now)) ≡ 8 + (length c.args.first.now + length c.args.second.now)
body_len c =
    let head : length c.head-head.result ≡ 8 = search rules in
    omega (arith, length-append c.head-head.result (c.args.first.now ++ c.args.second.now), length-append c.args.first.now c.args.second.now, head)

pub returns-clause-put : goal.returns-clause-put
returns-clause-put c =
    let body = c.head-head.result ++ (c.args.first.now ++ c.args.second.now) in
    let written : c.put-3.new.out.written ≡ ((c.args.out.now.written ++ (c.frame_heads-heads.result ++ c.head-head.result)) ++ c.args.first.now) ++ c.args.second.now =
    cc (c.put-3.ensures.put, c.put-2.ensures.put, c.put.ensures.put, c.with_head.ensures) in
    head_between c.args.out.now.written c.frame_heads-heads.result c.head-head.result c.args.first.now c.args.second.now _ _ written (c.frame_heads-heads.ensures.put body (body_len c))
    ∙ ap (λ (x : List ℕ). c.args.out.now.written ++ packet_between c.args.ends 17 x) c.head-head.ensures.value

pub returns-clause-size : goal.returns-clause-size
returns-clause-size c =
    let body = c.head-head.result ++ (c.args.first.now ++ c.args.second.now) in
    let size : length (packet_between c.args.ends 17 body) ≡ 34 + (8 + (length c.args.first.now + length c.args.second.now)) = omega (arith, c.frame_heads-heads.ensures.size body (body_len c)) in
    let whole : IsFrameSize (length (packet_between c.args.ends 17 body)) = record { least = omega (arith, size); most = omega (arith, size, c.requires.short) } in
    let P : List ℕ → Type 0 = λ x. IsFrameSize (length (packet_between c.args.ends 17 x)) in
    subst P c.head-head.ensures.value whole

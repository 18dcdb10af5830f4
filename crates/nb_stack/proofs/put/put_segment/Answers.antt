use Rattle.std.proofs.Common.{◌≡◌, ◌+◌, ◌++◌, List, ℕ, length, ◌∙◌, sym, ap, subst, arith}
use Rattle.std.proofs.lemmas.List.{length-append}
use Rattle.nb_wire.proofs.BytesLaws.{IsBytes, Splits, splits_of, IsBytes-front}
use Rattle.nb_tcpseg.specs.SegmentText.{tcp_pseudo_header}
use Rattle.nb_stack.specs.Sends.{packet_between, without_checksum, with_checksum}
use Rattle.nb_stack.specs.Sizes.{IsFrameSize}
use Rattle.nb_stack.proofs.SegmentLaws.{segment_whole}
use Rattle.nb_stack.proofs.put.put_segment.Goals as goal

pub segment_sum-before-requires-clause-whole : goal.segment_sum-before-requires-clause-whole
segment_sum-before-requires-clause-whole c =
    let cut = rw c.unwrap.ensures at c.split_first_chunk.ensures.cases in
    let splits : Splits 20 c.args.first.now c.unwrap.result.0.now c.unwrap.result.1.now = splits_of 20 _ _ _ cut.0 cut.1 cut.2 in
    splits.len

pub segment_sum-before-requires-clause-bytes : goal.segment_sum-before-requires-clause-bytes
segment_sum-before-requires-clause-bytes c =
    let cut = rw c.unwrap.ensures at c.split_first_chunk.ensures.cases in
    let splits : Splits 20 c.args.first.now c.unwrap.result.0.now c.unwrap.result.1.now = splits_of 20 _ _ _ cut.0 cut.1 cut.2 in
    let fits : IsBytes c.args.first.now = λ i. omega (arith, c.type_inv.first i) in
    IsBytes-front 20 _ _ _ splits fits

text_is : (c : goal.After-put_packet) → c.header_with-head.result ++ (c.unwrap.result.1.now ++ c.args.second.now) ≡ with_checksum c.args.ends.from c.args.ends.to (c.args.first.now ++ c.args.second.now)
text_is c =
    let cut = rw c.unwrap.ensures at c.split_first_chunk.ensures.cases in
    let splits : Splits 20 c.args.first.now c.unwrap.result.0.now c.unwrap.result.1.now = splits_of 20 _ _ _ cut.0 cut.1 cut.2 in
    let len = length c.args.first.now + length c.args.second.now in
    segment_whole c.args.ends.from c.args.ends.to c.unwrap.result.0.now c.unwrap.result.1.now c.args.second.now c.args.first.now c.header_with-head.result c.sum16_after.result len splits.len splits.parts c.header_with-head.ensures (sym (length-append c.args.first.now c.args.second.now))
    (c.sum16_after.ensures (tcp_pseudo_header c.args.ends.from c.args.ends.to len ++ without_checksum c.unwrap.result.0.now) c.segment_sum-before.ensures)

pub returns-clause-put : goal.returns-clause-put
returns-clause-put c =
    c.put_packet.ensures.put ∙ ap (λ (x : List ℕ). c.args.out.now.written ++ packet_between c.args.ends 6 x) (text_is c)

pub returns-clause-size : goal.returns-clause-size
returns-clause-size c =
    let P : List ℕ → Type 0 = λ x. IsFrameSize (length (packet_between c.args.ends 6 x)) in
    subst P (text_is c) c.put_packet.ensures.size

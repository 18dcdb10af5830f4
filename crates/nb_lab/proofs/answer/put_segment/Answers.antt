use Rattle.std.proofs.Common.{◌≡◌, ℕ, List, ◌++◌, length, ap, subst, ◌∙◌, arith}
use Rattle.std.proofs.lemmas.List.{append-nil}
use Rattle.nb_defs.specs.Records.{IsFrameRecord}
use Rattle.nb_tcpseg.specs.SegmentText.{sent_segment}
use Rattle.nb_lab.specs.Hosts.{server}
use Rattle.nb_lab.specs.Streams.{part_body, segment_to_peer}
use Rattle.nb_lab.specs.Answers.{answer_frame, packet_to}
use Rattle.nb_lab.proofs.AnswerLemmas.{sent_is, length-segment_to}
use Rattle.nb_lab.proofs.answer.put_segment.Goals as goal

segment_is : (c : goal.After-put_packet-arg-3-1) → c.written-2.result.now ≡ sent_segment server c.args.to.ip (segment_to_peer c.args.to c.args.expected c.args.part)
segment_is c =
    let body : c.written.result.now ≡ part_body c.args.part =
    c.written.ensures ∙ c.put_bytes.ensures.put ∙ ap (λ (x : List ℕ). x ++ part_body c.args.part) c.new-body.ensures.empty in
    c.written-2.ensures
    ∙ sent_is _ _ c.args.to c.args.expected _ _ _ _ c.args.part (rw c.unwrap.ensures at c.write.ensures.appended) c.new-bytes.ensures.empty c.number.ensures c.flags.ensures c.mss.ensures body

pub put_packet-requires-clause-short : goal.put_packet-requires-clause-short
put_packet-requires-clause-short c =
    omega (arith, ap length (segment_is c), length-segment_to c.args.to c.args.expected c.args.part c.put_bytes.ensures.short)

segment_was : (c : goal.After-room-4-1) → c.written-2.result.now ≡ sent_segment server c.args.to.ip (segment_to_peer c.args.to c.args.expected c.args.part)
segment_was c =
    let body : c.written.result.now ≡ part_body c.args.part =
    c.written.ensures ∙ c.put_bytes.ensures.put ∙ ap (λ (x : List ℕ). x ++ part_body c.args.part) c.new-body.ensures.empty in
    c.written-2.ensures
    ∙ sent_is _ _ c.args.to c.args.expected _ _ _ _ c.args.part (rw c.unwrap.ensures at c.write.ensures.appended) c.new-bytes.ensures.empty c.number.ensures c.flags.ensures c.mss.ensures body

pub returns-clause-put : goal.returns-clause-put
unfolding answer_frame
returns-clause-put c =
    c.put_packet.ensures.put
    ∙ ap (λ (x : List ℕ). c.args.out.now.written ++ packet_to c.args.to 6 x) (append-nil c.written-2.result.now ∙ segment_was c)

pub returns-clause-legal : goal.returns-clause-legal
unfolding answer_frame
returns-clause-legal c =
    let P : List ℕ → Type 0 = λ x. IsFrameRecord (packet_to c.args.to 6 x) in
    subst P (append-nil c.written-2.result.now ∙ segment_was c) c.put_packet.ensures.legal

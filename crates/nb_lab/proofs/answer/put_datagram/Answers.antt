use Rattle.std.proofs.Common.{◌≡◌, ℕ, List, ◌++◌, ap, subst, ◌∙◌}
use Rattle.nb_defs.specs.Records.{IsFrameRecord}
use Rattle.nb_ipv4.specs.UdpText.{sent_datagram}
use Rattle.nb_tftpmsg.specs.Packets.{packet_text}
use Rattle.nb_lab.specs.Hosts.{server}
use Rattle.nb_lab.specs.Files.{file_message}
use Rattle.nb_lab.specs.Answers.{answer_frame, packet_to}
use Rattle.nb_lab.proofs.answer.put_datagram.Goals as goal

datagram_is : (c : goal.After-room-2-1) → c.head-head.result ++ c.written-body.result.now ≡ sent_datagram server c.args.to.ip (record { src_port = 50000; dst_port = c.args.to.port; body = packet_text (file_message c.args.part) })
datagram_is c =
    let body : c.written-body.result.now ≡ packet_text (file_message c.args.part) =
    c.written-body.ensures ∙ c.put_part.ensures.put ∙ ap (λ (x : List ℕ). x ++ packet_text (file_message c.args.part)) c.new-packet.ensures.empty in
    c.head-head.ensures.value
    ∙ ap (λ (x : List ℕ). sent_datagram server c.args.to.ip (record { src_port = 50000; dst_port = c.args.to.port; body = x })) body

pub returns-clause-put : goal.returns-clause-put
unfolding answer_frame
returns-clause-put c =
    c.put_packet.ensures.put ∙ ap (λ (x : List ℕ). c.args.out.now.written ++ packet_to c.args.to 17 x) (datagram_is c)

pub returns-clause-legal : goal.returns-clause-legal
unfolding answer_frame
returns-clause-legal c =
    let P : List ℕ → Type 0 = λ x. IsFrameRecord (packet_to c.args.to 17 x) in
    subst P (datagram_is c) c.put_packet.ensures.legal

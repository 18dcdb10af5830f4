use Rattle.nb_ipv4.specs.PacketText.{sent_parts}
use Rattle.std.proofs.Common.{[]}
use Rattle.nb_stack.proofs.PutLaws.{heads_frame, length-packet_frame}
use Rattle.nb_stack.proofs.put.frame_heads.Goals as goal

pub returns-clause-put : goal.returns-clause-put
returns-clause-put c = λ body is.
    let e = c.args.ends in
    heads_frame _ _ _ body e.dst e.src (sent_parts e.from e.to c.args.proto body) c.joined.ensures c.head-link.ensures.value (c.head-packet.ensures.value body is)

pub returns-clause-size : goal.returns-clause-size
returns-clause-size c = λ body is.
    let e = c.args.ends in
    let frame = c.head-link.ensures.readable [] in
    length-packet_frame e.dst e.src (sent_parts e.from e.to c.args.proto body) c.args.len frame.dst frame.src is

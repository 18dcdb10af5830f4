use Rattle.std.proofs.Common.{◌≡◌, Some, sym, subst, rules}
use Rattle.nb_ether.specs.Frame.{frame_of}
use Rattle.nb_ipv4.specs.PacketText.{packet_parts}
use Rattle.nb_tcpseg.specs.SegmentText.{segment_parts}
use Rattle.nb_stack.specs.Bound.{owner_of}
use Rattle.nb_stack.specs.Brings.{BringsIn, segment}
use Rattle.nb_stack.specs.Takes.{Outcome, TakesAddressed}
use Rattle.nb_stack.proofs.ReadingLaws.{takes_bound}
use Rattle.nb_stack.proofs.stack.Stack.bound_segment.Goals as goal

pub returns : goal.returns
returns c = λ put.
    let client = c.args.self.now in
    let f = frame_of c.args.frame in
    let p = packet_parts c.in_ok-packet.packet in
    let s = segment_parts c.in_ok-packet.tcp in
    let brings : BringsIn client.address f (segment f.src p s) = search rules in
    let owner : owner_of 6 s.dst_port client.ports ≡ Some c.in_ok-to.to = search rules in
    let P : Outcome → Type 0 = λ o. TakesAddressed client f o put put client in
    subst P (sym c.whole_segment.ensures) (takes_bound client f p s c.in_ok-to.to put brings owner)

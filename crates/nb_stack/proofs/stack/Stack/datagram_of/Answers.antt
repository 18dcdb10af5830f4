use Rattle.std.proofs.Common.{subst}
use Rattle.std.specs.Prelude.{IfSome, IfNone}
use Rattle.nb_ether.specs.Frame.{frame_of}
use Rattle.nb_ipv4.specs.PacketText.{packet_parts}
use Rattle.nb_ipv4.specs.UdpText.{udp_parts}
use Rattle.nb_ipv4.specs.declared.udp.Udp.{Udp}
use Rattle.nb_stack.specs.Brings.{BringsIn, BringsNone, datagram}
use Rattle.nb_stack.specs.Client.{Client}
use Rattle.nb_stack.proofs.stack.Stack.datagram_of.Goals as goal

pub returns-clause-sound : goal.returns-clause-sound
returns-clause-sound c =
    let P : Client → Type 0 = λ s. IfSome c.datagram_of.result (λ (d : Udp). BringsIn s.address (frame_of c.args.frame) (datagram (packet_parts c.args.packet) (udp_parts d))) in
    subst P c.self.view_is c.datagram_of.ensures.sound

pub returns-clause-none : goal.returns-clause-none
returns-clause-none c =
    let P : Client → Type 0 = λ s. IfNone c.datagram_of.result (BringsNone s.address (frame_of c.args.frame)) in
    subst P c.self.view_is c.datagram_of.ensures.none

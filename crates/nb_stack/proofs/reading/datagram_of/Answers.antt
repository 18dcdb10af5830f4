use Rattle.std.proofs.Common.{◌≡◌, ℕ, sym, ap, subst, arith}
use Rattle.std.proofs.lemmas.Bool.{false≢true}
use Rattle.nb_ether.specs.Frame.{frame_of}
use Rattle.nb_ipv4.specs.PacketText.{packet_parts}
use Rattle.nb_ipv4.specs.UdpText.{UdpParts}
use Rattle.nb_stack.specs.Brings.{IsAddressed}
use Rattle.nb_stack.proofs.ReadingLaws.{only_packet}
use Rattle.nb_stack.proofs.reading.datagram_of.Goals as goal

pub returns-in_default-clause-none : goal.returns-in_default-clause-none
returns-in_default-clause-none c =
    only_packet _ (frame_of c.args.frame) (packet_parts c.args.packet) c.requires.kind c.requires.packet
    (λ _ d is _. c.in_default.ensures.complete d is)
    (λ proto _ _ _. absurd (omega (arith, proto, c.requires.proto)))
    (λ proto _ _ _. absurd (omega (arith, proto, c.requires.proto)))

pub returns-else-is_addressed-clause-none : goal.returns-else-is_addressed-clause-none
returns-else-is_addressed-clause-none c =
    only_packet _ (frame_of c.args.frame) (packet_parts c.args.packet) c.requires.kind c.requires.packet
    (λ _ d is addressed.
    let same = c.in-Some.ensures.complete d is in
    let port : d.dst_port ≡ c.in-Some.datagram.dst_port = sym (ap (λ (x : UdpParts). x.dst_port) same) in
    let P : ℕ → Type 0 = λ n. IsAddressed c.args.address c.args.packet.dst n in
    absurd (false≢true (c.if-is_addressed.ensures.1 (subst P port addressed))))
    (λ proto _ _ _. absurd (omega (arith, proto, c.requires.proto)))
    (λ proto _ _ _. absurd (omega (arith, proto, c.requires.proto)))

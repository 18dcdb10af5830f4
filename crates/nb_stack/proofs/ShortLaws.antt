-- RFC 894, RFC 791: how long what a frame brings is.
use Rattle.std.proofs.Common.{◌≡◌, ℕ, ◌≤◌, length, Bool, true, false, cond, List, ◌++◌, Option, Some, None, sym, ap, subst, arith}
use Rattle.std.proofs.lemmas.List.{length-append}
use Rattle.nb_ether.specs.Frame.{Frame, IsFrame}
use Rattle.nb_ipv4.specs.PacketText.{PacketParts, IsPacket}
use Rattle.nb_ipv4.specs.UdpText.{UdpParts, IsUdp, udp_header}
use Rattle.nb_ipv4.specs.EchoText.{EchoParts, IsEcho, echo_header}
use Rattle.nb_ipv4.proofs.EchoLaws.{length-echo_header}
use Rattle.nb_ipv4.proofs.UdpLaws.{length-udp_header}
use Rattle.nb_stack.specs.Bound.{owner_of}
use Rattle.nb_stack.specs.Brings.{Brought, nothing, arp_message, datagram, echo_request, echo_reply, segment, Brings}
use Rattle.nb_stack.specs.Client.{Client}
use Rattle.nb_stack.specs.Resets.{has_flag}
use Rattle.nb_stack.specs.Takes.{Outcome, dropped, replied, handed, outcome_of, handed_to, echo_to, segment_to, Takes, asks}
use Rattle.nb_stack.proofs.ReadingLaws.{body_short}

udp_short : (bytes : List ℕ) (f : Frame) (p : PacketParts) (d : UdpParts) → IsFrame bytes f → IsPacket f.body p → IsUdp p.src p.dst p.body d → length bytes ≤ 1522 → length d.body ≤ 1480
udp_short bytes f p d frame packet udp short =
    omega (arith, short, body_short bytes f p frame packet, ap length udp.spelled, length-append (udp_header d udp.field ++ d.body) udp.padding, length-append (udp_header d udp.field) d.body, length-udp_header d udp.field)

echo_short : (bytes : List ℕ) (f : Frame) (p : PacketParts) (e : EchoParts) → IsFrame bytes f → IsPacket f.body p → IsEcho p.body e → length bytes ≤ 1522 → length e.body ≤ 1480
echo_short bytes f p e frame packet echo short =
    omega (arith, short, body_short bytes f p frame packet, ap length echo.spelled, length-append (echo_header e echo.sum) e.body, length-echo_header e echo.sum)

-- what is handed on has at most so many bytes as a packet carries after its header
abbrev pub IsShort : Outcome → Type 0
IsShort dropped = Unit {0}
IsShort replied = Unit {0}
IsShort (handed to src dst proto port body) = length body ≤ 1480

replied_short : (b : Bool) → IsShort (cond b replied dropped)
replied_short true = tt
replied_short false = tt

reset_short : (b : Bool) → IsShort (cond b dropped replied)
reset_short true = tt
reset_short false = tt

handed_short : (p : PacketParts) (d : UdpParts) (o : Option ℕ) → length d.body ≤ 1480 → IsShort (handed_to p d o)
handed_short p d None short = tt
handed_short p d (Some to) short = short

echoed_short : (p : PacketParts) (e : EchoParts) (o : Option ℕ) → length e.body ≤ 1480 → IsShort (echo_to p e o)
echoed_short p e None short = tt
echoed_short p e (Some to) short = short

message_short : (c : Client) (bytes : List ℕ) (m : Brought) → Brings c.up c.mac c.address bytes m → length bytes ≤ 1522 → ((port : ℕ) → owner_of 6 port c.ports ≡ None) → IsShort (outcome_of c m)
message_short c bytes nothing brings short none = tt
message_short c bytes (arp_message from arp) brings short none = replied_short (asks c.address arp)
message_short c bytes (datagram p d) brings short none =
    handed_short p d (owner_of 17 d.dst_port c.ports) (udp_short bytes brings.0 p d brings.1.frame brings.2.packet brings.2.udp short)
message_short c bytes (echo_request from p e) brings short none = tt
message_short c bytes (echo_reply p e) brings short none =
    echoed_short p e (owner_of 1 e.ident c.ports) (echo_short bytes brings.0 p e brings.1.frame brings.2.0.packet brings.2.0.echo short)
message_short c bytes (segment from p s) brings short none =
    subst (λ o. IsShort (segment_to p s o)) (sym (none s.dst_port)) (reset_short (has_flag 4 s))

pub takes_short : (c after : Client) (bytes put put_after : List ℕ) (out : Outcome) → Takes c bytes out put put_after after → length bytes ≤ 1522 → ((port : ℕ) → owner_of 6 port c.ports ≡ None) → IsShort out
takes_short c after bytes put put_after out takes short none =
    subst IsShort (sym takes.is_outcome) (message_short c bytes takes.message takes.brings short none)

-- What the frame for a client brings, the bytes bring.
use Rattle.std.proofs.Common.{◌≡◌, ℕ, ◌+◌, ◌≤◌, Bool, true, List, ◌++◌, length, Option, Some, append-nil, refl, sym, ap, subst, ◌∙◌, arith}
use Rattle.std.proofs.lemmas.List.{length-append}
use Rattle.nb_wire.specs.declared.address.Mac.{Mac}
use Rattle.nb_ether.specs.Frame.{Frame, IsFrame}
use Rattle.nb_ipv4.specs.PacketText.{PacketParts, Header, IsPacket, header_text}
use Rattle.nb_ipv4.specs.UdpText.{UdpParts, IsUdp}
use Rattle.nb_ipv4.specs.EchoText.{EchoParts, IsEcho, echo_header}
use Rattle.nb_ipv4.proofs.PacketLaws.{packet_one}
use Rattle.nb_ipv4.proofs.EchoLaws.{length-echo_header}
use Rattle.nb_tcpseg.specs.SegmentText.{SegmentParts, IsSegment, tcp_header}
use Rattle.nb_tcpseg.proofs.HeaderLemmas.{length-tcp_header}
use Rattle.nb_stack.proofs.PutLaws.{length-frame_text}
use Rattle.nb_stack.specs.declared.address.Addr.{Addr}
use Rattle.nb_stack.specs.Owns.{owns}
use Rattle.nb_stack.specs.Brings.{Brought, nothing, echo_request, segment, IsFrameFor, IsAddressed, BringsNone, BringsIn, Brings}
use Rattle.nb_stack.specs.Client.{Client}
use Rattle.nb_stack.specs.Takes.{Outcome, handed, segment_to, reset_back, Takes, TakesAddressed}
use Rattle.nb_stack.specs.Bound.{owner_of}

pub brings_of : (up : Bool) (mac : Mac) (address : Option Addr) (bytes : List ℕ) (f : Frame) (message : Brought) → IsFrameFor up mac bytes f → ((g : Frame) → IsFrameFor up mac bytes g → f ≡ g) → BringsIn address f message → Brings up mac address bytes message
brings_of up mac address bytes f nothing is one brings = λ g for_g.
    let P : Frame → Type 0 = λ x. BringsIn address x nothing in
    subst P (one g for_g) brings
brings_of up mac address bytes f message is one brings = (f, is, brings)

-- what a client makes of the frame for it, it makes of the bytes
pub takes_of : (client : Client) (bytes : List ℕ) (f : Frame) (seen : Outcome) (put put_after : List ℕ) (after : Client) → IsFrameFor client.up client.mac bytes f → ((g : Frame) → IsFrameFor client.up client.mac bytes g → f ≡ g) → TakesAddressed client f seen put put_after after → Takes client bytes seen put put_after after
takes_of client bytes f seen put put_after after is one takes = record {
  message = takes.message;
  brings = brings_of client.up client.mac client.address bytes f takes.message is one takes.brings;
  is_outcome = takes.is_outcome;
  is_put = takes.is_put;
  is_after = takes.is_after;
}

-- a segment for a port that is bound is handed on, and nothing is put
pub takes_bound : (client : Client) (f : Frame) (p : PacketParts) (s : SegmentParts) (to : ℕ) (put : List ℕ) → BringsIn client.address f (segment f.src p s) → owner_of 6 s.dst_port client.ports ≡ Some to → TakesAddressed client f (handed to p.src p.dst 6 s.src_port p.body) put put client
takes_bound client f p s to put brings owner = record {
  message = segment f.src p s;
  brings = brings;
  is_outcome = ap (λ (o : Option ℕ). segment_to p s o) (sym owner);
  is_put = sym (append-nil put) ∙ ap (λ (o : Option ℕ). put ++ reset_back f.src client.mac p s o) (sym owner);
  is_after = refl;
}

-- a frame for packets that has none brings nothing
pub no_packet : (address : Option Addr) (f : Frame) → f.kind ≡ 2048 → ((p : PacketParts) → IsPacket f.body p → ⊥) → BringsNone address f
no_packet address f kind none = record {
  arp = λ arp is. absurd (omega (arith, is.kind, kind));
  datagram = λ p d is. none p is.packet;
  echo = λ p e is. none p is.packet;
  segment = λ p s is. none p is.packet;
}

-- what a packet carries is all that its frame may bring
pub only_packet : (address : Option Addr) (f : Frame) (p : PacketParts) → f.kind ≡ 2048 → IsPacket f.body p
    → (p.proto ≡ 17 → (d : UdpParts) → IsUdp p.src p.dst p.body d → IsAddressed address p.dst d.dst_port → ⊥)
    → (p.proto ≡ 1 → (e : EchoParts) → IsEcho p.body e → owns address p.dst ≡ true → ⊥)
    → (p.proto ≡ 6 → (s : SegmentParts) → IsSegment p.src p.dst p.body s → owns address p.dst ≡ true → ⊥) → BringsNone address f
only_packet address f p kind packet no_datagram no_echo no_segment =
    let same : (q : PacketParts) → IsPacket f.body q → q ≡ p = λ q other. packet_one f.body q p other packet in
    record {
      arp = λ arp is. absurd (omega (arith, is.kind, kind));
      datagram = λ q d is.
          let P : PacketParts → Type 0 = λ x. (x.proto ≡ 17) × IsUdp x.src x.dst x.body d × IsAddressed address x.dst d.dst_port in
          let here = subst P (same q is.packet) (is.proto, is.udp, is.addressed) in
          no_datagram here.0 d here.1 here.2;
      echo = λ q e is.
          let P : PacketParts → Type 0 = λ x. (x.proto ≡ 1) × IsEcho x.body e × (owns address x.dst ≡ true) in
          let here = subst P (same q is.packet) (is.proto, is.echo, is.addressed) in
          no_echo here.0 e here.1 here.2;
      segment = λ q s is.
          let P : PacketParts → Type 0 = λ x. (x.proto ≡ 6) × IsSegment x.src x.dst x.body s × (owns address x.dst ≡ true) in
          let here = subst P (same q is.packet) (is.proto, is.segment, is.addressed) in
          no_segment here.0 s here.1 here.2;
    }

length-header_text : (h : Header) (p : PacketParts) → 20 ≤ length (header_text h p)
unfolding header_text
length-header_text h p = omega arith

-- a packet's body is shorter than the frame by both headers
pub body_short : (bytes : List ℕ) (f : Frame) (p : PacketParts) → IsFrame bytes f → IsPacket f.body p → length p.body + 34 ≤ length bytes
body_short bytes f p frame packet =
    let header = header_text packet.header p in
    omega (arith, ap length frame.spelled, length-frame_text f frame.dst frame.src, ap length packet.spelled, length-append (header ++ p.body) packet.padding, length-append header p.body, length-header_text packet.header p)

-- what an echo request of a frame brings back fits into a frame
pub request_short : (address : Option Addr) (bytes : List ℕ) (f : Frame) (from : Mac) (p : PacketParts) (e : EchoParts) → IsFrame bytes f → BringsIn address f (echo_request from p e) → length bytes ≤ 1522 → length e.body ≤ 1480
request_short address bytes f from p e frame brings short =
    let echo = brings.0.echo in
    omega (arith, short, body_short bytes f p frame brings.0.packet, ap length echo.spelled, length-append (echo_header e echo.sum) e.body, length-echo_header e echo.sum)

pub segment_short : (address : Option Addr) (bytes : List ℕ) (f : Frame) (from : Mac) (p : PacketParts) (s : SegmentParts) → IsFrame bytes f → BringsIn address f (segment from p s) → length bytes ≤ 1522 → length s.body ≤ 1488
segment_short address bytes f from p s frame brings short =
    let is = brings.0.segment in
    let head = tcp_header s is.offset is.sum is.urgent in
    omega (arith, short, body_short bytes f p frame brings.0.packet, ap length is.spelled, length-append head (is.options ++ s.body), length-append is.options s.body, length-tcp_header s is.offset is.sum is.urgent)

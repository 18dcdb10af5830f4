-- Bytes bring a client at most one message, so what `take` does with them is one thing.
use Rattle.std.proofs.Common.{◌≡◌, ◌+◌, ℕ, Bool, List, Option, refl, sym, ap, subst, ◌∙◌, arith}
use Rattle.nb_wire.specs.declared.address.Mac.{Mac}
use Rattle.nb_ether.specs.declared.arp.Arp.{Arp}
use Rattle.nb_ether.specs.Frame.{Frame}
use Rattle.nb_ether.proofs.FrameLaws.{frame_one}
use Rattle.nb_ether.proofs.ArpLaws.{form_one}
use Rattle.nb_ipv4.specs.PacketText.{PacketParts, IsPacket}
use Rattle.nb_ipv4.specs.UdpText.{UdpParts, IsUdp}
use Rattle.nb_ipv4.specs.EchoText.{EchoParts, IsEcho}
use Rattle.nb_ipv4.proofs.PacketLaws.{packet_one}
use Rattle.nb_ipv4.proofs.UdpLaws.{udp_one}
use Rattle.nb_ipv4.proofs.EchoLaws.{echo_one}
use Rattle.nb_tcpseg.specs.SegmentText.{SegmentParts, IsSegment}
use Rattle.nb_tcpseg.proofs.HeaderLemmas.{segment_one}
use Rattle.nb_stack.specs.declared.address.Addr.{Addr}
use Rattle.nb_stack.specs.Brings.{Brought, nothing, arp_message, datagram, echo_request, echo_reply, segment, IsDatagramIn, IsEchoIn, IsSegmentIn, BringsIn, Brings}

datagram_one : (address : Option Addr) (f : Frame) (p q : PacketParts) (d e : UdpParts) → IsDatagramIn address f p d → IsDatagramIn address f q e → (p ≡ q) × (d ≡ e)
datagram_one address f p q d e here there =
    let packets : p ≡ q = packet_one f.body p q here.packet there.packet in
    let P : PacketParts → Type 0 = λ x. IsUdp x.src x.dst x.body e in
    (packets, udp_one p.src p.dst p.body d e here.udp (subst P (sym packets) there.udp))

echoes_one : (address : Option Addr) (f : Frame) (p q : PacketParts) (d e : EchoParts) → IsEchoIn address f p d → IsEchoIn address f q e → (p ≡ q) × (d ≡ e)
echoes_one address f p q d e here there =
    let packets : p ≡ q = packet_one f.body p q here.packet there.packet in
    let P : PacketParts → Type 0 = λ x. IsEcho x.body e in
    (packets, echo_one p.body d e here.echo (subst P (sym packets) there.echo))

segments_one : (address : Option Addr) (f : Frame) (p q : PacketParts) (s t : SegmentParts) → IsSegmentIn address f p s → IsSegmentIn address f q t → (p ≡ q) × (s ≡ t)
segments_one address f p q s t here there =
    let packets : p ≡ q = packet_one f.body p q here.packet there.packet in
    let P : PacketParts → Type 0 = λ x. IsSegment x.src x.dst x.body t in
    (packets, segment_one p.src p.dst p.body s t here.segment (subst P (sym packets) there.segment))

-- a number for each kind of message
abbrev form : Brought → ℕ
form nothing = 0
form (arp_message from arp) = 1
form (datagram p d) = 2
form (echo_reply p e) = 3
form (segment from p s) = 4
form (echo_request from p e) = 11

-- by its packet the frame has the message of this number
data HasCarried (p : PacketParts) (n : ℕ) : Type 0 where
  by_datagram : p.proto ≡ 17 → n ≡ 2 → HasCarried p n
  by_echo : (e : EchoParts) → p.proto ≡ 1 → IsEcho p.body e → n ≡ 3 + e.kind → HasCarried p n
  by_segment : p.proto ≡ 6 → n ≡ 4 → HasCarried p n

-- the frame has a message of this number
data HasForm (f : Frame) (n : ℕ) : Type 0 where
  by_arp : f.kind ≡ 2054 → n ≡ 1 → HasForm f n
  by_packet : (p : PacketParts) → f.kind ≡ 2048 → IsPacket f.body p → HasCarried p n → HasForm f n

carried_one : (p : PacketParts) (m n : ℕ) → HasCarried p m → HasCarried p n → m ≡ n
carried_one p m n (by_datagram proto is) (by_datagram proto2 is2) = is ∙ sym is2
carried_one p m n (by_echo e proto echo is) (by_echo f proto2 echo2 is2) =
    is ∙ ap (λ (x : EchoParts). 3 + x.kind) (echo_one p.body e f echo echo2) ∙ sym is2
carried_one p m n (by_segment proto is) (by_segment proto2 is2) = is ∙ sym is2
carried_one p m n (by_datagram proto is) (by_echo f proto2 echo2 is2) = absurd (omega (arith, proto, proto2))
carried_one p m n (by_datagram proto is) (by_segment proto2 is2) = absurd (omega (arith, proto, proto2))
carried_one p m n (by_echo e proto echo is) (by_datagram proto2 is2) = absurd (omega (arith, proto, proto2))
carried_one p m n (by_echo e proto echo is) (by_segment proto2 is2) = absurd (omega (arith, proto, proto2))
carried_one p m n (by_segment proto is) (by_datagram proto2 is2) = absurd (omega (arith, proto, proto2))
carried_one p m n (by_segment proto is) (by_echo f proto2 echo2 is2) = absurd (omega (arith, proto, proto2))

form_same : (f : Frame) (m n : ℕ) → HasForm f m → HasForm f n → m ≡ n
form_same f m n (by_arp kind is) (by_arp kind2 is2) = is ∙ sym is2
form_same f m n (by_packet p kind packet carried) (by_packet q kind2 packet2 carried2) =
    carried_one p m n carried (subst (λ (x : PacketParts). HasCarried x n) (packet_one f.body q p packet2 packet) carried2)
form_same f m n (by_arp kind is) (by_packet q kind2 packet2 carried2) = absurd (omega (arith, kind, kind2))
form_same f m n (by_packet p kind packet carried) (by_arp kind2 is2) = absurd (omega (arith, kind, kind2))

abbrev IsSomething : Brought → Type 0
IsSomething nothing = ⊥
IsSomething message = Unit {0}

has_form : (address : Option Addr) (f : Frame) (m : Brought) → IsSomething m → BringsIn address f m → HasForm f (form m)
has_form address f nothing some brings = absurd some
has_form address f (arp_message from arp) some brings = by_arp brings.0.kind refl
has_form address f (datagram p d) some brings = by_packet p brings.kind brings.packet (by_datagram brings.proto refl)
has_form address f (echo_request from p e) some brings =
    by_packet p brings.0.kind brings.0.packet (by_echo e brings.0.proto brings.0.echo (omega (arith, brings.2)))
has_form address f (echo_reply p e) some brings =
    by_packet p brings.0.kind brings.0.packet (by_echo e brings.0.proto brings.0.echo (omega (arith, brings.1)))
has_form address f (segment from p s) some brings = by_packet p brings.0.kind brings.0.packet (by_segment brings.0.proto refl)

none_or_some : (address : Option Addr) (f : Frame) (m : Brought) → IsSomething m → BringsIn address f nothing → BringsIn address f m → ⊥
none_or_some address f nothing some none brings = some
none_or_some address f (arp_message from arp) some none brings = none.arp arp brings.0
none_or_some address f (datagram p d) some none brings = none.datagram p d brings
none_or_some address f (echo_request from p e) some none brings = none.echo p e brings.0
none_or_some address f (echo_reply p e) some none brings = none.echo p e brings.0
none_or_some address f (segment from p s) some none brings = none.segment p s brings.0

brought_one : (address : Option Addr) (f : Frame) (m n : Brought) → BringsIn address f m → BringsIn address f n → m ≡ n
brought_one address f nothing nothing here there = refl
brought_one address f nothing n here there = absurd (none_or_some address f n tt here there)
brought_one address f m nothing here there = absurd (none_or_some address f m tt there here)
brought_one address f (arp_message from arp) (arp_message other arp2) here there =
    ap (λ (x : Mac). arp_message x arp) (sym here.1 ∙ there.1)
    ∙ ap (λ (x : Arp). arp_message other x) (form_one f.body arp arp2 here.0.is_arp.form there.0.is_arp.form)
brought_one address f (datagram p d) (datagram q e) here there =
    let same = datagram_one address f p q d e here there in
    ap (λ (x : PacketParts). datagram x d) same.0 ∙ ap (λ (x : UdpParts). datagram q x) same.1
brought_one address f (echo_request from p d) (echo_request other q e) here there =
    let same = echoes_one address f p q d e here.0 there.0 in
    ap (λ (x : Mac). echo_request x p d) (sym here.1 ∙ there.1)
    ∙ ap (λ (x : PacketParts). echo_request other x d) same.0 ∙ ap (λ (x : EchoParts). echo_request other q x) same.1
brought_one address f (echo_reply p d) (echo_reply q e) here there =
    let same = echoes_one address f p q d e here.0 there.0 in
    ap (λ (x : PacketParts). echo_reply x d) same.0 ∙ ap (λ (x : EchoParts). echo_reply q x) same.1
brought_one address f (segment from p s) (segment other q t) here there =
    let same = segments_one address f p q s t here.0 there.0 in
    ap (λ (x : Mac). segment x p s) (sym here.1 ∙ there.1)
    ∙ ap (λ (x : PacketParts). segment other x s) same.0 ∙ ap (λ (x : SegmentParts). segment other q x) same.1
brought_one address f m n here there =
    absurd (omega (arith, form_same f (form m) (form n) (has_form address f m tt here) (has_form address f n tt there)))

-- the same frame, which the bytes are for at most one
along : (address : Option Addr) (f g : Frame) (n : Brought) → f ≡ g → BringsIn address g n → BringsIn address f n
along address f g n same there =
    let P : Frame → Type 0 = λ x. BringsIn address x n in subst P (sym same) there

pub message_one : (up : Bool) (mac : Mac) (address : Option Addr) (bytes : List ℕ) (m n : Brought) → Brings up mac address bytes m → Brings up mac address bytes n → m ≡ n
message_one up mac address bytes nothing nothing here there = refl
message_one up mac address bytes nothing n here there = brought_one address there.0 nothing n (here there.0 there.1) there.2
message_one up mac address bytes m nothing here there = brought_one address here.0 m nothing here.2 (there here.0 here.1)
message_one up mac address bytes m n here there =
    let same = frame_one bytes here.0 there.0 here.1.frame there.1.frame in
    brought_one address here.0 m n here.2 (along address here.0 there.0 n same there.2)

-- How long packets are that are sent, what a frame around one is, and how long that is.
use Rattle.std.proofs.Common.{◌≡◌, ◌==◌, ℕ, ◌+◌, ◌*◌, ◌≤◌, inl, inr, List, ◌++◌, length, Option, None, if◌then◌else◌, refl, ap, ◌∙◌, append_assoc, arith}
use Rattle.std.specs.Int.{w16, to_be_bytes}
use Rattle.std.proofs.lemmas.List.{length-append}
use Rattle.nb_wire.specs.Checksum.{checksum}
use Rattle.nb_wire.specs.declared.address.Ip4.{Ip4}
use Rattle.nb_wire.specs.declared.address.Mac.{Mac}
use Rattle.nb_terms.specs.declared.acts.SendTo.{SendTo}
use Rattle.nb_ether.specs.declared.arp.Arp.{Arp}
use Rattle.nb_ether.specs.ArpText.{arp_text}
use Rattle.nb_ether.specs.Frame.{Frame, frame_head, frame_text}
use Rattle.nb_ipv4.specs.PacketText.{PacketParts, header_text, sent_header, sent_parts, sent_packet}
use Rattle.nb_ipv4.specs.UdpText.{sent_datagram}
use Rattle.nb_ipv4.specs.EchoText.{sent_echo}
use Rattle.nb_tcpseg.specs.SegmentText.{SegmentParts, tcp_header, sent_header_len, sent_options, sent_sum, sent_segment}
use Rattle.nb_tcpseg.proofs.HeaderLemmas.{length-tcp_header}
use Rattle.nb_stack.specs.Sends.{arp_frame, packet_frame, message_frame, udp_of, request_echo, with_checksum, IsCarried}
use Rattle.nb_stack.specs.Sizes.{IsFrameSize}

length-sent_header : (sum : ℕ) (p : PacketParts) → length (header_text (sent_header sum) p) ≡ 20
unfolding header_text
length-sent_header sum p = refl

pub length-sent_packet : (p : PacketParts) → length (sent_packet p) ≡ 20 + length p.body
unfolding sent_packet
length-sent_packet p =
    let sum : ℕ = checksum (header_text (sent_header 0) p) in
    omega (arith, length-append (header_text (sent_header sum) p) p.body, length-sent_header sum p)

pub length-frame_text : (f : Frame) → length f.dst.0 ≡ 6 → length f.src.0 ≡ 6 → length (frame_text f) ≡ 14 + length f.body
length-frame_text f dst src =
    let kind : List ℕ = to_be_bytes w16 f.kind in
    omega (arith, length-append (f.dst.0 ++ f.src.0 ++ kind) f.body, length-append (f.dst.0 ++ f.src.0) kind, length-append f.dst.0 f.src.0, dst, src)

frame_size : (whole body : ℕ) → whole ≡ 14 + body → body ≤ 1508 → IsFrameSize whole
frame_size whole body is short = record { least = omega (arith, is); most = omega (arith, is, short) }

-- an ARP message is put after what stands before it
pub arp_put : (old before new head body : List ℕ) (dst : Mac) (arp : Arp) → before ≡ old ++ head → new ≡ before ++ body → head ≡ frame_head dst arp.sha 2054 → body ≡ arp_text arp → new ≡ old ++ arp_frame dst arp
unfolding arp_frame
arp_put old before new head body dst arp first second head_is body_is =
    second
    ∙ ap (λ (x : List ℕ). x ++ body) first
    ∙ append_assoc old head body
    ∙ ap (λ (x : List ℕ). old ++ (x ++ body)) head_is
    ∙ ap (λ (x : List ℕ). old ++ (frame_head dst arp.sha 2054 ++ x)) body_is

pub arp_size : (dst : Mac) (arp : Arp) → length dst.0 ≡ 6 → length arp.sha.0 ≡ 6 → length (arp_text arp) ≤ 28 → IsFrameSize (length (arp_frame dst arp))
unfolding arp_frame
arp_size dst arp to from short =
    frame_size _ _ (length-frame_text (record { dst = dst; src = arp.sha; kind = 2054; body = arp_text arp }) to from) (omega (arith, short))

-- what stands before a packet's body makes the packet's frame with it
pub heads_frame : (heads link head body : List ℕ) (dst src : Mac) (p : PacketParts) → heads ≡ link ++ head → link ≡ frame_head dst src 2048 → head ++ body ≡ sent_packet p → heads ++ body ≡ packet_frame dst src p
unfolding packet_frame
heads_frame heads link head body dst src p both link_is packet_is =
    ap (λ (x : List ℕ). x ++ body) both
    ∙ append_assoc link head body
    ∙ ap (λ (x : List ℕ). x ++ (head ++ body)) link_is
    ∙ ap (λ (x : List ℕ). frame_head dst src 2048 ++ x) packet_is

-- both heads at once, and the two parts of a body after them
pub head_between : (old heads head first second new frame : List ℕ) → new ≡ ((old ++ (heads ++ head)) ++ first) ++ second → heads ++ (head ++ (first ++ second)) ≡ frame → new ≡ old ++ frame
head_between old heads head first second new frame is heads_is =
    let right : ((old ++ (heads ++ head)) ++ first) ++ second ≡ old ++ (heads ++ (head ++ (first ++ second))) = simp append_assoc in
    is ∙ right ∙ ap (λ (x : List ℕ). old ++ x) heads_is

pub length-packet_frame : (dst src : Mac) (p : PacketParts) (n : ℕ) → length dst.0 ≡ 6 → length src.0 ≡ 6 → length p.body ≡ n → length (packet_frame dst src p) ≡ 34 + n
unfolding packet_frame
length-packet_frame dst src p n to from is =
    omega (arith, length-frame_text (record { dst = dst; src = src; kind = 2048; body = sent_packet p }) to from, length-sent_packet p, is)

-- a message of a protocol is put as that protocol says
pub message_17 : (dst src : Mac) (from : Ip4) (m : SendTo) → m.proto ≡ 17 → message_frame dst src from m ≡ packet_frame dst src (sent_parts from m.to 17 (sent_datagram from m.to (udp_of m)))
unfolding message_frame
message_17 dst src from m proto = ap (λ n. packet_frame dst src (sent_parts from m.to n (if n == 17 then sent_datagram from m.to (udp_of m) else (if n == 1 then sent_echo (request_echo m) else with_checksum from m.to m.body.items)))) proto

pub message_1 : (dst src : Mac) (from : Ip4) (m : SendTo) → m.proto ≡ 1 → message_frame dst src from m ≡ packet_frame dst src (sent_parts from m.to 1 (sent_echo (request_echo m)))
unfolding message_frame
message_1 dst src from m proto = ap (λ n. packet_frame dst src (sent_parts from m.to n (if n == 17 then sent_datagram from m.to (udp_of m) else (if n == 1 then sent_echo (request_echo m) else with_checksum from m.to m.body.items)))) proto

pub message_6 : (dst src : Mac) (from : Ip4) (m : SendTo) → m.proto ≡ 6 → message_frame dst src from m ≡ packet_frame dst src (sent_parts from m.to 6 (with_checksum from m.to m.body.items))
unfolding message_frame
message_6 dst src from m proto = ap (λ n. packet_frame dst src (sent_parts from m.to n (if n == 17 then sent_datagram from m.to (udp_of m) else (if n == 1 then sent_echo (request_echo m) else with_checksum from m.to m.body.items)))) proto

pub carried_6 : (proto : ℕ) (body : List ℕ) → IsCarried proto body → (proto ≡ 17 → ⊥) → (proto ≡ 1 → ⊥) → (proto ≡ 6) × (20 ≤ length body)
carried_6 proto body (inl is) no17 no1 = absurd (no17 is)
carried_6 proto body (inr (inl is)) no17 no1 = absurd (no1 is)
carried_6 proto body (inr (inr is)) no17 no1 = is

pub length-sent_segment : (src dst : Ip4) (s : SegmentParts) → s.mss ≡ None → length s.body ≡ 0 → length (sent_segment src dst s) ≡ 20
unfolding sent_segment
length-sent_segment src dst s mss body =
    let sum = sent_sum src dst s in
    let head = tcp_header s (4 * sent_header_len s.mss) sum 0 in
    omega (arith, length-append head (sent_options s.mss ++ s.body), length-append (sent_options s.mss) s.body, length-tcp_header s (4 * sent_header_len s.mss) sum 0, ap (λ (m : Option ℕ). length (sent_options m)) mss, body)

pub header_size : (n : ℕ) → n ≡ 34 + 20 → IsFrameSize n
header_size n is = record { least = omega (arith, is); most = omega (arith, is) }

-- Frames of the servers: how they are put, and how long they are.
use Rattle.std.proofs.Common.{◌≡◌, ◌==◌, ℕ, ◌+◌, ◌*◌, ◌≤◌, ◌<◌, Bool, true, false, List, [], ◌∷◌, ◌++◌, length, map, Option, Some, Ok, Err, Result, if◌then◌else◌, refl, sym, ap, ◌∙◌, append_assoc, arith}
use Rattle.std.specs.Int.{w16, to_be_bytes}
use Rattle.std.specs.Int.Digits.{digits_of}
use Rattle.std.specs.Fmt.{decimal}
use Rattle.std.proofs.lemmas.List.{length-append}
use Rattle.std.proofs.lemmas.Fmt.{decimal-digits_of, length-decimal-le}
use Rattle.std.proofs.lemmas.Bool.{ne_eqb, true≢false}
use Rattle.std.specs.Result.{IsOk, IsErr}
use Rattle.nb_defs.specs.Records.{IsFrameRecord}
use Rattle.nb_wire.specs.Checksum.{checksum}
use Rattle.nb_wire.specs.declared.address.Ip4.{Ip4}
use Rattle.nb_wire.specs.declared.address.Mac.{Mac}
use Rattle.nb_ether.specs.Frame.{frame_head}
use Rattle.nb_ipv4.specs.PacketText.{PacketParts, header_text, sent_header, sent_parts, sent_packet}
use Rattle.nb_tcpseg.specs.SegmentText.{SegmentParts, tcp_header, sent_header_len, sent_options, sent_sum, sent_segment}
use Rattle.nb_tcpseg.proofs.HeaderLemmas.{length-tcp_header}
use Rattle.nb_tftpmsg.specs.Packets.{packet_text, oack}
use Rattle.nb_tftpmsg.specs.Texts.{decimal_text}
use Rattle.nb_lab.specs.declared.hosts.Peer.{Peer}
use Rattle.nb_lab.specs.Hosts.{server, server_mac}
use Rattle.nb_lab.specs.declared.connection.StreamPart.{StreamPart}
use Rattle.nb_lab.specs.declared.connection.StreamPart.TheVariants.{Opening, Bytes, Acknowledgement}
use Rattle.nb_lab.specs.Streams.{part_sequence_number, part_flags, part_mss, part_body, segment_to_peer}
use Rattle.nb_lab.specs.Answers.{server_frame, packet_to}

-- a frame of a head and a body that are put one after the other
pub frame_put : (old before new head body : List ℕ) (dst : Mac) (kind : ℕ) → before ≡ old ++ head → new ≡ before ++ body → head ≡ frame_head dst server_mac kind → new ≡ old ++ server_frame dst kind body
unfolding server_frame
frame_put old before new head body dst kind first second head_is =
    second
    ∙ ap (λ (x : List ℕ). x ++ body) first
    ∙ append_assoc old head body
    ∙ ap (λ (x : List ℕ). old ++ (x ++ body)) head_is

pub length-server_frame : (dst : Mac) (kind : ℕ) (body : List ℕ) → length dst.0 ≡ 6 → length (server_frame dst kind body) ≡ 14 + length body
unfolding server_frame
length-server_frame dst kind body six =
    let number : List ℕ = to_be_bytes w16 kind in
    omega (arith, length-append (dst.0 ++ server_mac.0 ++ number) body, length-append (dst.0 ++ server_mac.0) number, length-append dst.0 server_mac.0, six)

pub legal_frame : (dst : Mac) (kind : ℕ) (body : List ℕ) → length dst.0 ≡ 6 → length body ≤ 1508 → IsFrameRecord (server_frame dst kind body)
legal_frame dst kind body six short =
    record { least = omega (arith, length-server_frame dst kind body six); most = omega (arith, length-server_frame dst kind body six, short) }

length-sent_header : (sum : ℕ) (p : PacketParts) → length (header_text (sent_header sum) p) ≡ 20
unfolding header_text
length-sent_header sum p = refl

pub length-sent_packet : (p : PacketParts) → length (sent_packet p) ≡ 20 + length p.body
unfolding sent_packet
length-sent_packet p =
    let sum : ℕ = checksum (header_text (sent_header 0) p) in
    omega (arith, length-append (header_text (sent_header sum) p) p.body, length-sent_header sum p)

-- a packet's frame, of both heads and the two parts of the packet's body
pub packet_put : (old new link head first second : List ℕ) (peer : Peer) (proto : ℕ) → new ≡ (((old ++ link) ++ head) ++ first) ++ second → link ≡ frame_head peer.mac server_mac 2048 → head ++ (first ++ second) ≡ sent_packet (sent_parts server peer.ip proto (first ++ second)) → new ≡ old ++ packet_to peer proto (first ++ second)
unfolding packet_to
packet_put old new link head first second peer proto put link_is head_is =
    let together : (((old ++ link) ++ head) ++ first) ++ second ≡ (old ++ link) ++ (head ++ (first ++ second)) = simp append_assoc in
    frame_put old (old ++ link) new link (sent_packet (sent_parts server peer.ip proto (first ++ second))) peer.mac 2048 refl
    (put ∙ together ∙ ap (λ (x : List ℕ). (old ++ link) ++ x) head_is) link_is

pub legal_packet : (peer : Peer) (proto : ℕ) (body : List ℕ) → length peer.mac.0 ≡ 6 → length body ≤ 1480 → IsFrameRecord (packet_to peer proto body)
unfolding packet_to
legal_packet peer proto body six short =
    let p = sent_parts server peer.ip proto body in
    legal_frame peer.mac 2048 (sent_packet p) six (omega (arith, length-sent_packet p, short))

-- a number below a million is written in six digits at most
by_digits : (b : Bool) (x y : List ℕ) → b ≡ false → (if b then x else y) ≡ y
by_digits true x y h = absurd (true≢false h)
by_digits false x y h = refl

length-decimal_text : (n : ℕ) → 0 < n → n < 1000000 → length (decimal_text n) ≤ 6
length-decimal_text n some small =
    let digits = decimal-digits_of n some (omega arith) in
    let is : decimal_text n ≡ decimal n = by_digits (n == 0) (48 ∷ []) (map (λ d. 48 + d) (digits_of 10 n)) (ne_eqb n 0 (λ e. omega arith)) ∙ sym digits in
    omega (arith, ap length is, length-decimal-le 6 n (omega arith) small (omega arith))

pub length-options : (n : ℕ) → 0 < n → n < 1000000 → length (packet_text (oack (Some 1000) (Some n))) ≤ 1004
length-options n some small = omega (arith, length-append (decimal_text n) (0 ∷ []), length-decimal_text n some small)

pub options_put : (old new : List ℕ) (size len n : ℕ) → new ≡ old ++ packet_text (oack (Some size) (Some len)) → size ≡ 1000 → len ≡ n → new ≡ old ++ packet_text (oack (Some 1000) (Some n))
options_put old new size len n put size_is len_is =
    put
    ∙ ap (λ (k : ℕ). old ++ packet_text (oack (Some k) (Some len))) size_is
    ∙ ap (λ (k : ℕ). old ++ packet_text (oack (Some 1000) (Some k))) len_is

-- what is refused only where there is no room isn't, where there is
pub fits_ok : {E : Type 0} (r : Result (Unit {0}) E) (full : Type 0) → (IsErr r → full) → (full → ⊥) → IsOk r
fits_ok (Ok x) full refused room = refl
fits_ok (Err e) full refused room = absurd (room (refused refl))

pub length-sent_segment : (src dst : Ip4) (s : SegmentParts) → length (sent_segment src dst s) ≡ sent_header_len s.mss + length s.body
unfolding sent_segment
length-sent_segment src dst s =
    let sum : ℕ = sent_sum src dst s in
    let head : List ℕ = tcp_header s (4 * sent_header_len s.mss) sum 0 in
    omega (arith, length-append head (sent_options s.mss ++ s.body), length-append (sent_options s.mss) s.body, length-tcp_header s (4 * sent_header_len s.mss) sum 0)

-- the segment of these parts
made : Peer → ℕ → ℕ → ℕ → Option ℕ → List ℕ → SegmentParts
made peer expected seq flags mss body =
    record { src_port = 80; dst_port = peer.port; seq = seq; ack = expected; flags = flags; window = 65535; mss = mss; body = body }

pub sent_is : (old new : List ℕ) (peer : Peer) (expected seq flags : ℕ) (mss : Option ℕ) (body : List ℕ) (part : StreamPart)
    → new ≡ old ++ sent_segment server peer.ip (record { src_port = 80; dst_port = peer.port; seq = seq; ack = expected; flags = flags; window = 65535; mss = mss; body = body })
    → old ≡ [] → seq ≡ part_sequence_number part → flags ≡ part_flags part → mss ≡ part_mss part → body ≡ part_body part
    → new ≡ sent_segment server peer.ip (segment_to_peer peer expected part)
unfolding made
sent_is old new peer expected seq flags mss body part put none seq_is flags_is mss_is body_is =
    let text : SegmentParts → List ℕ = λ s. sent_segment server peer.ip s in
    put
    ∙ ap (λ (x : List ℕ). x ++ text (made peer expected seq flags mss body)) none
    ∙ ap (λ (k : ℕ). text (made peer expected k flags mss body)) seq_is
    ∙ ap (λ (k : ℕ). text (made peer expected (part_sequence_number part) k mss body)) flags_is
    ∙ ap (λ (m : Option ℕ). text (made peer expected (part_sequence_number part) (part_flags part) m body)) mss_is
    ∙ ap (λ (x : List ℕ). text (made peer expected (part_sequence_number part) (part_flags part) (part_mss part) x)) body_is

few_options : (part : StreamPart) → sent_header_len (part_mss part) ≤ 24
few_options Opening = omega arith
few_options (Bytes p) = omega arith
few_options (Acknowledgement place) = omega arith

pub length-segment_to : (peer : Peer) (expected : ℕ) (part : StreamPart) → length (part_body part) ≤ 1000 → length (sent_segment server peer.ip (segment_to_peer peer expected part)) ≤ 1024
length-segment_to peer expected part short =
    omega (arith, length-sent_segment server peer.ip (segment_to_peer peer expected part), few_options part, short)

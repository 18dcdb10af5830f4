-- What answers a frame is never answered itself, and a segment that is sent is the one that is written.
use Rattle.std.proofs.Common.{◌≡◌, ℕ, ◌+◌, ◌*◌, ◌%◌, ◌^◌, Bool, true, false, cond, ◌++◌, length, take, drop, Option, Some, None, refl, ap, arith}
use Rattle.std.specs.Int.{w16, to_be_bytes}
use Rattle.std.proofs.lemmas.List.{length-append}
use Rattle.nb_wire.specs.Checksum.{checksum}
use Rattle.nb_wire.specs.declared.address.Ip4.{Ip4}
use Rattle.nb_wire.specs.declared.address.Mac.{Mac}
use Rattle.nb_ether.specs.declared.arp.Arp.{Arp}
use Rattle.nb_ipv4.specs.PacketText.{PacketParts}
use Rattle.nb_ipv4.specs.EchoText.{EchoParts}
use Rattle.nb_tcpseg.specs.SegmentText.{SegmentParts, tcp_header, tcp_pseudo_header, sent_options, sent_header_len, segment_text, sent_sum, sent_segment}
use Rattle.nb_tcpseg.proofs.HeaderLemmas.{length-tcp_header}
use Rattle.nb_stack.specs.Client.{Client}
use Rattle.nb_stack.specs.Bound.{owner_of}
use Rattle.nb_stack.specs.Brings.{arp_message, echo_reply, segment}
use Rattle.nb_stack.specs.Resets.{has_flag, sequence_length, segment_answer, reset_of}
use Rattle.nb_stack.specs.Takes.{Outcome, dropped, replied, arp_reply_to, echo_to, segment_to, outcome_of}
use Rattle.nb_stack.specs.Sends.{checksum_of, with_checksum}

abbrev is_reply : Outcome → Bool
is_reply replied = true
is_reply _ = false

-- no client answers an ARP reply,
pub arp_reply_ends : (c : Client) (from mac : Mac) (arp : Arp) → is_reply (outcome_of c (arp_message from (arp_reply_to mac arp))) ≡ false
arp_reply_ends c from mac arp = refl

-- nor an echo reply,
pub echo_reply_ends : (c : Client) (p : PacketParts) (e : EchoParts) → is_reply (outcome_of c (echo_reply p e)) ≡ false
echo_reply_ends c p e = to_port (owner_of 1 e.ident c.ports)
  where
    to_port : (owner : Option ℕ) → is_reply (echo_to p e owner) ≡ false
    to_port None = refl
    to_port (Some to) = refl

-- nor a reset
reset_is_one : (s : SegmentParts) → has_flag 4 (reset_of s) ≡ true
reset_is_one s = by (has_flag 16 s)
  where
    by : (b : Bool) → has_flag 4 (cond b (segment_answer s s.ack 0 4) (segment_answer s 0 ((s.seq + sequence_length s) % 2 ^ 32) 20)) ≡ true
    by true = refl
    by false = refl

pub reset_ends : (c : Client) (from : Mac) (p : PacketParts) (s : SegmentParts) → is_reply (outcome_of c (segment from p (reset_of s))) ≡ false
reset_ends c from p s = to_port (owner_of 6 (reset_of s).dst_port c.ports)
  where
    to_port : (owner : Option ℕ) → is_reply (segment_to p (reset_of s) owner) ≡ false
    to_port None = ap (λ b. is_reply (cond b dropped replied)) (reset_is_one s)
    to_port (Some to) = refl

-- a segment that is sent is as `Segment` writes it
pub sent_as_written : (src dst : Ip4) (s : SegmentParts) → with_checksum src dst (segment_text s 0) ≡ sent_segment src dst s
unfolding with_checksum sent_segment tcp_header
sent_as_written src dst s =
    let bytes = segment_text s 0 in
    let head = tcp_header s (4 * sent_header_len s.mss) 0 0 in
    let len : length bytes ≡ sent_header_len s.mss + length s.body = omega (arith, length-append head (sent_options s.mss ++ s.body), length-append (sent_options s.mss) s.body, length-tcp_header s (4 * sent_header_len s.mss) 0 0) in
    let sum : checksum_of src dst bytes ≡ sent_sum src dst s = ap (λ (n : ℕ). checksum (tcp_pseudo_header src dst n ++ bytes)) len in
    ap (λ (n : ℕ). take 16 bytes ++ to_be_bytes w16 n ++ drop 18 bytes) sum

-- A datagram that is sent is read again.
use Rattle.std.proofs.Common.{◌≡◌, ℕ, zero, suc, ◌+◌, ◌*◌, ◌/◌, ◌%◌, ◌<◌, ◌≤◌, ◌^◌, inr, List, [], ◌∷◌, ◌++◌, length, get_or, refl, sym, ap, ◌∙◌, append-nil, sum, subst, arith}
use Rattle.std.specs.Int.{w16, w32, to_be_bytes}
use Rattle.nb_wire.specs.declared.address.Ip4.{Ip4}
use Rattle.nb_wire.specs.Checksum.{words, checksum, SameSum, HasSum}
use Rattle.nb_wire.proofs.BytesLaws.{IsBytes}
use Rattle.nb_wire.proofs.ChecksumLaws.{checksum-zero, checksum-closes, checksum-ones, SameSum-parts, SameSum-trans, IsBytes-append}
use Rattle.nb_ipv4.specs.UdpText.{UdpParts, IsUdp, udp_header, udp_text, udp_sum, pseudo_header, sent_field, sent_datagram}
use Rattle.nb_ipv4.proofs.NumberLaws.{bytes_of, bytes_onto, same_of}
use Rattle.std.proofs.lemmas.List.{length-append}
use Rattle.nb_ipv4.proofs.UdpLaws.{header_form, length-udp_header}

abbrev as_two : List ℕ → List ℕ
as_two x = get_or x 0 0 ∷ get_or x 1 0 ∷ []

-- the eight bytes that are written are the header
pub header_written : (d : UdpParts) (sum : ℕ) (src_port dst_port total field : List ℕ) → src_port ≡ to_be_bytes w16 d.src_port → dst_port ≡ to_be_bytes w16 d.dst_port → total ≡ to_be_bytes w16 (8 + length d.body) → field ≡ to_be_bytes w16 sum → header_form (as_two src_port) (as_two dst_port) (as_two total) (as_two field) ≡ udp_header d sum
unfolding udp_header
header_written d sum src_port dst_port total field src_is dst_is total_is field_is =
    ap (λ (x : List ℕ). header_form (as_two x) (as_two dst_port) (as_two total) (as_two field)) src_is
    ∙ ap (λ (x : List ℕ). header_form (to_be_bytes w16 d.src_port) (as_two x) (as_two total) (as_two field)) dst_is
    ∙ ap (λ (x : List ℕ). header_form (to_be_bytes w16 d.src_port) (to_be_bytes w16 d.dst_port) (as_two x) (as_two field)) total_is
    ∙ ap (λ (x : List ℕ). header_form (to_be_bytes w16 d.src_port) (to_be_bytes w16 d.dst_port) (to_be_bytes w16 (8 + length d.body)) (as_two x)) field_is

abbrev before_sum : Ip4 → Ip4 → UdpParts → List ℕ
before_sum src dst d =
    to_be_bytes w32 src.0 ++ to_be_bytes w32 dst.0 ++ 0 ∷ 17 ∷ to_be_bytes w16 (8 + length d.body) ++ to_be_bytes w16 d.src_port ++ to_be_bytes w16 d.dst_port ++ to_be_bytes w16 (8 + length d.body)

text_around : (src dst : Ip4) (d : UdpParts) (field : ℕ) → pseudo_header src dst (8 + length d.body) ++ udp_text d field ≡ before_sum src dst d ++ field / 256 % 256 ∷ field % 256 ∷ d.body
unfolding udp_header pseudo_header
text_around src dst d field = refl

text_fits : (src dst : Ip4) (d : UdpParts) (high low : ℕ) → IsBytes d.body → high < 256 → low < 256 → IsBytes (before_sum src dst d ++ high ∷ low ∷ d.body)
text_fits src dst d high low body h l = bytes_onto (before_sum src dst d ++ high ∷ low ∷ []) d.body (omega arith, (omega arith, (omega arith, (omega arith, (omega arith, (omega arith, (omega arith, (omega arith, (omega arith, (omega arith, (omega arith, (omega arith, (omega arith, (omega arith, (omega arith, (omega arith, (omega arith, (omega arith, (h, (l, tt)))))))))))))))))))) body

sum_closed : (src dst : Ip4) (d : UdpParts) (sum : ℕ) → IsBytes d.body → sum ≡ udp_sum src dst d 0 → udp_sum src dst d (sent_field sum) ≡ 0
sum_closed src dst d zero body sum_is =
    ap checksum (text_around src dst d 65535)
    ∙ checksum-ones (before_sum src dst d) d.body refl (text_fits src dst d 255 255 body (omega arith) (omega arith)) (text_fits src dst d 0 0 body (omega arith) (omega arith))
    (sym (ap checksum (text_around src dst d 0)) ∙ sym sum_is)
sum_closed src dst d (suc n) body sum_is =
    let unsummed = before_sum src dst d ++ 0 ∷ 0 ∷ d.body in
    let zeros : IsBytes unsummed = text_fits src dst d 0 0 body (omega arith) (omega arith) in
    let is : suc n ≡ checksum unsummed = sum_is ∙ ap checksum (text_around src dst d 0) in
    let small : suc n < 65536 = omega (arith, is, checksum-zero unsummed zeros) in
    let field : 256 * (suc n / 256 % 256) + suc n % 256 ≡ checksum unsummed = omega (arith, small, is) in
    ap checksum (text_around src dst d (suc n))
    ∙ checksum-closes (before_sum src dst d) d.body (suc n / 256 % 256) (suc n % 256) refl (text_fits src dst d (suc n / 256 % 256) (suc n % 256) body (omega arith) (omega arith)) zeros field

field_small : (sum : ℕ) → sum < 2 ^ 16 → sent_field sum < 2 ^ 16
field_small zero small = omega arith
field_small (suc n) small = small

sum_small : (src dst : Ip4) (d : UdpParts) → IsBytes d.body → udp_sum src dst d 0 < 2 ^ 16
sum_small src dst d body =
    let unsummed = before_sum src dst d ++ 0 ∷ 0 ∷ d.body in
    omega (arith, ap checksum (text_around src dst d 0), checksum-zero unsummed (text_fits src dst d 0 0 body (omega arith) (omega arith)))

pub sent_readable : (src dst : Ip4) (d : UdpParts) → IsBytes d.body → length d.body ≤ 65527 → (d.src_port < 2 ^ 16) × (d.dst_port < 2 ^ 16) → IsUdp src dst (sent_datagram src dst d) d
unfolding sent_datagram
sent_readable src dst d body room ports = record {
  field = sent_field (udp_sum src dst d 0);
  padding = [];
  src_port = ports.0;
  dst_port = ports.1;
  total = omega (arith, room);
  field_fits = field_small (udp_sum src dst d 0) (sum_small src dst d body);
  spelled = sym (append-nil _);
  checked = inr (sum_closed src dst d (udp_sum src dst d 0) body refl);
}

-- the sum of the pseudo-header's words, from its fields
pub pseudo_has_sum : (src dst : Ip4) (len n : ℕ) → len < 2 ^ 16 → n ≡ sum (words (to_be_bytes w32 src.0)) + sum (words (to_be_bytes w32 dst.0)) + 17 + len → HasSum (pseudo_header src dst len) n
unfolding pseudo_header
pseudo_has_sum src dst len n room is =
    let e : n ≡ sum (words (pseudo_header src dst len)) = omega (arith, is, room) in
    record {
      even = refl;
      fits = bytes_of (pseudo_header src dst len) (omega arith, (omega arith, (omega arith, (omega arith, (omega arith, (omega arith, (omega arith, (omega arith, (omega arith, (omega arith, (omega arith, (omega arith, tt))))))))))));
      same = same_of e;
    }

header_fits : (d : UdpParts) → IsBytes (udp_header d 0)
unfolding udp_header
header_fits d = bytes_of (udp_header d 0) (omega arith, (omega arith, (omega arith, (omega arith, (omega arith, (omega arith, (omega arith, (omega arith, tt))))))))

header_sum : (d : UdpParts) → d.src_port < 2 ^ 16 → d.dst_port < 2 ^ 16 → 8 + length d.body < 2 ^ 16 → SameSum ((d.src_port + d.dst_port) + (8 + length d.body)) (sum (words (udp_header d 0)))
unfolding udp_header
header_sum d src_port dst_port room = same_of (omega (arith, src_port, dst_port, room))

-- a carry counts as 1, so an address stands for both of its words
pub pseudo_stands : (src dst : Ip4) (len n : ℕ) → src.0 < 2 ^ 32 → dst.0 < 2 ^ 32 → len < 2 ^ 16 → n ≡ src.0 + dst.0 + 17 + len → HasSum (pseudo_header src dst len) n
pseudo_stands src dst len n src_fits dst_fits room is =
    let m : ℕ = sum (words (to_be_bytes w32 src.0)) + sum (words (to_be_bytes w32 dst.0)) + 17 + len in
    let has = pseudo_has_sum src dst len m room refl in
    record {
      even = has.even;
      fits = has.fits;
      same = SameSum-trans n m _ (omega (arith, is, src_fits, dst_fits), λ z. absurd (omega (arith, is, z)), λ z. absurd (omega (arith, z))) has.same;
    }

-- the same sum with that of a header whose checksum is 0
pub covered_has_sum : (src dst : Ip4) (d : UdpParts) (m n : ℕ) → HasSum (pseudo_header src dst (8 + length d.body)) m → d.src_port < 2 ^ 16 → d.dst_port < 2 ^ 16 → 8 + length d.body < 2 ^ 16 → n ≡ m + (d.src_port + d.dst_port) + (8 + length d.body) → HasSum (pseudo_header src dst (8 + length d.body) ++ udp_header d 0) n
covered_has_sum src dst d m n has src_port dst_port room is = record {
  even = omega (arith, has.even, length-append (pseudo_header src dst (8 + length d.body)) (udp_header d 0), length-udp_header d 0);
  fits = IsBytes-append (pseudo_header src dst (8 + length d.body)) (udp_header d 0) has.fits (header_fits d);
  same = let P : ℕ → Type 0 = λ k. SameSum k (sum (words (pseudo_header src dst (8 + length d.body) ++ udp_header d 0))) in subst P (omega (arith, is)) (SameSum-parts (pseudo_header src dst (8 + length d.body)) (udp_header d 0) m ((d.src_port + d.dst_port) + (8 + length d.body)) has.even has.same (header_sum d src_port dst_port room));
}

-- what is put is the datagram as it is sent
pub sent_whole : (src dst : Ip4) (d : UdpParts) (closed : List ℕ) (sum field : ℕ) → sum ≡ udp_sum src dst d 0 → field ≡ sent_field sum → closed ≡ udp_header d field → closed ++ d.body ≡ sent_datagram src dst d
unfolding sent_datagram
sent_whole src dst d closed sum field sum_of field_is closed_is =
    ap (λ (x : List ℕ). x ++ d.body) (closed_is ∙ ap (λ (n : ℕ). udp_header d n) (field_is ∙ ap (λ (n : ℕ). sent_field n) sum_of))

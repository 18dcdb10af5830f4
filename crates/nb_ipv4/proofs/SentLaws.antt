-- A packet that is sent is read again.
use Rattle.std.proofs.Common.{◌≡◌, ℕ, ◌+◌, ◌*◌, ◌/◌, ◌%◌, ◌<◌, ◌≤◌, ◌^◌, List, [], ◌∷◌, ◌++◌, length, get_or, refl, sym, ap, ◌∙◌, append-nil, sum, arith}
use Rattle.std.specs.Int.{w16, w32, to_be_bytes}
use Rattle.nb_wire.specs.Checksum.{words, checksum, HasSum}
use Rattle.nb_wire.proofs.BytesLaws.{IsBytes}
use Rattle.nb_wire.proofs.ChecksumLaws.{checksum-zero, checksum-closes}
use Rattle.nb_ipv4.specs.PacketText.{PacketParts, IsPacket, header_text, sent_header, sent_packet}
use Rattle.nb_ipv4.proofs.NumberLaws.{bytes_of, same_of}
use Rattle.nb_ipv4.proofs.PacketLaws.{header_form}

abbrev as_two : List ℕ → List ℕ
as_two x = get_or x 0 0 ∷ get_or x 1 0 ∷ []

abbrev as_four : List ℕ → List ℕ
as_four x = get_or x 0 0 ∷ get_or x 1 0 ∷ get_or x 2 0 ∷ get_or x 3 0 ∷ []

-- the twenty bytes that are written are the header
pub header_written : (sum : ℕ) (p : PacketParts) (total sum_bytes src dst : List ℕ) → total ≡ to_be_bytes w16 (20 + length p.body) → sum_bytes ≡ to_be_bytes w16 sum → src ≡ to_be_bytes w32 p.src.0 → dst ≡ to_be_bytes w32 p.dst.0 → header_form 69 0 (as_two total) (0 ∷ 0 ∷ []) (64 ∷ 0 ∷ []) 64 p.proto (as_two sum_bytes) (as_four src) (as_four dst) [] ≡ header_text (sent_header sum) p
unfolding header_text
header_written sum p total sum_bytes src dst total_is sum_is src_is dst_is =
    ap (λ (x : List ℕ). header_form 69 0 (as_two x) (0 ∷ 0 ∷ []) (64 ∷ 0 ∷ []) 64 p.proto (as_two sum_bytes) (as_four src) (as_four dst) []) total_is
    ∙ ap (λ (x : List ℕ). header_form 69 0 (to_be_bytes w16 (20 + length p.body)) (0 ∷ 0 ∷ []) (64 ∷ 0 ∷ []) 64 p.proto (as_two x) (as_four src) (as_four dst) []) sum_is
    ∙ ap (λ (x : List ℕ). header_form 69 0 (to_be_bytes w16 (20 + length p.body)) (0 ∷ 0 ∷ []) (64 ∷ 0 ∷ []) 64 p.proto (to_be_bytes w16 sum) (as_four x) (as_four dst) []) src_is
    ∙ ap (λ (x : List ℕ). header_form 69 0 (to_be_bytes w16 (20 + length p.body)) (0 ∷ 0 ∷ []) (64 ∷ 0 ∷ []) 64 p.proto (to_be_bytes w16 sum) (to_be_bytes w32 p.src.0) (as_four x) []) dst_is

abbrev before_sum : PacketParts → List ℕ
before_sum p = 69 ∷ 0 ∷ (20 + length p.body) / 256 % 256 ∷ (20 + length p.body) % 256 ∷ 0 ∷ 0 ∷ 64 ∷ 0 ∷ 64 ∷ p.proto ∷ []

abbrev after_sum : PacketParts → List ℕ
after_sum p = to_be_bytes w32 p.src.0 ++ to_be_bytes w32 p.dst.0

header_around : (sum : ℕ) (p : PacketParts) → header_text (sent_header sum) p ≡ before_sum p ++ sum / 256 % 256 ∷ sum % 256 ∷ after_sum p
unfolding header_text
header_around sum p = refl

pub header_fits : (high low : ℕ) (p : PacketParts) → p.proto < 256 → high < 256 → low < 256 → IsBytes (before_sum p ++ high ∷ low ∷ after_sum p)
header_fits high low p proto h l =
    bytes_of (before_sum p ++ high ∷ low ∷ after_sum p) (omega arith, (omega arith, (omega arith, (omega arith, (omega arith, (omega arith, (omega arith, (omega arith, (omega arith, (proto, (h, (l, (omega arith, (omega arith, (omega arith, (omega arith, (omega arith, (omega arith, (omega arith, (omega arith, tt))))))))))))))))))))

sent_checked : (p : PacketParts) → p.proto < 256 → checksum (header_text (sent_header (checksum (header_text (sent_header 0) p))) p) ≡ 0
sent_checked p proto =
    let unsummed = before_sum p ++ 0 ∷ 0 ∷ after_sum p in
    let sum = checksum (header_text (sent_header 0) p) in
    let sum_is : sum ≡ checksum unsummed = ap checksum (header_around 0 p) in
    let zeros : IsBytes unsummed = header_fits 0 0 p proto (omega arith) (omega arith) in
    let small : sum < 65536 = omega (arith, sum_is, checksum-zero unsummed zeros) in
    let field : 256 * (sum / 256 % 256) + sum % 256 ≡ checksum unsummed = omega (arith, small, sum_is) in
    ap checksum (header_around sum p)
    ∙ checksum-closes (before_sum p) (after_sum p) (sum / 256 % 256) (sum % 256) refl (header_fits (sum / 256 % 256) (sum % 256) p proto (omega arith) (omega arith)) zeros field

pub sent_readable : (p : PacketParts) → length p.body ≤ 65515 → (p.src.0 < 2 ^ 32) × (p.dst.0 < 2 ^ 32) × (p.proto < 256) → IsPacket (sent_packet p) p
unfolding sent_packet
sent_readable p room fits = record {
  header = sent_header (checksum (header_text (sent_header 0) p));
  padding = [];
  option_words = 0;
  options = (refl, omega arith);
  flags = omega arith;
  total = omega (arith, room);
  src = fits.0;
  dst = fits.1;
  spelled = sym (append-nil _);
  checked = sent_checked p fits.2;
}

-- the sum of a header's words, from its fields
pub header_has_sum : (p : PacketParts) (n : ℕ) → length p.body ≤ 65515 → (p.src.0 < 2 ^ 32) × (p.dst.0 < 2 ^ 32) × (p.proto < 256) → n ≡ 17664 + 20 + length p.body + (32768 + p.proto) + sum (words (to_be_bytes w32 p.src.0)) + sum (words (to_be_bytes w32 p.dst.0)) → HasSum (header_text (sent_header 0) p) n
unfolding header_text
header_has_sum p n room fits is =
    let e : n ≡ sum (words (header_text (sent_header 0) p)) = omega (arith, is, room, fits.2) in
    record { even = refl; fits = header_fits 0 0 p fits.2 (omega arith) (omega arith); same = same_of e }

-- what is put is the packet as it is sent
pub sent_whole : (p : PacketParts) (closed : List ℕ) (sum : ℕ) → sum ≡ checksum (header_text (sent_header 0) p) → closed ≡ header_text (sent_header sum) p → closed ++ p.body ≡ sent_packet p
unfolding sent_packet
sent_whole p closed sum sum_of closed_is =
    ap (λ (x : List ℕ). x ++ p.body) (closed_is ∙ ap (λ (n : ℕ). header_text (sent_header n) p) sum_of)

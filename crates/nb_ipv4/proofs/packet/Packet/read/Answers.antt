use Rattle.std.proofs.Common.{◌≡◌, ◌<◌, ℕ, ◌+◌, ◌*◌, ◌≤◌, length, get_or, take, ap, ◌∙◌, arith, refl}
use Rattle.nb_wire.specs.Checksum.{checksum}
use Rattle.nb_wire.proofs.BytesLaws.{IsBytes, Splits, splits_of}
use Rattle.nb_ipv4.specs.PacketText.{IsPacket}
use Rattle.nb_ipv4.proofs.PacketLaws.{packet_placed, packet_made, packet_one, take_take, made}
use Rattle.nb_ipv4.proofs.packet.Packet.read.Goals as goal
use Rattle.nb_ipv4.proofs.packet.Packet.read.Goals.{then-is_fragment-via-then-is_fragment, then-is_fragment-via-else-is_fragment+then-total_len-header_len, then-is_fragment-via-else-is_fragment+else-total_len-header_len+then-bytes-total_len}

pub returns-in_err-fixed-clause-complete : goal.returns-in_err-fixed-clause-complete
returns-in_err-fixed-clause-complete c = λ p is.
    let placed = packet_placed (take 20 c.args.bytes.now) c.args.bytes.now p refl is in
    absurd (omega (arith, placed.long, c.in_err-fixed.ensures.cases))

pub returns-in_err-header_len-clause-complete : goal.returns-in_err-header_len-clause-complete
returns-in_err-header_len-clause-complete c = λ p is.
    let placed = packet_placed c.in_ok-fixed.fixed.now c.args.bytes.now p c.in_ok-fixed.ensures.cases.0 is in
    absurd (omega (arith, placed.first, placed.words_fit, c.in_err-header_len.ensures.none))

pub returns-then-is_fragment-clause-complete : goal.returns-then-is_fragment-clause-complete
returns-then-is_fragment-clause-complete c = λ p is.
    let placed = packet_placed c.in_ok-fixed.fixed.now c.args.bytes.now p c.in_ok-fixed.ensures.cases.0 is in
    elim c.then-is_fragment.branch [
      | then-is_fragment-via-then-is_fragment w ↦ absurd (omega (arith, placed.unbroken, placed.at_start, w.if-is_fragment.ensures))
      | then-is_fragment-via-else-is_fragment+then-total_len-header_len w ↦ absurd (omega (arith, placed.total, placed.first, c.from_be_bytes.ensures, c.from-total_len.ensures, c.in_ok-header_len.ensures.length.0))
      | then-is_fragment-via-else-is_fragment+else-total_len-header_len+then-bytes-total_len w ↦ absurd (omega (arith, placed.total, placed.long, c.from_be_bytes.ensures, c.from-total_len.ensures))
    ]

pub returns-then-not-is_header_intact-clause-complete : goal.returns-then-not-is_header_intact-clause-complete
returns-then-not-is_header_intact-clause-complete c = λ p is.
    let placed = packet_placed c.in_ok-fixed.fixed.now c.args.bytes.now p c.in_ok-fixed.ensures.cases.0 is in
    let len = c.in_ok-header_len.header_len in
    let header_is : c.split_at.result.0.now ≡ take len (take c.from-total_len.result c.args.bytes.now) = c.split_at.ensures.front in
    let total_is : c.from-total_len.result ≡ 20 + 4 * placed.words + length p.body = omega (arith, placed.total, c.from_be_bytes.ensures, c.from-total_len.ensures) in
    let len_is : len ≡ 20 + 4 * placed.words = omega (arith, placed.first, c.in_ok-header_len.ensures.length.0) in
    let same : take len (take c.from-total_len.result c.args.bytes.now) ≡ take (20 + 4 * placed.words) c.args.bytes.now =
    take_take len c.from-total_len.result c.args.bytes.now (omega (arith, total_is, len_is)) (omega (arith, total_is, placed.long)) ∙ ap (λ (n : ℕ). take n c.args.bytes.now) len_is in
    let broken : 0 < checksum c.split_at.result.0.now = c.if-not-is_header_intact.ensures in
    absurd (omega (arith, broken, ap checksum (header_is ∙ same) ∙ placed.checked))

is_packet : (c : goal.After-from_be_bytes-3) → IsPacket c.args.bytes.now (made c.from_be_bytes-2.result c.from_be_bytes-3.result (get_or c.in_ok-fixed.fixed.now 9 0) c.split_at.result.1.now)
is_packet c =
    let bytes : IsBytes c.args.bytes.now = λ i. omega (arith, c.type_inv.bytes i) in
    let fixed : Splits 20 c.args.bytes.now c.in_ok-fixed.fixed.now c.in_ok-fixed.field-0-1.now = splits_of 20 _ _ _ c.in_ok-fixed.ensures.cases.0 c.in_ok-fixed.ensures.cases.1 c.in_ok-fixed.ensures.cases.2 in
    let total : c.from-total_len.result ≡ 256 * get_or c.in_ok-fixed.fixed.now 2 0 + get_or c.in_ok-fixed.fixed.now 3 0 = omega (arith, c.from_be_bytes.ensures, c.from-total_len.ensures) in
    let enough : c.from-total_len.result ≤ length c.args.bytes.now = omega (arith, c.if-bytes-total_len.false) in
    let fit : c.in_ok-header_len.header_len ≤ c.from-total_len.result = omega (arith, c.if-total_len-header_len.false) in
    let sum : checksum c.split_at.result.0.now ≡ 0 = c.if-not-is_header_intact.ensures in
    packet_made _ _ _ _ _ _ _ _ _ bytes fixed c.from_be_bytes-2.ensures c.from_be_bytes-3.ensures total enough fit c.in_ok-header_len.ensures.length c.split_at.ensures.front c.split_at.ensures.back c.if-is_fragment.ensures sum

pub returns-clause-sound : goal.returns-clause-sound
returns-clause-sound c = is_packet c

pub returns-clause-complete : goal.returns-clause-complete
returns-clause-complete c = λ p is. packet_one _ _ p (is_packet c) is

use Rattle.std.proofs.Common.{◌≡◌, ℕ, ◌+◌, ◌<◌, ◌≤◌, ◌⊎◌, List, ◌++◌, length, take, drop, sym, ap, ◌∙◌, inl, inr, arith, refl}
use Rattle.nb_wire.specs.Checksum.{checksum}
use Rattle.nb_wire.proofs.BytesLaws.{IsBytes, Splits, splits_of}
use Rattle.nb_ipv4.specs.UdpText.{IsUdp, pseudo_header}
use Rattle.nb_ipv4.proofs.UdpLaws.{covered_front, udp_placed, udp_made, udp_one, made}
use Rattle.nb_ipv4.proofs.udp.Udp.read.Goals as goal
use Rattle.nb_ipv4.proofs.udp.Udp.read.Goals.{then-len-lt-HEADER_LEN-via-then-len-lt-HEADER_LEN, then-len-lt-HEADER_LEN-via-else-len-lt-HEADER_LEN+then-bytes-from}

pub returns-in_err-fixed-clause-complete : goal.returns-in_err-fixed-clause-complete
returns-in_err-fixed-clause-complete c = λ d is.
    let placed = udp_placed c.args.src c.args.dst (take 8 c.args.bytes.now) c.args.bytes.now d refl is in
    absurd (omega (arith, placed.long, c.in_err-fixed.ensures.cases))

pub returns-then-len-lt-HEADER_LEN-clause-complete : goal.returns-then-len-lt-HEADER_LEN-clause-complete
returns-then-len-lt-HEADER_LEN-clause-complete c = λ d is.
    let placed = udp_placed c.args.src c.args.dst c.in_ok-fixed.fixed.now c.args.bytes.now d c.in_ok-fixed.ensures.cases.0 is in
    elim c.then-len-lt-HEADER_LEN.branch [
      | then-len-lt-HEADER_LEN-via-then-len-lt-HEADER_LEN w ↦ absurd (omega (arith, placed.total, c.from_be_bytes-len.ensures))
      | then-len-lt-HEADER_LEN-via-else-len-lt-HEADER_LEN+then-bytes-from w ↦ absurd (omega (arith, placed.total, placed.long, c.from_be_bytes-len.ensures, w.from.ensures))
    ]

pub returns-then-not-is_intact-clause-complete : goal.returns-then-not-is_intact-clause-complete
returns-then-not-is_intact-clause-complete c = λ d is.
    let placed = udp_placed c.args.src c.args.dst c.in_ok-fixed.fixed.now c.args.bytes.now d c.in_ok-fixed.ensures.cases.0 is in
    let len_is : c.from_be_bytes-len.result ≡ 8 + length d.body = omega (arith, placed.total, c.from_be_bytes-len.ensures) in
    let broken : (0 < c.from_be_bytes-field.result) × (0 < checksum (pseudo_header c.args.src c.args.dst (length c.split_at.result.0.now) ++ c.split_at.result.0.now)) = c.if-not-is_intact.ensures in
    let whole : c.split_at.result.0.now ≡ take (8 + length d.body) c.args.bytes.now = c.split_at.ensures.front ∙ ap (λ (n : ℕ). take n c.args.bytes.now) (c.from-2.ensures ∙ len_is) in
    let same : pseudo_header c.args.src c.args.dst (length c.split_at.result.0.now) ++ c.split_at.result.0.now ≡ pseudo_header c.args.src c.args.dst (8 + length d.body) ++ take (8 + length d.body) c.args.bytes.now =
    covered_front c.args.src c.args.dst (8 + length d.body) c.args.bytes.now c.split_at.result.0.now whole placed.long in
    elim placed.checked [
      | inl none ↦ absurd (omega (arith, none, broken.0, c.from_be_bytes-field.ensures))
      | inr sum ↦ absurd (omega (arith, broken.1, ap checksum same ∙ sum))
    ]

is_udp : (c : goal.After-from_be_bytes-2) → IsUdp c.args.src c.args.dst c.args.bytes.now (made c.from_be_bytes.result c.from_be_bytes-2.result c.split_at-2.result.1.now)
is_udp c =
    let bytes : IsBytes c.args.bytes.now = λ i. omega (arith, c.type_inv.bytes i) in
    let fixed : Splits 8 c.args.bytes.now c.in_ok-fixed.fixed.now c.in_ok-fixed.field-0-1.now = splits_of 8 _ _ _ c.in_ok-fixed.ensures.cases.0 c.in_ok-fixed.ensures.cases.1 c.in_ok-fixed.ensures.cases.2 in
    let len = c.from_be_bytes-len.result in
    let enough : len ≤ length c.args.bytes.now = omega (arith, c.if-bytes-from.false, c.from.ensures) in
    let least : 8 ≤ len = omega (arith, c.if-len-lt-HEADER_LEN.false) in
    let whole : c.split_at.result.0.now ≡ take len c.args.bytes.now = c.split_at.ensures.front ∙ ap (λ (n : ℕ). take n c.args.bytes.now) c.from-2.ensures in
    let body : c.split_at-2.result.1.now ≡ drop 8 (take len c.args.bytes.now) = c.split_at-2.ensures.back ∙ ap (λ (n : ℕ). drop n c.split_at.result.0.now) c.from-3.ensures ∙ ap (λ (b : List ℕ). drop 8 b) whole in
    let intact : (c.from_be_bytes-field.result ≡ 0) ⊎ (checksum (pseudo_header c.args.src c.args.dst (length c.split_at.result.0.now) ++ c.split_at.result.0.now) ≡ 0) = c.if-not-is_intact.ensures in
    let same : pseudo_header c.args.src c.args.dst len ++ take len c.args.bytes.now ≡ pseudo_header c.args.src c.args.dst (length c.split_at.result.0.now) ++ c.split_at.result.0.now =
    sym (covered_front c.args.src c.args.dst len c.args.bytes.now c.split_at.result.0.now whole enough) in
    udp_made c.args.src c.args.dst _ _ _ _ c.from_be_bytes.result c.from_be_bytes-2.result len c.from_be_bytes-field.result bytes fixed (omega (arith, c.from_be_bytes.ensures)) (omega (arith, c.from_be_bytes-2.ensures)) (omega (arith, c.from_be_bytes-len.ensures)) (omega (arith, c.from_be_bytes-field.ensures)) least enough body
    (elim intact [
      | inl none ↦ inl none
      | inr sum ↦ inr (ap checksum same ∙ sum)
    ])

pub returns-clause-sound : goal.returns-clause-sound
returns-clause-sound c = is_udp c

pub returns-clause-complete : goal.returns-clause-complete
returns-clause-complete c = λ d is. udp_one _ _ _ _ d (is_udp c) is

use Rattle.std.proofs.Common.{◌≡◌, ℕ, ◌*◌, ◌/◌, ◌^◌, ◌≤◌, ◌<◌, List, length, get_or, take, drop, subst, sym, ap, ◌∙◌, arith, refl}
use Rattle.nb_wire.proofs.BytesLaws.{IsBytes, Splits, splits_of}
use Rattle.nb_tcpseg.specs.Options.{OptionsSay}
use Rattle.nb_tcpseg.proofs.HeaderLemmas.{segment_placed, segment_found, segment_made, IsSegmentPlaced}
use Rattle.nb_tcpseg.proofs.segment.Segment.parse.Goals as goal
use Rattle.nb_tcpseg.proofs.segment.Segment.parse.Goals.{then-bytes-header_len-via-then-bytes-header_len, then-bytes-header_len-via-else-bytes-header_len+then-bytes-gt-MOST_LEN}

pub returns-in_err-fixed-clause-complete : goal.returns-in_err-fixed-clause-complete
returns-in_err-fixed-clause-complete c = λ s is.
    let placed = segment_placed (take 20 c.args.bytes.now) c.args.bytes.now s refl is in
    absurd (omega (arith, placed.long, placed.least, c.in_err-fixed.ensures.cases))

pub returns-in_err-header_len-clause-complete : goal.returns-in_err-header_len-clause-complete
returns-in_err-header_len-clause-complete c = λ s is.
    let placed = segment_placed c.in_ok-fixed.fixed.now c.args.bytes.now s c.in_ok-fixed.ensures.cases.0 is in
    absurd (omega (arith, placed.least, placed.len_is, c.in_err-header_len.ensures.none))

pub returns-then-bytes-header_len-clause-complete : goal.returns-then-bytes-header_len-clause-complete
returns-then-bytes-header_len-clause-complete c = λ s is.
    let placed = segment_placed c.in_ok-fixed.fixed.now c.args.bytes.now s c.in_ok-fixed.ensures.cases.0 is in
    elim c.then-bytes-header_len.branch [
      | then-bytes-header_len-via-then-bytes-header_len w ↦ absurd (omega (arith, placed.long, placed.len_is, c.in_ok-header_len.ensures.length.0, w.if-bytes-header_len.true))
      | then-bytes-header_len-via-else-bytes-header_len+then-bytes-gt-MOST_LEN w ↦ absurd (omega (arith, placed.short, w.if-bytes-gt-MOST_LEN.true))
    ]

pub returns-in_err-mss-clause-complete : goal.returns-in_err-mss-clause-complete
returns-in_err-mss-clause-complete c = λ s is.
    let placed : IsSegmentPlaced c.in_ok-fixed.fixed.now c.args.bytes.now s = segment_placed c.in_ok-fixed.fixed.now c.args.bytes.now s c.in_ok-fixed.ensures.cases.0 is in
    let len : placed.len ≡ c.in_ok-header_len.header_len = placed.len_is ∙ sym c.in_ok-header_len.ensures.length.0 in
    let options : drop 20 (take placed.len c.args.bytes.now) ≡ c.split_at-2.result.1.now = ap (λ (n : ℕ). drop 20 (take n c.args.bytes.now)) len ∙ sym (c.split_at-2.ensures.back ∙ ap (λ (x : List ℕ). drop 20 x) c.split_at.ensures.front) in
    absurd (c.in_err-mss.ensures.complete s.mss (subst (λ (x : List ℕ). OptionsSay x s.mss) options placed.mss))

pub returns-clause-sound : goal.returns-clause-sound
returns-clause-sound c =
    let bytes : IsBytes c.args.bytes.now = λ i. omega (arith, c.type_inv.bytes i) in
    let fixed : Splits 20 c.args.bytes.now c.in_ok-fixed.fixed.now c.in_ok-fixed.field-0-1.now = splits_of 20 _ _ _ c.in_ok-fixed.ensures.cases.0 c.in_ok-fixed.ensures.cases.1 c.in_ok-fixed.ensures.cases.2 in
    let len : c.in_ok-header_len.header_len ≡ 4 * (get_or c.in_ok-fixed.fixed.now 12 0 / 16) = c.in_ok-header_len.ensures.length.0 in
    let least : 20 ≤ c.in_ok-header_len.header_len = omega (arith, c.in_ok-header_len.ensures.length.0, c.in_ok-header_len.ensures.length.1) in
    let enough : c.in_ok-header_len.header_len ≤ length c.args.bytes.now = omega (arith, c.if-bytes-header_len.false) in
    let options : c.split_at-2.result.1.now ≡ drop 20 (take c.in_ok-header_len.header_len c.args.bytes.now) = c.split_at-2.ensures.back ∙ ap (λ (x : List ℕ). drop 20 x) c.split_at.ensures.front in
    let short : length c.args.bytes.now < 2 ^ 16 = omega (arith, c.if-bytes-gt-MOST_LEN.false) in
    segment_made c.in_ok-fixed.fixed.now c.in_ok-fixed.field-0-1.now c.args.bytes.now c.split_at-2.result.1.now c.split_at.result.1.now c.in_ok-mss.mss c.from_be_bytes.result c.from_be_bytes-2.result c.from_be_bytes-3.result c.from_be_bytes-4.result c.from_be_bytes-5.result c.in_ok-header_len.header_len bytes fixed c.in_ok-fixed.ensures.cases.0 (omega (arith, c.from_be_bytes.ensures)) (omega (arith, c.from_be_bytes-2.ensures)) c.from_be_bytes-3.ensures c.from_be_bytes-4.ensures (omega (arith, c.from_be_bytes-5.ensures)) len least enough options c.split_at.ensures.back c.in_ok-mss.ensures.sound short

pub returns-clause-complete : goal.returns-clause-complete
returns-clause-complete c = λ s is.
    let placed : IsSegmentPlaced c.in_ok-fixed.fixed.now c.args.bytes.now s = segment_placed c.in_ok-fixed.fixed.now c.args.bytes.now s c.in_ok-fixed.ensures.cases.0 is in
    let len : placed.len ≡ c.in_ok-header_len.header_len = placed.len_is ∙ sym c.in_ok-header_len.ensures.length.0 in
    let options : drop 20 (take placed.len c.args.bytes.now) ≡ c.split_at-2.result.1.now = ap (λ (n : ℕ). drop 20 (take n c.args.bytes.now)) len ∙ sym (c.split_at-2.ensures.back ∙ ap (λ (x : List ℕ). drop 20 x) c.split_at.ensures.front) in
    let mss : c.in_ok-mss.mss ≡ s.mss = c.in_ok-mss.ensures.complete s.mss (subst (λ (x : List ℕ). OptionsSay x s.mss) options placed.mss) in
    segment_found c.in_ok-fixed.fixed.now c.args.bytes.now c.split_at.result.1.now s c.from_be_bytes.result c.from_be_bytes-2.result c.from_be_bytes-3.result c.from_be_bytes-4.result c.from_be_bytes-5.result c.in_ok-header_len.header_len c.in_ok-mss.mss placed (omega (arith, c.from_be_bytes.ensures)) (omega (arith, c.from_be_bytes-2.ensures)) c.from_be_bytes-3.ensures c.from_be_bytes-4.ensures (omega (arith, c.from_be_bytes-5.ensures)) mss c.in_ok-header_len.ensures.length.0 c.split_at.ensures.back

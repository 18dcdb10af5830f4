-- Bytes with which a record can begin, and that aren't whole, can be filled up to a record.
use Rattle.std.proofs.Common.{◌≡◌, ℕ, ◌+◌, ◌*◌, ◌<◌, ◌≤◌, List, [], ◌∷◌, ◌++◌, length, drop, refl, ◌∙◌, arith, inl, inr, lit≤, lit<}
use Rattle.std.proofs.lemmas.Bool.{cases_lt}
use Rattle.std.proofs.lemmas.List.{length-append, length-drop}
use Rattle.nb_defs.specs.Records.{IsPartial}
use Rattle.nb_defs.proofs.RecordLaws.{in_by, partial_front, nothing_partial}
use Rattle.nb_record.specs.declared.kind.Kind.{Kind}
use Rattle.nb_record.specs.declared.kind.Kind.TheVariants as kind
use Rattle.nb_record.specs.Reading.{length_with, ms_with, record_type, least_length, greatest_length, BodyBeginsAs, BeginsAs, whole_len}
use Rattle.nb_record.proofs.KnownLemmas.{IsBytes, length_known, length_front, lengths}
use Rattle.nb_record.proofs.FillerLemmas.{none_fits, four_fits, filler, filler_fits, length-filler, filler-4, at_filled, body_filled}
use Rattle.nb_record.proofs.WholeLemmas.{IsWhole, whole_valid, whole_spelled}

filled : Kind → List ℕ → List ℕ
filled k bytes = bytes ++ drop (length bytes) (filler k (length_with 0 bytes))

-- four bytes or more of a record, and how many are yet to come
record IsBegun (k : Kind) (bytes : List ℕ) : Type 0 where
  begins : BeginsAs k bytes
  fits : IsBytes bytes
  four : 4 ≤ length bytes
  short : length bytes < whole_len bytes

length-filled : (k : Kind) (bytes : List ℕ) → IsBegun k bytes → length (filled k bytes) ≡ whole_len bytes
unfolding filled
length-filled k bytes p =
    let n = length_with 0 bytes in
    let known = length_known bytes p.four in
    let len = length-filler k n (omega (arith, known, p.begins.greatest)) p.begins.least in
    omega (arith, length-append bytes (drop (length bytes) (filler k n)), length-drop (length bytes) (filler k n), len, p.short)

filled_whole : (k : Kind) (bytes : List ℕ) → IsBegun k bytes → IsWhole k (filled k bytes)
unfolding filled
filled_whole k bytes p =
    let n = length_with 0 bytes in
    let f = filler k n in
    let added = drop (length bytes) f in
    let big : least_length k ≤ n = omega (arith, length_known bytes p.four, p.begins.greatest) in
    let same : length_with 0 (bytes ++ added) ≡ n = length_front 0 bytes added p.four in
    let known : length_with 255 (bytes ++ added) ≡ n = length_front 255 bytes added p.four ∙ length_known bytes p.four in
    record {
      begins = record {
        least = omega (arith, same, p.begins.least);
        greatest = omega (arith, known, big);
        number = at_filled bytes f 4 (record_type k) (λ (x : ℕ). x ≡ record_type k) p.begins.number (filler-4 k n);
        body = body_filled k bytes n big p.begins.least p.short p.begins.body;
      };
      fits = λ i. at_filled bytes f i 0 (λ (x : ℕ). x < 256) (p.fits i) (filler_fits k n i);
      len = omega (arith, length-filled k bytes p, same);
    }

front_partial : (k : Kind) (bytes : List ℕ) → IsBegun k bytes → IsPartial bytes
unfolding filled
front_partial k bytes p =
    let w = filled_whole k bytes p in
    let added = drop (length bytes) (filler k (length_with 0 bytes)) in
    record {
      becomes = in_by (record_type k) (filled k bytes);
      valid = whole_valid k (filled k bytes) w;
      more = added;
      whole = whole_spelled k (filled k bytes) w;
      some = omega (arith, length-append bytes added, length-filled k bytes p, p.short);
    }

-- ---- a prefix of a length

body_default : (k : Kind) (a b c d : ℕ) → BodyBeginsAs k (a ∷ b ∷ c ∷ d ∷ [])
unfolding ms_with
body_default kind.Start a b c d = (refl, lit< tt)
body_default kind.Frame a b c d = tt
body_default kind.Tick a b c d = (lit≤ tt, lit≤ tt)
body_default kind.Off a b c d = tt

-- four bytes of a length that a record of a kind may have
four_partial : (k : Kind) (a b c d : ℕ) → a < 256 → b < 256 → c < 256 → d < 256
    → a * 16777216 + b * 65536 + c * 256 + d ≤ greatest_length k → least_length k ≤ a * 16777216 + b * 65536 + c * 256 + d
    → IsPartial (a ∷ b ∷ c ∷ d ∷ [])
unfolding length_with
four_partial k a b c d fa fb fc fd low high =
    front_partial k (a ∷ b ∷ c ∷ d ∷ []) (record {
      begins = record { least = omega (arith, low); greatest = omega (arith, high); number = refl; body = body_default k a b c d };
      fits = four_fits a b c d [] fa fb fc fd none_fits;
      four = lit≤ tt;
      short = omega (arith, high, (lengths k).some);
    })

three_partial : (k : Kind) (a b c : ℕ) → a < 256 → b < 256 → c < 256 → BeginsAs k (a ∷ b ∷ c ∷ []) → IsPartial (a ∷ b ∷ c ∷ [])
unfolding length_with
three_partial k a b c fa fb fc begins =
    let n = lengths k in
    elim (cases_lt 0 (a + b + c)) [
      | inl lt ↦
          partial_front (a ∷ b ∷ c ∷ []) (0 ∷ []) (four_partial k a b c 0 fa fb fc (lit< tt) (omega (arith, begins.least)) (omega (arith, n.low, lt)))
      | inr le ↦
          partial_front (a ∷ b ∷ c ∷ []) (least_length k ∷ [])
          (four_partial k a b c (least_length k) fa fb fc n.low (omega (arith, n.order, le)) (omega (arith, le)))
    ]

two_partial : (k : Kind) (a b : ℕ) → a < 256 → b < 256 → BeginsAs k (a ∷ b ∷ []) → IsPartial (a ∷ b ∷ [])
unfolding length_with
two_partial k a b fa fb begins =
    let n = lengths k in
    elim (cases_lt 0 (a + b)) [
      | inl lt ↦
          partial_front (a ∷ b ∷ []) (0 ∷ 0 ∷ [])
          (four_partial k a b 0 0 fa fb (lit< tt) (lit< tt) (omega (arith, begins.least)) (omega (arith, n.low, lt)))
      | inr le ↦
          partial_front (a ∷ b ∷ []) (0 ∷ least_length k ∷ [])
          (four_partial k a b 0 (least_length k) fa fb (lit< tt) n.low (omega (arith, n.order, le)) (omega (arith, le)))
    ]

-- a length's first byte is 0, whatever the kind
one_partial : (k : Kind) (a : ℕ) → a < 256 → BeginsAs k (a ∷ []) → IsPartial (a ∷ [])
unfolding length_with
one_partial k a fa begins =
    let n = lengths k in
    partial_front (a ∷ []) (0 ∷ 0 ∷ least_length k ∷ [])
    (four_partial k a 0 0 (least_length k) fa (lit< tt) (lit< tt) n.low (omega (arith, begins.least, n.order, n.high)) (omega arith))

-- what can begin and isn't whole is partial
pub is_partial : (k : Kind) (bytes : List ℕ) → BeginsAs k bytes → IsBytes bytes → (4 ≤ length bytes → length bytes < whole_len bytes) → IsPartial bytes
is_partial k [] begins fits short = nothing_partial
is_partial k (a ∷ []) begins fits short = one_partial k a (fits 0) begins
is_partial k (a ∷ b ∷ []) begins fits short = two_partial k a b (fits 0) (fits 1) begins
is_partial k (a ∷ b ∷ c ∷ []) begins fits short = three_partial k a b c (fits 0) (fits 1) (fits 2) begins
is_partial k (a ∷ b ∷ c ∷ d ∷ bytes) begins fits short =
    let four : 4 ≤ length (a ∷ b ∷ c ∷ d ∷ bytes) = omega arith in
    front_partial k (a ∷ b ∷ c ∷ d ∷ bytes) (record { begins = begins; fits = fits; four = four; short = short four })

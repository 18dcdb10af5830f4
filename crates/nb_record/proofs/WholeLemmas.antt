-- Bytes that are whole, as the reading sees it, are the spelling of the record that is read from them.
use Rattle.std.proofs.Common.{◌≡◌, ℕ, ◌+◌, ◌≤◌, List, ◌∷◌, ◌++◌, length, get_or, take, drop, refl, sym, ap, subst, ◌∙◌, arith}
use Rattle.std.specs.Int.{w16, w32, to_be_bytes, from_be_bytes}
use Rattle.std.proofs.lemmas.List.{length-take, length-drop, take-append-drop, drop_more, drop_all, take_all}
use Rattle.std.proofs.lemmas.Nat.{be_bytes_4}
use Rattle.nb_defs.specs.Records.{In, IsIn, IsTick, in_text}
use Rattle.nb_defs.proofs.RecordLaws.{type_of, body_of, in_text-is, in_by}
use Rattle.nb_record.specs.declared.kind.Kind.{Kind}
use Rattle.nb_record.specs.declared.kind.Kind.TheVariants as kind
use Rattle.nb_record.specs.Reading.{length_with, ms_with, record_type, least_length, greatest_length, BodyBeginsAs, BeginsAs, whole_len}
use Rattle.nb_record.specs.Held.{IsFront}
use Rattle.nb_record.proofs.BeginLemmas.{begins_front, LeadFits, BodyFits}
use Rattle.nb_record.proofs.KnownLemmas.{IsBytes, IsBytes-take, IsBytes-lead, IsBytes-body, lead-take, length_known, length_front, lengths}
use Rattle.nb_record.proofs.StartLemmas.{back2, start_at-valid, start_body-at}

-- bytes that are a record of a kind, as the reading sees it
pub record IsWhole (k : Kind) (bytes : List ℕ) : Type 0 where
  pub begins : BeginsAs k bytes
  pub fits : IsBytes bytes
  pub len : length bytes ≡ whole_len bytes

pub whole_bounds : (k : Kind) (bytes : List ℕ) → IsWhole k bytes → (4 + least_length k ≤ length bytes) × (length bytes ≤ 4 + greatest_length k)
whole_bounds k bytes p =
    let known = length_known bytes (omega (arith, p.len)) in
    (omega (arith, known, p.len, p.begins.greatest), omega (arith, p.len, p.begins.least))

-- ---- a tick

-- the milliseconds of seven bytes
ms-at : (d : ℕ) (bytes : List ℕ) → 7 ≤ length bytes → ms_with d bytes ≡ from_be_bytes w16 (take 2 (drop 5 bytes))
unfolding ms_with
ms-at d bytes h =
    let e : drop 5 bytes ≡ get_or bytes 5 d ∷ get_or bytes 6 d ∷ drop 7 bytes =
    drop_more bytes 5 d (omega arith) ∙ ap (λ (x : List ℕ). get_or bytes 5 d ∷ x) (drop_more bytes 6 d (omega arith)) in
    ap (λ (x : List ℕ). from_be_bytes w16 (take 2 x)) (sym e)

tick-valid : (bytes : List ℕ) → 7 ≤ length bytes → BodyBeginsAs kind.Tick bytes → IsTick (from_be_bytes w16 (take 2 (drop 5 bytes)))
tick-valid bytes h p = record { least = omega (arith, ms-at 255 bytes h, p.0); most = omega (arith, ms-at 0 bytes h, p.1) }

tick-body : (bytes : List ℕ) → IsBytes bytes → length bytes ≡ 7 → to_be_bytes w16 (from_be_bytes w16 (take 2 (drop 5 bytes))) ≡ drop 5 bytes
tick-body bytes fits h =
    back2 bytes 5 fits (omega (arith, h)) ∙ take_all 2 (drop 5 bytes) (omega (arith, h, length-drop 5 bytes))

-- ---- a record of any kind

valid_by : (k : Kind) (bytes : List ℕ) → IsBytes bytes → 4 + least_length k ≤ length bytes → length bytes ≤ 4 + greatest_length k
    → BodyBeginsAs k bytes → IsIn (in_by (record_type k) bytes)
unfolding in_by
valid_by kind.Start bytes fits low high p = start_at-valid bytes fits low high p.1
valid_by kind.Frame bytes fits low high p = record { least = omega (arith, length-drop 5 bytes); most = omega (arith, length-drop 5 bytes) }
valid_by kind.Tick bytes fits low high p = tick-valid bytes low p
valid_by kind.Off bytes fits low high p = tt

pub whole_valid : (k : Kind) (bytes : List ℕ) → IsWhole k bytes → IsIn (in_by (record_type k) bytes)
whole_valid k bytes p = let b = whole_bounds k bytes p in valid_by k bytes p.fits b.0 b.1 p.begins.body

type_by : (k : Kind) (bytes : List ℕ) → type_of (in_by (record_type k) bytes) ≡ record_type k
unfolding in_by
type_by kind.Start bytes = refl
type_by kind.Frame bytes = refl
type_by kind.Tick bytes = refl
type_by kind.Off bytes = refl

body_by : (k : Kind) (bytes : List ℕ) → IsBytes bytes → 4 + least_length k ≤ length bytes → length bytes ≤ 4 + greatest_length k
    → BodyBeginsAs k bytes → body_of (in_by (record_type k) bytes) ≡ drop 5 bytes
unfolding in_by
body_by kind.Start bytes fits low high p = start_body-at bytes fits low p.0
body_by kind.Frame bytes fits low high p = refl
body_by kind.Tick bytes fits low high p = tick-body bytes fits (omega arith)
body_by kind.Off bytes fits low high p = sym (drop_all 5 bytes high)

-- what is whole is spelled so
pub whole_spelled : (k : Kind) (bytes : List ℕ) → IsWhole k bytes → bytes ≡ in_text (in_by (record_type k) bytes)
unfolding length_with
whole_spelled k bytes p =
    let b = whole_bounds k bytes p in
    let some = (lengths k).some in
    let r = in_by (record_type k) bytes in
    let body : body_of r ≡ drop 5 bytes = body_by k bytes p.fits b.0 b.1 p.begins.body in
    let four : drop 4 bytes ≡ type_of r ∷ body_of r =
    drop_more bytes 4 (record_type k) (omega (arith, b.0, some))
    ∙ ap (λ (x : ℕ). x ∷ drop 5 bytes) (p.begins.number ∙ sym (type_by k bytes))
    ∙ ap (λ (x : List ℕ). type_of r ∷ x) (sym body) in
    let count : length (body_of r) + 1 ≡ length_with 0 bytes = omega (arith, ap length body, length-drop 5 bytes, p.len, b.0, some) in
    let front : to_be_bytes w32 (length_with 0 bytes) ≡ take 4 bytes =
    be_bytes_4 (take 4 bytes) (length_with 0 bytes) (omega (arith, length-take 4 bytes, b.0)) (IsBytes-take 4 bytes p.fits)
    (ap (λ (x : List ℕ). from_be_bytes w32 x) (lead-take 0 bytes (omega (arith, b.0)))) in
    sym (take-append-drop 4 bytes)
    ∙ ap (λ (x : List ℕ). take 4 bytes ++ x) four
    ∙ ap (λ (x : List ℕ). x ++ (type_of r ∷ body_of r)) (sym front ∙ ap (λ (n : ℕ). to_be_bytes w32 n) (sym count))
    ∙ sym (in_text-is r)

-- where a whole record stands at the front, its bytes are whole
pub whole_front : (k : Kind) (bytes : List ℕ) → BeginsAs k bytes → IsBytes bytes → whole_len bytes ≤ length bytes → IsWhole k (take (whole_len bytes) bytes)
whole_front k bytes begins fits long =
    let n = whole_len bytes in
    let joined = take-append-drop n bytes in
    let len : length (take n bytes) ≡ n = omega (arith, length-take n bytes) in
    let known : length_with 0 bytes ≡ length_with 0 (take n bytes) =
    ap (λ (x : List ℕ). length_with 0 x) (sym joined) ∙ length_front 0 (take n bytes) (drop n bytes) (omega (arith, len)) in
    record {
      begins = begins_front k (take n bytes) (drop n bytes)
          (subst (λ (x : List ℕ). LeadFits x) (sym joined) (IsBytes-lead bytes fits))
          (subst (λ (x : List ℕ). BodyFits k x) (sym joined) (IsBytes-body k bytes fits))
          (subst (λ (x : List ℕ). BeginsAs k x) (sym joined) begins);
      fits = IsBytes-take n bytes fits;
      len = omega (arith, len, known);
    }

-- a whole record has at least the bytes of its kind
pub front_long : (k : Kind) (bytes : List ℕ) (len : ℕ) → BeginsAs k bytes → len ≡ whole_len bytes → len ≤ length bytes → 4 + least_length k ≤ length (take len bytes)
front_long k bytes len begins e long =
    omega (arith, length-take len bytes, length_known bytes (omega (arith, e, long)), begins.greatest)

-- a whole record stands at the front
pub front_is : (k : Kind) (bytes : List ℕ) (r : In) (len : ℕ) → BeginsAs k bytes → IsBytes bytes → len ≡ whole_len bytes → len ≤ length bytes
    → r ≡ in_by (record_type k) (take len bytes) → IsFront bytes r len
front_is k bytes r len begins fits e long is =
    let w : IsWhole k (take len bytes) = subst (λ (n : ℕ). IsWhole k (take n bytes)) (sym e) (whole_front k bytes begins fits (omega (arith, e, long))) in
    let text : take len bytes ≡ in_text r = whole_spelled k (take len bytes) w ∙ ap (λ (r : In). in_text r) (sym is) in
    record {
      valid = subst (λ (r : In). IsIn r) (sym is) (whole_valid k (take len bytes) w);
      spelled = sym (take-append-drop len bytes) ∙ ap (λ (x : List ℕ). x ++ drop len bytes) text;
      length_is = omega (arith, ap length text, length-take len bytes);
    }

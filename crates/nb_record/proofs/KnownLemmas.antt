-- What stands at the start of bytes that are there: the length, once four bytes are, and the rest of what
-- the reading looks at.
use Rattle.std.proofs.Common.{◌≡◌, ℕ, ◌+◌, ◌<◌, ◌≤◌, List, [], ◌∷◌, ◌++◌, length, get_or, take, drop, sym, ap, ◌∙◌, arith, inl, inr, lit≤, lit<}
use Rattle.std.specs.Int.{w32, from_be_bytes}
use Rattle.std.proofs.lemmas.Bool.{cases_lt}
use Rattle.std.proofs.lemmas.List.{length-append, length-take, take-append-le, get_or-drop, get_or-take, get_or_past, get_or_default, get_or_append_left}
use Rattle.nb_record.specs.declared.kind.Kind.{Kind}
use Rattle.nb_record.specs.declared.kind.Kind.TheVariants as kind
use Rattle.nb_record.specs.Reading.{lead, length_with, ms_with, record_type, least_length, greatest_length, BodyBeginsAs, BeginsAs}
use Rattle.nb_record.proofs.BeginLemmas.{LeadFits, BodyFits}

abbrev pub IsBytes : List ℕ → Type 0
IsBytes bytes = (i : ℕ) → get_or bytes i 0 < 256

pub IsBytes-drop : (n : ℕ) (bytes : List ℕ) → IsBytes bytes → IsBytes (drop n bytes)
IsBytes-drop n bytes h i = rw get_or-drop (h (n + i))

pub IsBytes-take : (n : ℕ) (bytes : List ℕ) → IsBytes bytes → IsBytes (take n bytes)
IsBytes-take n bytes h i =
    elim (cases_lt i n) [
      | inl lt ↦ rw (get_or-take n bytes i 0 lt) (h i)
      | inr le ↦ rw (get_or_past (take n bytes) i 0 (omega (arith, length-take n bytes))) (omega arith)
    ]

fits_at : (bytes : List ℕ) (i : ℕ) → IsBytes bytes → get_or bytes i 255 ≤ 255
fits_at bytes i fits =
    elim (cases_lt i (length bytes)) [
      | inl lt ↦ let e : get_or bytes i 255 ≡ get_or bytes i 0 = get_or_default bytes i 255 0 lt in omega (arith, fits i)
      | inr le ↦ rw (get_or_past bytes i 255 le) (lit≤ tt)
    ]

pub IsBytes-lead : (bytes : List ℕ) → IsBytes bytes → LeadFits bytes
IsBytes-lead bytes fits = (fits_at bytes 0 fits, fits_at bytes 1 fits, fits_at bytes 2 fits, fits_at bytes 3 fits)

pub IsBytes-body : (k : Kind) (bytes : List ℕ) → IsBytes bytes → BodyFits k bytes
IsBytes-body kind.Start bytes fits = tt
IsBytes-body kind.Frame bytes fits = tt
IsBytes-body kind.Tick bytes fits = (fits_at bytes 5 fits, fits_at bytes 6 fits)
IsBytes-body kind.Off bytes fits = tt

-- ---- the length

pub lead-take : (d : ℕ) (bytes : List ℕ) → 4 ≤ length bytes → lead d bytes ≡ take 4 bytes
lead-take d [] h = absurd (omega arith)
lead-take d (a ∷ []) h = absurd (omega arith)
lead-take d (a ∷ b ∷ []) h = absurd (omega arith)
lead-take d (a ∷ b ∷ c ∷ []) h = absurd (omega arith)
lead-take d (a ∷ b ∷ c ∷ e ∷ bytes) h = cc

-- with four bytes the length is known
pub length_known : (bytes : List ℕ) → 4 ≤ length bytes → length_with 255 bytes ≡ length_with 0 bytes
unfolding length_with
length_known bytes h = ap (λ (x : List ℕ). from_be_bytes w32 x) (lead-take 255 bytes h ∙ sym (lead-take 0 bytes h))

pub length_front : (d : ℕ) (a b : List ℕ) → 4 ≤ length a → length_with d (a ++ b) ≡ length_with d a
unfolding length_with
length_front d a b h =
    ap (λ (x : List ℕ). from_be_bytes w32 x)
    (lead-take d (a ++ b) (omega (arith, length-append a b)) ∙ take-append-le 4 a b h ∙ sym (lead-take d a h))

-- the lengths of a kind: at least 1, below 256 at the least, and some
pub record Lengths (k : Kind) : Type 0 where
  pub some : 1 ≤ least_length k
  pub low : least_length k < 256
  pub order : least_length k ≤ greatest_length k
  pub high : greatest_length k ≤ 131072

pub lengths : (k : Kind) → Lengths k
lengths kind.Start = record { some = lit≤ tt; low = lit< tt; order = lit≤ tt; high = lit≤ tt }
lengths kind.Frame = record { some = lit≤ tt; low = lit< tt; order = lit≤ tt; high = lit≤ tt }
lengths kind.Tick = record { some = lit≤ tt; low = lit< tt; order = lit≤ tt; high = lit≤ tt }
lengths kind.Off = record { some = lit≤ tt; low = lit< tt; order = lit≤ tt; high = lit≤ tt }

-- ---- bytes after the least record of a kind

here : (a b : List ℕ) (i d : ℕ) → i < length a → get_or a i d ≡ get_or (a ++ b) i d
here a b i d lt = sym (get_or_append_left a b d i lt)

ms_front : (d : ℕ) (a b : List ℕ) → 7 ≤ length a → ms_with d (a ++ b) ≡ ms_with d a
unfolding ms_with
ms_front d a b h = omega (arith, here a b 5 d (omega arith), here a b 6 d (omega arith))

body_behind : (k : Kind) (a b : List ℕ) → 4 + least_length k ≤ length a → BodyBeginsAs k a → BodyBeginsAs k (a ++ b)
body_behind kind.Start a b h p = (sym (here a b 5 1 (omega arith)) ∙ p.0, omega (arith, here a b 62 0 (omega arith), p.1))
body_behind kind.Frame a b h p = tt
body_behind kind.Tick a b h p = (omega (arith, ms_front 255 a b h, p.0), omega (arith, ms_front 0 a b h, p.1))
body_behind kind.Off a b h p = tt

-- bytes after those of the least record of a kind break no record of it
pub begins_behind : (k : Kind) (a b : List ℕ) → 4 + least_length k ≤ length a → BeginsAs k a → BeginsAs k (a ++ b)
begins_behind k a b h p =
    let some = (lengths k).some in
    record {
      least = omega (arith, length_front 0 a b (omega arith), p.least);
      greatest = omega (arith, length_front 255 a b (omega arith), p.greatest);
      number = sym (here a b 4 (record_type k) (omega (arith, some))) ∙ p.number;
      body = body_behind k a b h p.body;
    }

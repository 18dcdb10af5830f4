-- Bytes with which a record of a kind can begin: a prefix of them can begin too, each record can, and with
-- bytes that can't no record begins.
use Rattle.std.proofs.Common.{◌≡◌, ℕ, zero, suc, ◌+◌, ◌≤◌, List, [], ◌∷◌, ◌++◌, length, get_or, drop, refl, sym, ap, subst, ◌∙◌, arith, lit≤, lit<}
use Rattle.std.specs.Int.{w16, w32, to_be_bytes, from_be_bytes}
use Rattle.std.proofs.lemmas.List.{get_or-drop, get_or-take}
use Rattle.std.proofs.lemmas.Nat.{from_be_bytes-to_be_bytes_2, from_be_bytes-to_be_bytes_4}
use Rattle.nb_defs.specs.Records.{Start, In, start, frame, tick, off, IsStart, IsIn, record_text, start_body, in_text, IsBroken}
use Rattle.nb_defs.proofs.StartLaws.{fields, start_body-is, start_text-is, length-start_body, record_stands}
use Rattle.nb_defs.proofs.RecordLaws.{type_of, body_of, in_text-is, body_fits}
use Rattle.nb_record.specs.declared.kind.Kind.{Kind}
use Rattle.nb_record.specs.declared.kind.Kind.TheVariants as kind
use Rattle.nb_record.specs.Reading.{lead, length_with, ms_with, record_type, least_length, greatest_length, BodyBeginsAs, BeginsAs, CanBegin}

-- ---- a prefix of what can begin can begin

default_front : (a b : List ℕ) (i v : ℕ) → get_or (a ++ b) i v ≡ v → get_or a i v ≡ v
default_front [] b i v e = refl
default_front (x ∷ a) b zero v e = e
default_front (x ∷ a) b (suc i) v e = default_front a b i v e

below_front : (a b : List ℕ) (i : ℕ) → get_or a i 0 ≤ get_or (a ++ b) i 0
below_front [] b i = omega arith
below_front (x ∷ a) b zero = omega arith
below_front (x ∷ a) b (suc i) = below_front a b i

above_front : (a b : List ℕ) (i : ℕ) → get_or (a ++ b) i 255 ≤ 255 → get_or (a ++ b) i 255 ≤ get_or a i 255
above_front [] b i h = h
above_front (x ∷ a) b zero h = omega arith
above_front (x ∷ a) b (suc i) h = above_front a b i h

-- the length's bytes are bytes
abbrev pub LeadFits : List ℕ → Type 0
LeadFits a = (get_or a 0 255 ≤ 255) × (get_or a 1 255 ≤ 255) × (get_or a 2 255 ≤ 255) × (get_or a 3 255 ≤ 255)

-- and so are those of the milliseconds
abbrev pub BodyFits : Kind → List ℕ → Type 0
BodyFits kind.Start a = Unit {0}
BodyFits kind.Frame a = Unit {0}
BodyFits kind.Tick a = (get_or a 5 255 ≤ 255) × (get_or a 6 255 ≤ 255)
BodyFits kind.Off a = Unit {0}

least_front : (a b : List ℕ) → length_with 0 a ≤ length_with 0 (a ++ b)
unfolding length_with
least_front a b = omega (arith, below_front a b 0, below_front a b 1, below_front a b 2, below_front a b 3)

greatest_front : (a b : List ℕ) → LeadFits (a ++ b) → length_with 255 (a ++ b) ≤ length_with 255 a
unfolding length_with
greatest_front a b h =
    omega (arith, above_front a b 0 h.0, above_front a b 1 h.1, above_front a b 2 h.2, above_front a b 3 h.3)

least_ms_front : (a b : List ℕ) → ms_with 0 a ≤ ms_with 0 (a ++ b)
unfolding ms_with
least_ms_front a b = omega (arith, below_front a b 5, below_front a b 6)

most_ms_front : (a b : List ℕ) → BodyFits kind.Tick (a ++ b) → ms_with 255 (a ++ b) ≤ ms_with 255 a
unfolding ms_with
most_ms_front a b h = omega (arith, above_front a b 5 h.0, above_front a b 6 h.1)

body_front : (k : Kind) (a b : List ℕ) → BodyFits k (a ++ b) → BodyBeginsAs k (a ++ b) → BodyBeginsAs k a
body_front kind.Start a b h p = (default_front a b 5 1 p.0, omega (arith, below_front a b 62, p.1))
body_front kind.Frame a b h p = tt
body_front kind.Tick a b h p = (omega (arith, most_ms_front a b h, p.0), omega (arith, least_ms_front a b, p.1))
body_front kind.Off a b h p = tt

pub begins_front : (k : Kind) (a b : List ℕ) → LeadFits (a ++ b) → BodyFits k (a ++ b) → BeginsAs k (a ++ b) → BeginsAs k a
begins_front k a b h g p = record {
  least = omega (arith, least_front a b, p.least);
  greatest = omega (arith, greatest_front a b h, p.greatest);
  number = default_front a b 4 (record_type k) p.number;
  body = body_front k a b g p.body;
}

-- ---- a record can begin

-- the kind of a record
abbrev pub kind_of : In → Kind
kind_of (start s) = kind.Start
kind_of (frame bytes) = kind.Frame
kind_of (tick ms) = kind.Tick
kind_of off = kind.Off

type-is : (r : In) → type_of r ≡ record_type (kind_of r)
type-is (start s) = refl
type-is (frame bytes) = refl
type-is (tick ms) = refl
type-is off = refl

length_with-in_text : (d : ℕ) (r : In) (rest : List ℕ) → IsIn r → length_with d (in_text r ++ rest) ≡ length (body_of r) + 1
unfolding length_with
length_with-in_text d r rest ok =
    ap (λ (x : List ℕ). from_be_bytes w32 (lead d (x ++ rest))) (in_text-is r)
    ∙ from_be_bytes-to_be_bytes_4 (length (body_of r) + 1) (omega (arith, body_fits r ok))

lead_fits : (r : In) (rest : List ℕ) → LeadFits (in_text r ++ rest)
lead_fits r rest =
    subst (λ (x : List ℕ). LeadFits (x ++ rest)) (sym (in_text-is r)) (omega arith, omega arith, omega arith, omega arith)

text_fits : (r : In) (rest : List ℕ) → BodyFits (kind_of r) (in_text r ++ rest)
unfolding record_text
text_fits (start s) rest = tt
text_fits (frame bytes) rest = tt
text_fits (tick ms) rest = (omega arith, omega arith)
text_fits off rest = tt

number-in_text : (r : In) (rest : List ℕ) → get_or (in_text r ++ rest) 4 (record_type (kind_of r)) ≡ record_type (kind_of r)
number-in_text r rest = ap (λ (x : List ℕ). get_or (x ++ rest) 4 (record_type (kind_of r))) (in_text-is r) ∙ type-is r

-- a record's length is one of its kind
length_in : (r : In) → IsIn r → (least_length (kind_of r) ≤ length (body_of r) + 1) × (length (body_of r) + 1 ≤ greatest_length (kind_of r))
length_in (start s) ok = (omega (arith, length-start_body s ok), omega (arith, length-start_body s ok, ok.script_fits))
length_in (frame bytes) ok = (omega (arith, ok.least), omega (arith, ok.most))
length_in (tick ms) ok = (lit≤ tt, lit≤ tt)
length_in off ok = (lit≤ tt, lit≤ tt)

ms_with-in_text : (d ms : ℕ) (rest : List ℕ) → IsIn (tick ms) → ms_with d (in_text (tick ms) ++ rest) ≡ ms
unfolding ms_with record_text
ms_with-in_text d ms rest ok = from_be_bytes-to_be_bytes_2 ms (omega (arith, ok.most))

start_begins : (s : Start) (rest : List ℕ) → IsStart s → BodyBeginsAs kind.Start (in_text (start s) ++ rest)
start_begins s rest ok =
    let text : in_text (start s) ≡ to_be_bytes w32 (length (start_body s) + 1) ++ (1 ∷ 1 ∷ fields s) =
    start_text-is s ∙ ap (λ (x : List ℕ). to_be_bytes w32 (length (start_body s) + 1) ++ (1 ∷ x)) (start_body-is s) in
    let whole = in_text (start s) ++ rest in
    let w : get_or whole 62 0 ≡ get_or (to_be_bytes w16 s.w) 0 0 =
    sym (get_or-drop 62 whole 0 0) ∙ sym (get_or-take 2 (drop 62 whole) 0 0 (lit< tt)) ∙ ap (λ (x : List ℕ). get_or x 0 0) (record_stands s rest ok).w in
    (ap (λ (x : List ℕ). get_or (x ++ rest) 5 1) text, omega (arith, w, ok.w_fits))

body_begins : (r : In) (rest : List ℕ) → IsIn r → BodyBeginsAs (kind_of r) (in_text r ++ rest)
body_begins (start s) rest ok = start_begins s rest ok
body_begins (frame bytes) rest ok = tt
body_begins (tick ms) rest ok = (omega (arith, ms_with-in_text 255 ms rest ok, ok.least), omega (arith, ms_with-in_text 0 ms rest ok, ok.most))
body_begins off rest ok = tt

record_begins : (r : In) (rest : List ℕ) → IsIn r → BeginsAs (kind_of r) (in_text r ++ rest)
record_begins r rest ok =
    let len = length_in r ok in
    record {
      least = omega (arith, length_with-in_text 0 r rest ok, len.1);
      greatest = omega (arith, length_with-in_text 255 r rest ok, len.0);
      number = number-in_text r rest;
      body = body_begins r rest ok;
    }

can_begin_of : (r : In) (bytes more rest : List ℕ) → IsIn r → bytes ++ more ≡ in_text r ++ rest → CanBegin bytes
can_begin_of r bytes more rest ok e = record {
  which = kind_of r;
  begins = begins_front (kind_of r) bytes more
      (subst (λ (x : List ℕ). LeadFits x) (sym e) (lead_fits r rest))
      (subst (λ (x : List ℕ). BodyFits (kind_of r) x) (sym e) (text_fits r rest))
      (subst (λ (x : List ℕ). BeginsAs (kind_of r) x) (sym e) (record_begins r rest ok));
}

-- with bytes that can't begin no record begins
pub broken : (bytes : List ℕ) → (CanBegin bytes → ⊥) → IsBroken bytes
broken bytes never r more rest valid e = never (can_begin_of r bytes more rest valid e)

-- with no bytes a record can begin
pub nothing_begins : CanBegin []
unfolding length_with
nothing_begins = record {
  which = kind.Off;
  begins = record { least = lit≤ tt; greatest = lit≤ tt; number = refl; body = tt };
}

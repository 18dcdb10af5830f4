-- Laws of the input records' spelling: each record is read again from its spelling, and no spelling begins
-- another. So bytes begin with a record, are partial, or are broken, and never two of these.
use Rattle.std.proofs.Common.{◌≡◌, ℕ, ◌+◌, ◌<◌, ◌≤◌, ◌==◌, List, [], ◌∷◌, ◌++◌, length, get_or, take, drop, refl, sym, ap, ◌∙◌, append_assoc, arith, lit<, lit≤, if◌then◌else◌}
use Rattle.std.specs.Int.{w16, w32, to_be_bytes, from_be_bytes}
use Rattle.std.proofs.lemmas.List.{append-nil, length-append, take_at, drop_at}
use Rattle.nb_defs.specs.Records.{Start, In, start, frame, tick, off, IsIn, record_text, start_body, in_text, IsPartial, IsBroken}
use Rattle.nb_defs.proofs.StartLaws.{start_at, length-start_body, start_at-in_text, number2, number4}

-- the type of a record
abbrev pub type_of : In → ℕ
type_of (start s) = 1
type_of (frame bytes) = 2
type_of (tick ms) = 3
type_of off = 4

-- its body
abbrev pub body_of : In → List ℕ
body_of (start s) = start_body s
body_of (frame bytes) = bytes
body_of (tick ms) = to_be_bytes w16 ms
body_of off = []

-- the length, the type, and the body
pub in_text-is : (r : In) → in_text r ≡ to_be_bytes w32 (length (body_of r) + 1) ++ (type_of r ∷ body_of r)
unfolding record_text
in_text-is (start s) = refl
in_text-is (frame bytes) = refl
in_text-is (tick ms) = refl
in_text-is off = refl

pub length-in_text : (r : In) → length (in_text r) ≡ 5 + length (body_of r)
length-in_text r = rw (in_text-is r) (omega arith)

pub body_fits : (r : In) → IsIn r → length (body_of r) ≤ 131071
body_fits (start s) ok = omega (arith, length-start_body s ok, ok.script_fits)
body_fits (frame bytes) ok = omega (arith, ok.most)
body_fits (tick ms) ok = lit≤ tt
body_fits off ok = lit≤ tt

-- ---- a record is read again

-- what a record of this type says
unfoldable pub in_by : ℕ → List ℕ → In
in_by kind bytes =
    if kind == 1 then start (start_at bytes)
    else if kind == 2 then frame (drop 5 bytes)
    else if kind == 3 then tick (from_be_bytes w16 (take 2 (drop 5 bytes)))
    else off

-- what a record says, read by its type
unfoldable pub in_at : List ℕ → In
in_at bytes = in_by (get_or bytes 4 0) bytes

-- each record is read from its spelling
pub in_at-in_text : (r : In) → IsIn r → in_at (in_text r) ≡ r
unfolding in_at in_by record_text
in_at-in_text (start s) ok = ap (λ (s : Start). start s) (start_at-in_text s ok)
in_at-in_text (frame bytes) ok = refl
in_at-in_text (tick ms) ok = ap (λ (n : ℕ). tick n) (number2 (to_be_bytes w16 ms) ms (omega (arith, ok.most)) refl)
in_at-in_text off ok = refl

-- ---- no spelling begins another

-- the length that stands at the start of a record
pub length_front : (r : In) (rest : List ℕ) → IsIn r → from_be_bytes w32 (take 4 (in_text r ++ rest)) ≡ length (body_of r) + 1
length_front r rest ok =
    number4 _ _ (omega (arith, body_fits r ok)) (ap (λ (x : List ℕ). take 4 (x ++ rest)) (in_text-is r))

-- two records that begin the same bytes have one length
same_length : (r r' : In) (x y : List ℕ) → IsIn r → IsIn r' → in_text r ++ x ≡ in_text r' ++ y → length (in_text r) ≡ length (in_text r')
same_length r r' x y ok ok' e =
    let n : length (body_of r) + 1 ≡ length (body_of r') + 1 =
    sym (length_front r x ok) ∙ ap (λ (b : List ℕ). from_be_bytes w32 (take 4 b)) e ∙ length_front r' y ok' in
    omega (arith, length-in_text r, length-in_text r', n)

pub record Same (r r' : In) (x y : List ℕ) : Type 0 where
  pub record_is : r ≡ r'
  pub rest_is : x ≡ y

-- No spelling of an input record is a proper prefix of another: bytes that begin with two records begin with
-- one, and what follows is the same.
pub in_text_apart : (r r' : In) (x y : List ℕ) → IsIn r → IsIn r' → in_text r ++ x ≡ in_text r' ++ y → Same r r' x y
in_text_apart r r' x y ok ok' e =
    let len = same_length r r' x y ok ok' e in
    let texts : in_text r ≡ in_text r' =
    sym (take_at (in_text r) x (length (in_text r)) refl)
    ∙ ap (λ (b : List ℕ). take (length (in_text r)) b) e
    ∙ take_at (in_text r') y (length (in_text r)) (sym len) in
    let rests : x ≡ y =
    sym (drop_at (in_text r) x (length (in_text r)) refl)
    ∙ ap (λ (b : List ℕ). drop (length (in_text r)) b) e
    ∙ drop_at (in_text r') y (length (in_text r)) (sym len) in
    record {
      record_is = sym (in_at-in_text r ok) ∙ ap (λ (b : List ℕ). in_at b) texts ∙ in_at-in_text r' ok';
      rest_is = rests;
    }

-- a prefix of a record and of what follows it isn't broken
pub front_not_broken : (r : In) (bytes rest more : List ℕ) → IsIn r → bytes ++ more ≡ in_text r ++ rest → IsBroken bytes → ⊥
front_not_broken r bytes rest more valid e broken = broken r more rest valid e

-- what is partial begins with no whole record
pub partial_not_whole : (r : In) (bytes rest : List ℕ) → IsIn r → bytes ≡ in_text r ++ rest → IsPartial bytes → ⊥
partial_not_whole r bytes rest valid e partial =
    let joined : in_text r ++ (rest ++ partial.more) ≡ in_text partial.becomes ++ [] =
    sym (append_assoc (in_text r) rest partial.more) ∙ ap (λ (b : List ℕ). b ++ partial.more) (sym e) ∙ partial.whole ∙ sym (append-nil (in_text partial.becomes)) in
    let same = in_text_apart r partial.becomes (rest ++ partial.more) [] valid partial.valid joined in
    omega (arith, ap length same.rest_is, length-append rest partial.more, partial.some)

-- what is partial isn't broken
pub partial_not_broken : (bytes : List ℕ) → IsPartial bytes → IsBroken bytes → ⊥
partial_not_broken bytes partial broken =
    broken partial.becomes partial.more [] partial.valid (partial.whole ∙ sym (append-nil (in_text partial.becomes)))

-- a prefix of what is partial is partial
pub partial_front : (bytes added : List ℕ) → IsPartial (bytes ++ added) → IsPartial bytes
partial_front bytes added partial = record {
  becomes = partial.becomes;
  valid = partial.valid;
  more = added ++ partial.more;
  whole = sym (append_assoc bytes added partial.more) ∙ partial.whole;
  some = omega (arith, partial.some, length-append added partial.more);
}

-- no bytes are partial: a record can still come
pub nothing_partial : IsPartial []
unfolding record_text
nothing_partial = record {
  becomes = off;
  valid = tt;
  more = in_text off;
  whole = refl;
  some = lit< tt;
}

-- what is partial is shorter than the longest record
pub partial_short : (bytes : List ℕ) → IsPartial bytes → length bytes < 131076
partial_short bytes partial =
    omega (
      arith,
      body_fits partial.becomes partial.valid,
      length-in_text partial.becomes,
      ap length partial.whole,
      length-append bytes partial.more,
      partial.some,
    )

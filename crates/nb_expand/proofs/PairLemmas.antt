-- Pairs of hexadecimal digits with a separator between them.
use Rattle.std.proofs.Common.{◌≡◌, ℕ, ◌+◌, ◌*◌, ◌==◌, cond, Option, Some, None, Result, Ok, Err, option_and_then, MatchOption, MatchResult, ◌<◌, Bool, true, false, List, [], ◌∷◌, ◌++◌, length, get_or, refl, sym, ap, ◌∙◌, arith, append_assoc}
use Rattle.std.specs.List.{flat_map}
use Rattle.std.specs.Option.{option_map}
use Rattle.std.proofs.lemmas.Bool.{eq-eqb}
use Rattle.std.proofs.lemmas.Grind.{flat_map-append}
use Rattle.std.proofs.lemmas.List.{append-nil}
use Rattle.hex.specs.Hex.{encode_lower, encode_with, hex_digit_value, decode_sized, decode_pairs}
use Rattle.hex.specs.declared.error.FromHexError.{FromHexError}
use Rattle.hex.specs.declared.error.FromHexError.TheVariants.{InvalidHexCharacter}
use Rattle.nb_expand.specs.Pairs.{printed_pairs, byte_of_digits, pair_at, pair_behind, pairs_behind, parsed_pairs}

abbrev separated : ℕ → ℕ → List ℕ
separated separator b = separator ∷ encode_lower (b ∷ [])

-- the first pair stands alone
pub printed_pairs-one : (separator b : ℕ) → printed_pairs separator (b ∷ []) ≡ encode_lower (b ∷ [])
printed_pairs-one separator b = append-nil (encode_lower (b ∷ []))

-- each further one stands after a separator
pub printed_pairs-push : (separator : ℕ) (bytes : List ℕ) (b : ℕ) → 0 < length bytes → printed_pairs separator (bytes ++ b ∷ []) ≡ printed_pairs separator bytes ++ (separator ∷ encode_lower (b ∷ []))
printed_pairs-push separator [] b h = absurd (omega arith)
printed_pairs-push separator (x ∷ bytes) b h =
    let first = encode_lower (x ∷ []) in
    let rest = flat_map (separated separator) bytes in
    ap (λ t. first ++ t) (flat_map-append (separated separator) bytes (b ∷ []) ∙ ap (λ t. rest ++ t) (append-nil (separated separator b)))
    ∙ sym (append_assoc first rest (separated separator b))

-- there is text where there are bytes
pub printed_pairs-some : (separator : ℕ) (bytes : List ℕ) → 0 < length bytes → 0 < length (printed_pairs separator bytes)
unfolding encode_with
printed_pairs-some separator [] h = absurd (omega arith)
printed_pairs-some separator (x ∷ bytes) h = omega arith

-- a loop's step over the bytes: the first pair, and a further one
pub first_pair : (separator b : ℕ) (front text : List ℕ) → text ≡ printed_pairs separator front → length text ≡ 0 → text ++ encode_lower (b ∷ []) ≡ printed_pairs separator (front ++ b ∷ [])
first_pair separator b [] text is empty = rw is (sym (printed_pairs-one separator b))
first_pair separator b (x ∷ front) text is empty =
    let some = printed_pairs-some separator (x ∷ front) (omega arith) in
    absurd (omega (arith, ap length is, some))

pub next_pair : (separator b : ℕ) (front text : List ℕ) → text ≡ printed_pairs separator front → 0 < length text → (text ++ separator ∷ []) ++ encode_lower (b ∷ []) ≡ printed_pairs separator (front ++ b ∷ [])
next_pair separator b [] text is some = absurd (omega (arith, ap length is))
next_pair separator b (x ∷ front) text is some =
    append_assoc text (separator ∷ []) (encode_lower (b ∷ [])) ∙ ap (λ t. t ++ (separator ∷ encode_lower (b ∷ []))) is
    ∙ sym (printed_pairs-push separator (x ∷ front) b (omega arith))

-- READING

-- the byte of two digits, as their decoding tells it
digits_tell : (high low : ℕ) (h l : Option ℕ) → hex_digit_value high ≡ h → hex_digit_value low ≡ l
    → MatchOption (option_and_then (λ x. option_map (λ y. x * 16 + y) l) h) ((e : FromHexError) × (decode_sized (high ∷ low ∷ []) 1 ≡ Err e)) (λ b. decode_sized (high ∷ low ∷ []) 1 ≡ Ok (b ∷ []))
unfolding decode_pairs
digits_tell high low None l eh el = (InvalidHexCharacter high 0, rw eh refl)
digits_tell high low (Some x) None eh el = (InvalidHexCharacter low 1, rw (eh, el) refl)
digits_tell high low (Some x) (Some y) eh el = rw (eh, el) refl

pub byte_of-tells : (high low : ℕ) → MatchOption (byte_of_digits high low) ((e : FromHexError) × (decode_sized (high ∷ low ∷ []) 1 ≡ Err e)) (λ b. decode_sized (high ∷ low ∷ []) 1 ≡ Ok (b ∷ []))
byte_of-tells high low = digits_tell high low (hex_digit_value high) (hex_digit_value low) refl refl

eqb-same : (n : ℕ) → (n == n) ≡ true
eqb-same n = eq-eqb n n refl

abbrev in_front : Option ℕ → Option (List ℕ) → Option (List ℕ)
in_front byte rest = option_and_then (λ b. option_map (λ bytes. b ∷ bytes) rest) byte

abbrev read_before : List ℕ → ℕ → ℕ × List ℕ
read_before rest b = (b, rest)

pair_some : (rest behind : List ℕ) (b : ℕ) (byte : Option ℕ) (more : List ℕ → Option (List ℕ)) → option_map (read_before rest) byte ≡ Some (b, behind) → in_front byte (more rest) ≡ option_map (λ bytes. b ∷ bytes) (more behind)
pair_some rest behind b None more h = cc
pair_some rest behind b (Some x) more h =
    let pairs : read_before rest x ≡ read_before behind b = cc in
    let same : x ≡ b = ap (λ p. p.0) pairs in
    let rests : rest ≡ behind = ap (λ p. p.1) pairs in
    rw (same, rests) refl

pair_none : (rest : List ℕ) (byte : Option ℕ) (more : Option (List ℕ)) → option_map (read_before rest) byte ≡ None → in_front byte more ≡ None
pair_none rest None more h = refl
pair_none rest (Some x) more h = cc

-- the first pair of a text
pub pairs-first : (separator : ℕ) (text : List ℕ) (b : ℕ) (behind : List ℕ) → pair_at text ≡ Some (b, behind) → parsed_pairs separator text ≡ option_map (λ bytes. b ∷ bytes) (pairs_behind separator behind)
pairs-first separator [] b behind h = cc
pairs-first separator (high ∷ []) b behind h = cc
pairs-first separator (high ∷ low ∷ rest) b behind h =
    rw eqb-same (pair_some rest behind b (byte_of_digits high low) (pairs_behind separator) h)

pub pairs-first-none : (separator : ℕ) (text : List ℕ) → 0 < length text → pair_at text ≡ None → parsed_pairs separator text ≡ None
pairs-first-none separator [] some h = absurd (omega arith)
pairs-first-none separator (high ∷ []) some h = refl
pairs-first-none separator (high ∷ low ∷ rest) some h =
    rw eqb-same (pair_none rest (byte_of_digits high low) (pairs_behind separator rest) h)

next_some : (separator s : ℕ) (text : List ℕ) (b : ℕ) (behind : List ℕ) (test : Bool) → (s == separator) ≡ test → cond test (pair_at text) None ≡ Some (b, behind) → pairs_behind separator (s ∷ text) ≡ option_map (λ bytes. b ∷ bytes) (pairs_behind separator behind)
next_some separator s text b behind false e h = cc
next_some separator s [] b behind true e h = cc
next_some separator s (high ∷ []) b behind true e h = cc
next_some separator s (high ∷ low ∷ rest) b behind true e h = rw e (pair_some rest behind b (byte_of_digits high low) (pairs_behind separator) h)

-- a further pair
pub pairs-next : (separator : ℕ) (text : List ℕ) (b : ℕ) (behind : List ℕ) → pair_behind separator text ≡ Some (b, behind) → pairs_behind separator text ≡ option_map (λ bytes. b ∷ bytes) (pairs_behind separator behind)
pairs-next separator [] b behind h = cc
pairs-next separator (s ∷ text) b behind h = next_some separator s text b behind (s == separator) refl h

next_none : (separator s : ℕ) (text : List ℕ) (test : Bool) → (s == separator) ≡ test → cond test (pair_at text) None ≡ None → pairs_behind separator (s ∷ text) ≡ None
next_none separator s [] test e h = refl
next_none separator s (high ∷ []) test e h = refl
next_none separator s (high ∷ low ∷ rest) false e h = rw e refl
next_none separator s (high ∷ low ∷ rest) true e h = rw e (pair_none rest (byte_of_digits high low) (pairs_behind separator rest) h)

pub pairs-next-none : (separator : ℕ) (text : List ℕ) → 0 < length text → pair_behind separator text ≡ None → pairs_behind separator text ≡ None
pairs-next-none separator [] some h = absurd (omega arith)
pairs-next-none separator (s ∷ text) some h = next_none separator s text (s == separator) refl h

-- the bytes so far, with one more
pub byte_more : (bytes : List ℕ) (b : ℕ) (rest : Option (List ℕ)) → option_map (λ more. (bytes ++ b ∷ []) ++ more) rest ≡ option_map (λ more. bytes ++ more) (option_map (λ more. b ∷ more) rest)
byte_more bytes b None = refl
byte_more bytes b (Some rest) = ap Some (append_assoc bytes (b ∷ []) rest)

-- decoding two digits gives their byte, or refuses them
pub byte_of-ok : (byte : Option ℕ) (decoded : Result (List ℕ) FromHexError) (out : List ℕ) (P : Type 0) (Q : FromHexError → Type 0) → ((e : FromHexError) → Q e → ⊥)
    → MatchOption byte ((e : FromHexError) × (decoded ≡ Err e)) (λ b. decoded ≡ Ok (b ∷ [])) → MatchResult decoded (λ bytes. P × (out ≡ bytes)) Q → Some (get_or out 0 0) ≡ byte
byte_of-ok None (Ok bytes) out P Q never tells value = cc tells.1
byte_of-ok None (Err e) out P Q never tells value = absurd (never e value)
byte_of-ok (Some b) (Ok bytes) out P Q never tells value =
    let same : bytes ≡ b ∷ [] = cc in
    rw (value.1, same) refl
byte_of-ok (Some b) (Err e) out P Q never tells value = cc tells

pub byte_of-err : (byte : Option ℕ) (decoded : Result (List ℕ) FromHexError) (P : List ℕ → Type 0) (Q : FromHexError → Type 0) → ((bytes : List ℕ) → P bytes → ⊥)
    → MatchOption byte ((e : FromHexError) × (decoded ≡ Err e)) (λ b. decoded ≡ Ok (b ∷ [])) → MatchResult decoded P Q → None ≡ byte
byte_of-err None decoded P Q never tells value = refl
byte_of-err (Some b) (Ok bytes) P Q never tells value = absurd (never bytes value)
byte_of-err (Some b) (Err e) P Q never tells value = cc tells

-- How long a value is as text.
use Rattle.std.proofs.Common.{◌≡◌, ℕ, zero, suc, ◌+◌, ◌*◌, ◌-◌, ◌/◌, ◌%◌, ◌^◌, ◌<◌, ◌≤◌, ◌==◌, Bool, true, false, List, [], ◌∷◌, ◌++◌, length, replicate, cond, refl, arith, length-append, length-drop}
use Rattle.std.specs.Fmt.{decimal, digits, digits_onto, digit_glyph}
use Rattle.std.specs.Int.{cast_signed, from_be_bytes, w32}
use Rattle.std.specs.Int.Signed.{mag}
use Rattle.std.specs.List.{flat_map}
use Rattle.std.proofs.Math.Logic.{⊎_elim}
use Rattle.std.proofs.lemmas.Bool.{cases_Bool, cases_lt, lt-ltb, le-ltb}
use Rattle.std.proofs.lemmas.Bool.Decides.{nat_tests}
use Rattle.std.proofs.lemmas.Fmt.{length-decimal-le, length_signed_le}
use Rattle.std.proofs.lemmas.List.{get_or-drop, length-replicate}
use Rattle.hex.specs.Hex.{encode_lower, encode_with, lower_digits}
use Rattle.hex.proofs.HexLemmas.{length-encode_with}
use Rattle.base64.specs.Rfc4648.{encode_symbols, padding_len}
use Rattle.base64.specs.Engines.{standard}
use Rattle.base64.specs.GeneralPurpose.{encode_of}
use Rattle.uuid.specs.Text.{hyphenated_text, lower}
use Rattle.uuid.proofs.TextLemmas.{by_index_length}
use Rattle.percent_encoding.specs.Percent.{percent_encode_byte}
use Rattle.nb_settings.specs.declared.kind.Kind.{Kind}
use Rattle.nb_settings.specs.declared.kind.Kind.TheVariants.{Str, Ipv4, Int8, Int16, Int32, Uint8, Uint16, Uint32, Hex, Hexhyp, Hexraw, Base64, Uuid, Uristring}
use Rattle.nb_settings.specs.Nulls.{without_nulls}
use Rattle.nb_settings.proofs.NullLemmas.{nulls_fewer}
use Rattle.nb_expand.specs.Addresses.{printed_address}
use Rattle.nb_expand.specs.Numbers.{last_bytes, filled, sign_fill, printed_signed, printed_unsigned}
use Rattle.nb_expand.specs.Pairs.{printed_pairs}
use Rattle.nb_expand.specs.Printing.{printed, printed_uuid}
use Rattle.nb_expand.specs.Uris.{is_unescaped, printed_uri}
use Rattle.nb_expand.proofs.BytesBackLemmas.{AreBytes}

-- ADDRESSES

byte_short : (a : ℕ) → a < 256 → length (decimal a) ≤ 3
byte_short a h = length-decimal-le 3 a (omega arith) (omega arith) (omega arith)

address_short : (bytes : List ℕ) → AreBytes bytes → length (printed_address bytes) ≤ 15
address_short [] small = omega arith
address_short (a ∷ []) small = omega arith
address_short (a ∷ b ∷ []) small = omega arith
address_short (a ∷ b ∷ c ∷ []) small = omega arith
address_short (a ∷ b ∷ c ∷ d ∷ rest) small =
    let ha = byte_short a (small 0) in
    let hb = byte_short b (small 1) in
    let hc = byte_short c (small 2) in
    let hd = byte_short d (small 3) in
    simp length-append (omega (arith, ha, hb, hc, hd))

-- INTEGERS

replicate_bytes : (n fill : ℕ) (bytes : List ℕ) → fill < 256 → AreBytes bytes → AreBytes (replicate n fill ++ bytes)
replicate_bytes zero fill bytes h small i = small i
replicate_bytes (suc n) fill bytes h small zero = h
replicate_bytes (suc n) fill bytes h small (suc i) = replicate_bytes n fill bytes h small i

last_small : (size : ℕ) (bytes : List ℕ) → AreBytes bytes → AreBytes (last_bytes size bytes)
last_small size bytes small i = omega (arith, get_or-drop (length bytes - size) bytes i 0, small (length bytes - size + i))

word_small : (bytes : List ℕ) → length bytes ≡ 4 → AreBytes bytes → from_be_bytes w32 bytes < 2 ^ 32
word_small [] h small = absurd (omega arith)
word_small (a ∷ []) h small = absurd (omega arith)
word_small (a ∷ b ∷ []) h small = absurd (omega arith)
word_small (a ∷ b ∷ c ∷ []) h small = absurd (omega arith)
word_small (a ∷ b ∷ c ∷ d ∷ []) h small = omega (arith, small 0, small 1, small 2, small 3)
word_small (a ∷ b ∷ c ∷ d ∷ e ∷ rest) h small = absurd (omega arith)

filled_small : (size fill : ℕ) (bytes : List ℕ) → size ≤ 4 → fill < 256 → AreBytes bytes → from_be_bytes w32 (filled fill (last_bytes size bytes)) < 2 ^ 32
filled_small size fill bytes fits h small =
    let last = last_bytes size bytes in
    let few : length last ≤ 4 = omega (arith, length-drop (length bytes - size) bytes) in
    let long : length (filled fill last) ≡ 4 = simp (length-append, length-replicate) (omega arith) in
    word_small (filled fill last) long (replicate_bytes (4 - length last) fill last h (last_small size bytes small))

mag_small : (m : ℕ) → m < 2 ^ 32 → mag (cast_signed w32 m) < 2 ^ 32
mag_small m h = ⊎_elim
    (λ (low : m < 2 ^ 31). rw (lt-ltb m (2 ^ 31) low) h)
    (λ (high : 2 ^ 31 ≤ m). rw (le-ltb m (2 ^ 31) high) (omega arith))
    (cases_lt m (2 ^ 31))

signed_short : (size : ℕ) (bytes : List ℕ) → size ≤ 4 → AreBytes bytes → length (printed_signed size bytes) ≤ 11
signed_short size [] fits small = omega arith
signed_short size (b ∷ bytes) fits small =
    let last = last_bytes size (b ∷ bytes) in
    let fill : sign_fill last < 256 = grind (arith, nat_tests) in
    let m = from_be_bytes w32 (filled (sign_fill last) last) in
    let few : mag (cast_signed w32 m) < 2 ^ 32 = mag_small m (filled_small size (sign_fill last) (b ∷ bytes) fits fill small) in
    length_signed_le 10 (cast_signed w32 m) (omega arith) (omega arith)

digits_short : (f k n : ℕ) (acc : List ℕ) → n < 16 ^ suc k → length (digits_onto f 16 false n acc) ≤ suc k + length acc
digits_short zero k n acc h = omega arith
digits_short (suc f) zero n acc h =
    let last : (n / 16 == 0) ≡ true = grind (arith, nat_tests) in
    rw last (omega arith)
digits_short (suc f) (suc k) n acc h = ⊎_elim
    (λ last. rw last (omega arith))
    (λ more.
    let shorter : n / 16 < 16 ^ suc k = omega arith in
    rw more (omega (arith, digits_short f k (n / 16) (digit_glyph false (n % 16) ∷ acc) shorter)))
    (cases_Bool (n / 16 == 0))

unsigned_short : (size : ℕ) (bytes : List ℕ) → size ≤ 4 → AreBytes bytes → length (printed_unsigned size bytes) ≤ 10
unfolding digits
unsigned_short size [] fits small = omega arith
unsigned_short size (b ∷ bytes) fits small =
    let m = from_be_bytes w32 (filled 0 (last_bytes size (b ∷ bytes))) in
    let few = filled_small size 0 (b ∷ bytes) fits (omega arith) small in
    omega (arith, digits_short 64 7 m [] few)

-- PAIRS AND SYMBOLS

pairs_long : (separator : ℕ) (bytes : List ℕ) → length (flat_map (λ b. separator ∷ encode_lower (b ∷ [])) bytes) ≡ 3 * length bytes
unfolding encode_with
pairs_long separator [] = refl
pairs_long separator (b ∷ bytes) = omega (arith, pairs_long separator bytes)

pairs_short : (separator : ℕ) (bytes : List ℕ) → length (printed_pairs separator bytes) ≤ 3 * length bytes
pairs_short separator bytes = omega (arith, pairs_long separator bytes, length-drop 1 (flat_map (λ b. separator ∷ encode_lower (b ∷ [])) bytes))

symbols_short : (t bytes : List ℕ) → length (encode_symbols t bytes) ≤ 2 * length bytes
unfolding encode_symbols
symbols_short t [] = omega arith
symbols_short t (a ∷ []) = omega arith
symbols_short t (a ∷ b ∷ []) = omega arith
symbols_short t (a ∷ b ∷ c ∷ rest) = omega (arith, symbols_short t rest)

padding_short : (n pad : ℕ) (b : Bool) → length (cond b (replicate (padding_len n) pad) []) ≤ 2
padding_short n pad true = rw length-replicate (omega arith)
padding_short n pad false = omega arith

base64_short : (bytes : List ℕ) → length (encode_of standard bytes) ≤ 2 * length bytes + 2
base64_short bytes =
    let t = standard.encode_table in
    let pad = standard.padding.value in
    let padded = standard.config.encode_padding in
    omega (arith, symbols_short t bytes, padding_short (length bytes) pad padded, length-append (encode_symbols t bytes) (cond padded (replicate (padding_len (length bytes)) pad) []))

-- UUIDS AND URIS

uuid_short : (bytes : List ℕ) → length (printed_uuid bytes) ≤ 36
uuid_short bytes = ⊎_elim
    (λ on. let long : length (hyphenated_text lower bytes) ≡ 36 = by_index_length 36 _ in rw on (omega arith))
    (λ off. rw off (omega arith))
    (cases_Bool (length bytes == 16))

escaped_short : (b : ℕ) → length (cond (is_unescaped b) (b ∷ []) (percent_encode_byte b)) ≤ 3
unfolding percent_encode_byte
escaped_short b = ⊎_elim
    (λ on. rw on (omega arith))
    (λ off. rw off (omega arith))
    (cases_Bool (is_unescaped b))

uri_short : (bytes : List ℕ) → length (printed_uri bytes) ≤ 3 * length bytes
uri_short [] = omega arith
uri_short (b ∷ bytes) =
    omega (arith, escaped_short b, uri_short bytes, length-append (cond (is_unescaped b) (b ∷ []) (percent_encode_byte b)) (printed_uri bytes))

-- a value as text has at most three bytes for each of its own, and 36 more
pub printed_short : (kind : Kind) (bytes : List ℕ) → AreBytes bytes → length (printed kind bytes) ≤ 3 * length bytes + 36
unfolding printed
printed_short Str bytes small = omega (arith, nulls_fewer bytes)
printed_short Ipv4 bytes small = omega (arith, address_short bytes small)
printed_short Int8 bytes small = omega (arith, signed_short 1 bytes (omega arith) small)
printed_short Int16 bytes small = omega (arith, signed_short 2 bytes (omega arith) small)
printed_short Int32 bytes small = omega (arith, signed_short 4 bytes (omega arith) small)
printed_short Uint8 bytes small = omega (arith, unsigned_short 1 bytes (omega arith) small)
printed_short Uint16 bytes small = omega (arith, unsigned_short 2 bytes (omega arith) small)
printed_short Uint32 bytes small = omega (arith, unsigned_short 4 bytes (omega arith) small)
printed_short Hex bytes small = omega (arith, pairs_short 58 bytes)
printed_short Hexhyp bytes small = omega (arith, pairs_short 45 bytes)
printed_short Hexraw bytes small = omega (arith, length-encode_with lower_digits bytes)
printed_short Base64 bytes small = omega (arith, base64_short bytes)
printed_short Uuid bytes small = omega (arith, uuid_short bytes)
printed_short Uristring bytes small = omega (arith, nulls_fewer bytes, uri_short (without_nulls bytes))

-- A value, printed and read again, is the same value.
use Rattle.std.proofs.Common.{◌≡◌, ℕ, suc, ◌+◌, ◌*◌, ◌/◌, ◌%◌, ◌<◌, ◌==◌, true, false, List, [], ◌∷◌, ◌++◌, length, get_or, Some, All, refl, sym, ap, ◌∙◌, inl, arith, append_assoc}
use Rattle.std.specs.Char.{digit_value}
use Rattle.std.specs.Fmt.{decimal}
use Rattle.std.specs.List.{flat_map, slice_split}
use Rattle.std.specs.Result.{result_ok}
use Rattle.std.specs.Str.Parse.{AllDigits}
use Rattle.std.proofs.lemmas.Bool.{eq-eqb, ne_eqb, lt-ltb}
use Rattle.std.proofs.lemmas.Bool.Decides.{nat_tests}
use Rattle.std.proofs.lemmas.Fmt.{decimal_is_IsNumeral}
use Rattle.std.proofs.lemmas.List.Elements.{All-cons, All-nil, All-from_get_or}
use Rattle.std.proofs.lemmas.List.Splits.{slice_split_at, slice_split_none}
use Rattle.hex.specs.Hex.{encode_lower, encode_with, lower_digits}
use Rattle.hex.proofs.HexLemmas.{IsDigits-lower_digits, decode_of-encode_lower}
use Rattle.base64.specs.Engines.{standard}
use Rattle.base64.specs.GeneralPurpose.{encode_of, decoded_of}
use Rattle.base64.proofs.EngineFacts.{decode_of-encode_of}
use Rattle.percent_encoding.specs.Percent.{percent_decode}
use Rattle.percent_encoding.proofs.PercentLemmas.{round_trip, IsByte}
use Rattle.uuid.specs.Text.{parsed_hyphenated, hyphenated_text, lower}
use Rattle.uuid.proofs.RoundTrips.{parses_hyphenated_text}
use Rattle.nb_settings.specs.declared.kind.Kind.{Kind}
use Rattle.nb_settings.specs.declared.kind.Kind.TheVariants.{Str, Ipv4, Int8, Int16, Int32, Uint8, Uint16, Uint32, Hex, Hexhyp, Hexraw, Base64, Uuid, Uristring}
use Rattle.nb_settings.specs.Nulls.{without_nulls}
use Rattle.nb_settings.proofs.NullLemmas.{nulls_kept}
use Rattle.nb_expand.specs.declared.printing.TheConstants.{RESERVED}
use Rattle.nb_numerals.specs.Addresses.{decimal_byte, decimals, parsed_address, is_dot}
use Rattle.nb_expand.specs.Addresses.{printed_address}
use Rattle.nb_expand.specs.Numbers.{printed_signed, printed_unsigned, parsed_signed, parsed_unsigned}
use Rattle.nb_expand.specs.Pairs.{printed_pairs, byte_of_digits, pairs_behind, parsed_pairs}
use Rattle.nb_expand.specs.Printing.{printed, printed_uuid}
use Rattle.nb_expand.specs.Reading.{parsed, IsWhole, shown}
use Rattle.nb_expand.specs.Uris.{printed_uri}
use Rattle.nb_expand.proofs.UriLemmas.{percent_encode-reserved}
use Rattle.nb_expand.proofs.NumberBackLemmas.{decimal_number-decimal}
use Rattle.nb_expand.proofs.BytesBackLemmas.{AreBytes, signed_one_back, signed_two_back, signed_four_back, unsigned_one_back, unsigned_two_back, unsigned_four_back}

-- ADDRESSES

no_dot : (text : List ℕ) → AllDigits 10 text → All (λ c. is_dot c ≡ false) text
no_dot [] h = All-nil (λ c. is_dot c ≡ false)
no_dot (c ∷ text) h = All-cons (λ c. is_dot c ≡ false) c text (ne_eqb c 46 (λ e. dot_is_none c e h.0)) (no_dot text h.1)
  where
    dot_is_none : (c : ℕ) → c ≡ 46 → digit_value c < 10 → ⊥
    dot_is_none c e h = grind (arith, nat_tests)

decimal_part : (a : ℕ) (rest : List ℕ) → a < 256 → slice_split is_dot (decimal a ++ (46 ∷ rest)) ≡ decimal a ∷ slice_split is_dot rest
decimal_part a rest h = slice_split_at is_dot (decimal a) 46 rest (no_dot (decimal a) (decimal_is_IsNumeral a (omega arith)).0.1) refl

byte_back : (a : ℕ) → a < 256 → decimal_byte (decimal a) ≡ Some a
byte_back a h = rw (decimal_number-decimal a (omega arith), lt-ltb a 256 h) refl

address_back : (a b c d : ℕ) → a < 256 → b < 256 → c < 256 → d < 256 → parsed_address (printed_address (a ∷ b ∷ c ∷ d ∷ [])) ≡ Some (a ∷ b ∷ c ∷ d ∷ [])
address_back a b c d ha hb hc hd =
    let text : printed_address (a ∷ b ∷ c ∷ d ∷ []) ≡ decimal a ++ (46 ∷ (decimal b ++ (46 ∷ (decimal c ++ (46 ∷ decimal d))))) = simp append_assoc in
    let last = slice_split_none is_dot (decimal d) (no_dot (decimal d) (decimal_is_IsNumeral d (omega arith)).0.1) in
    let parts : slice_split is_dot (printed_address (a ∷ b ∷ c ∷ d ∷ [])) ≡ decimal a ∷ decimal b ∷ decimal c ∷ decimal d ∷ [] =
    ap (slice_split is_dot) text ∙ decimal_part a _ ha ∙ ap (λ t. decimal a ∷ t) (decimal_part b _ hb ∙ ap (λ t. decimal b ∷ t) (decimal_part c _ hc ∙ ap (λ t. decimal c ∷ t) last)) in
    ap (decimals 4) parts ∙ rw (byte_back a ha, byte_back b hb, byte_back c hc, byte_back d hd) refl

-- PAIRS

abbrev separated : ℕ → ℕ → List ℕ
separated separator b = separator ∷ encode_lower (b ∷ [])

digits_back : (b : ℕ) → b < 256 → byte_of_digits (get_or lower_digits (b / 16) 0) (get_or lower_digits (b % 16) 0) ≡ Some b
digits_back b h =
    let high = IsDigits-lower_digits (b / 16) (omega arith) in
    let low = IsDigits-lower_digits (b % 16) (omega arith) in
    let whole : b / 16 * 16 + b % 16 ≡ b = omega arith in
    rw (high, low) (ap Some whole)

pairs_back : (separator : ℕ) (bytes : List ℕ) → AreBytes bytes → pairs_behind separator (flat_map (separated separator) bytes) ≡ Some bytes
unfolding encode_with
pairs_back separator [] small = refl
pairs_back separator (b ∷ bytes) small =
    let same : (separator == separator) ≡ true = eq-eqb separator separator refl in
    rw (same, digits_back b (small 0), pairs_back separator bytes (λ i. small (suc i))) refl

parsed_pairs_back : (separator : ℕ) (bytes : List ℕ) → AreBytes bytes → parsed_pairs separator (printed_pairs separator bytes) ≡ Some bytes
unfolding encode_with
parsed_pairs_back separator [] small = refl
parsed_pairs_back separator (b ∷ bytes) small = pairs_back separator (b ∷ bytes) small

-- THE KINDS

base64_back : (bytes : List ℕ) → AreBytes bytes → decoded_of standard (encode_of standard bytes) ≡ Some bytes
unfolding decoded_of
base64_back bytes small = ap result_ok (decode_of-encode_of standard bytes refl small)

uuid_back : (bytes : List ℕ) → length bytes ≡ 16 → AreBytes bytes → parsed_hyphenated (printed_uuid bytes) ≡ Some bytes
uuid_back bytes long small =
    let is : printed_uuid bytes ≡ hyphenated_text lower bytes = rw long refl in
    ap parsed_hyphenated is ∙ sym (parses_hyphenated_text lower bytes (inl refl) long (All-from_get_or (λ b. b < 256) bytes 0 (λ i within. small i)))

uri_back : (bytes : List ℕ) → AreBytes bytes → percent_decode (printed_uri bytes) ≡ bytes
uri_back bytes small =
    ap percent_decode (sym (percent_encode-reserved bytes)) ∙ round_trip RESERVED bytes refl (All-from_get_or IsByte bytes 0 (λ i within. small i))

one_byte : (P : List ℕ → Type 0) (bytes : List ℕ) → length bytes ≡ 1 → ((a : ℕ) → AreBytes (a ∷ []) → P (a ∷ [])) → AreBytes bytes → P bytes
one_byte P [] h p small = absurd (omega arith)
one_byte P (a ∷ []) h p small = p a small
one_byte P (a ∷ b ∷ rest) h p small = absurd (omega arith)

two_bytes : (P : List ℕ → Type 0) (bytes : List ℕ) → length bytes ≡ 2 → ((a b : ℕ) → AreBytes (a ∷ b ∷ []) → P (a ∷ b ∷ [])) → AreBytes bytes → P bytes
two_bytes P [] h p small = absurd (omega arith)
two_bytes P (a ∷ []) h p small = absurd (omega arith)
two_bytes P (a ∷ b ∷ []) h p small = p a b small
two_bytes P (a ∷ b ∷ c ∷ rest) h p small = absurd (omega arith)

four_bytes : (P : List ℕ → Type 0) (bytes : List ℕ) → length bytes ≡ 4 → ((a b c d : ℕ) → AreBytes (a ∷ b ∷ c ∷ d ∷ []) → P (a ∷ b ∷ c ∷ d ∷ [])) → AreBytes bytes → P bytes
four_bytes P [] h p small = absurd (omega arith)
four_bytes P (a ∷ []) h p small = absurd (omega arith)
four_bytes P (a ∷ b ∷ []) h p small = absurd (omega arith)
four_bytes P (a ∷ b ∷ c ∷ []) h p small = absurd (omega arith)
four_bytes P (a ∷ b ∷ c ∷ d ∷ []) h p small = p a b c d small
four_bytes P (a ∷ b ∷ c ∷ d ∷ e ∷ rest) h p small = absurd (omega arith)

-- what is left without the zero bytes at the end
kept_small : (bytes : List ℕ) → AreBytes bytes → AreBytes (without_nulls bytes)
kept_small bytes small i = omega (arith, nulls_kept bytes i, small i)

-- a value that is whole reads back, zero bytes at a text's end aside
pub read_back : (kind : Kind) (bytes : List ℕ) → AreBytes bytes → IsWhole kind bytes → parsed kind (printed kind bytes) ≡ Some (shown kind bytes)
unfolding parsed printed
read_back Str bytes small whole = refl
read_back Ipv4 bytes small whole = four_bytes (λ v. parsed_address (printed_address v) ≡ Some v) bytes whole (λ a b c d s. address_back a b c d (s 0) (s 1) (s 2) (s 3)) small
read_back Int8 bytes small whole = one_byte (λ v. parsed_signed 1 (printed_signed 1 v) ≡ Some v) bytes whole (λ a s. signed_one_back a (s 0)) small
read_back Int16 bytes small whole = two_bytes (λ v. parsed_signed 2 (printed_signed 2 v) ≡ Some v) bytes whole (λ a b s. signed_two_back a b (s 0) (s 1)) small
read_back Int32 bytes small whole = four_bytes (λ v. parsed_signed 4 (printed_signed 4 v) ≡ Some v) bytes whole (λ a b c d s. signed_four_back a b c d (s 0) (s 1) (s 2) (s 3)) small
read_back Uint8 bytes small whole = one_byte (λ v. parsed_unsigned 1 (printed_unsigned 1 v) ≡ Some v) bytes whole (λ a s. unsigned_one_back a (s 0)) small
read_back Uint16 bytes small whole = two_bytes (λ v. parsed_unsigned 2 (printed_unsigned 2 v) ≡ Some v) bytes whole (λ a b s. unsigned_two_back a b (s 0) (s 1)) small
read_back Uint32 bytes small whole = four_bytes (λ v. parsed_unsigned 4 (printed_unsigned 4 v) ≡ Some v) bytes whole (λ a b c d s. unsigned_four_back a b c d (s 0) (s 1) (s 2) (s 3)) small
read_back Hex bytes small whole = parsed_pairs_back 58 bytes small
read_back Hexhyp bytes small whole = parsed_pairs_back 45 bytes small
read_back Hexraw bytes small whole = ap result_ok (decode_of-encode_lower bytes small)
read_back Base64 bytes small whole = base64_back bytes small
read_back Uuid bytes small whole = uuid_back bytes whole small
read_back Uristring bytes small whole = ap Some (uri_back (without_nulls bytes) (kept_small bytes small))

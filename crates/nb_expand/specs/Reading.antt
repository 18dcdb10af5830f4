-- Own, with RFC 4648 and RFC 9562: a text as a setting's value, by its kind
use Rattle.std.specs.Prelude.{◌≡◌, ℕ, List, length, Option, Some}
use Rattle.std.specs.Result.{result_ok}
use Rattle.nb_settings.specs.declared.kind.Kind.{Kind}
use Rattle.nb_settings.specs.declared.kind.Kind.TheVariants.{Str, Ipv4, Int8, Int16, Int32, Uint8, Uint16, Uint32, Hex, Hexhyp, Hexraw, Base64, Uuid, Uristring}
use Rattle.hex.specs.Hex.{decode_of}
use Rattle.base64.specs.Engines.{standard}
use Rattle.base64.specs.GeneralPurpose.{decoded_of}
use Rattle.percent_encoding.specs.Percent.{percent_decode}
use Rattle.uuid.specs.Text.{parsed_hyphenated}
use Rattle.nb_settings.specs.Nulls.{without_nulls}
use Rattle.nb_expand.specs.Numbers.{parsed_signed, parsed_unsigned}
use Rattle.nb_expand.specs.Pairs.{parsed_pairs}
use Rattle.nb_numerals.specs.Addresses.{parsed_address}

-- the value that a text is of a kind, or None where it is none
unfoldable pub parsed : Kind → List ℕ → Option (List ℕ)
parsed Str text = Some text
parsed Ipv4 text = parsed_address text
parsed Int8 text = parsed_signed 1 text
parsed Int16 text = parsed_signed 2 text
parsed Int32 text = parsed_signed 4 text
parsed Uint8 text = parsed_unsigned 1 text
parsed Uint16 text = parsed_unsigned 2 text
parsed Uint32 text = parsed_unsigned 4 text
parsed Hex text = parsed_pairs 58 text
parsed Hexhyp text = parsed_pairs 45 text
parsed Hexraw text = result_ok (decode_of text)
parsed Base64 text = decoded_of standard text
parsed Uuid text = parsed_hyphenated text
parsed Uristring text = Some (percent_decode text)

-- whether a value has the length that its kind reads, so that its text reads back as it
abbrev pub IsWhole : Kind → List ℕ → Type 0
IsWhole Ipv4 bytes = length bytes ≡ 4
IsWhole Int8 bytes = length bytes ≡ 1
IsWhole Int16 bytes = length bytes ≡ 2
IsWhole Int32 bytes = length bytes ≡ 4
IsWhole Uint8 bytes = length bytes ≡ 1
IsWhole Uint16 bytes = length bytes ≡ 2
IsWhole Uint32 bytes = length bytes ≡ 4
IsWhole Uuid bytes = length bytes ≡ 16
IsWhole Str bytes = Unit {0}
IsWhole Hex bytes = Unit {0}
IsWhole Hexhyp bytes = Unit {0}
IsWhole Hexraw bytes = Unit {0}
IsWhole Base64 bytes = Unit {0}
IsWhole Uristring bytes = Unit {0}

-- the bytes that a value's text shows: of the text kinds all but the zero bytes at the end
abbrev pub shown : Kind → List ℕ → List ℕ
shown Str bytes = without_nulls bytes
shown Uristring bytes = without_nulls bytes
shown Ipv4 bytes = bytes
shown Int8 bytes = bytes
shown Int16 bytes = bytes
shown Int32 bytes = bytes
shown Uint8 bytes = bytes
shown Uint16 bytes = bytes
shown Uint32 bytes = bytes
shown Hex bytes = bytes
shown Hexhyp bytes = bytes
shown Hexraw bytes = bytes
shown Base64 bytes = bytes
shown Uuid bytes = bytes

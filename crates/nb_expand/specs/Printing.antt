-- Own, with RFC 4648 and RFC 9562: a setting's value as text, by its kind
use Rattle.std.specs.Prelude.{ℕ, ◌==◌, List, [], length, if◌then◌else◌}
use Rattle.nb_settings.specs.declared.kind.Kind.{Kind}
use Rattle.nb_settings.specs.declared.kind.Kind.TheVariants.{Str, Ipv4, Int8, Int16, Int32, Uint8, Uint16, Uint32, Hex, Hexhyp, Hexraw, Base64, Uuid, Uristring}
use Rattle.hex.specs.Hex.{encode_lower}
use Rattle.base64.specs.Engines.{standard}
use Rattle.base64.specs.GeneralPurpose.{encode_of}
use Rattle.uuid.specs.Text.{hyphenated_text, lower}
use Rattle.nb_settings.specs.Nulls.{without_nulls}
use Rattle.nb_expand.specs.Numbers.{printed_signed, printed_unsigned}
use Rattle.nb_expand.specs.Pairs.{printed_pairs}
use Rattle.nb_expand.specs.Addresses.{printed_address}
use Rattle.nb_expand.specs.Uris.{printed_uri}

-- the hyphenated form of sixteen bytes; nothing of others
abbrev pub printed_uuid : List ℕ → List ℕ
printed_uuid bytes = if length bytes == 16 then hyphenated_text lower bytes else []

-- of a text the zero bytes at the end are left out, which servers add (RFC 2132, section 2)
unfoldable pub printed : Kind → List ℕ → List ℕ
printed Str bytes = without_nulls bytes
printed Ipv4 bytes = printed_address bytes
printed Int8 bytes = printed_signed 1 bytes
printed Int16 bytes = printed_signed 2 bytes
printed Int32 bytes = printed_signed 4 bytes
printed Uint8 bytes = printed_unsigned 1 bytes
printed Uint16 bytes = printed_unsigned 2 bytes
printed Uint32 bytes = printed_unsigned 4 bytes
printed Hex bytes = printed_pairs 58 bytes
printed Hexhyp bytes = printed_pairs 45 bytes
printed Hexraw bytes = encode_lower bytes
printed Base64 bytes = encode_of standard bytes
printed Uuid bytes = printed_uuid bytes
printed Uristring bytes = printed_uri (without_nulls bytes)

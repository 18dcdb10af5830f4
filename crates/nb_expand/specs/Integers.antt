-- Own: the number that a value is of an integer kind, which is the number that it prints as; no bytes are 0
use Rattle.std.specs.Prelude.{ℕ, List, Option, Some, None, ℤ, pos}
use Rattle.nb_settings.specs.declared.kind.Kind.{Kind}
use Rattle.nb_settings.specs.declared.kind.Kind.TheVariants.{Str, Ipv4, Int8, Int16, Int32, Uint8, Uint16, Uint32, Hex, Hexhyp, Hexraw, Base64, Uuid, Uristring}
use Rattle.nb_expand.specs.Numbers.{last_bytes, signed_of, unsigned_of}

unfoldable pub integer_of : Kind → List ℕ → Option ℤ
integer_of Int8 bytes = Some (signed_of (last_bytes 1 bytes))
integer_of Int16 bytes = Some (signed_of (last_bytes 2 bytes))
integer_of Int32 bytes = Some (signed_of (last_bytes 4 bytes))
integer_of Uint8 bytes = Some (pos (unsigned_of (last_bytes 1 bytes)))
integer_of Uint16 bytes = Some (pos (unsigned_of (last_bytes 2 bytes)))
integer_of Uint32 bytes = Some (pos (unsigned_of (last_bytes 4 bytes)))
integer_of Str bytes = None
integer_of Ipv4 bytes = None
integer_of Hex bytes = None
integer_of Hexhyp bytes = None
integer_of Hexraw bytes = None
integer_of Base64 bytes = None
integer_of Uuid bytes = None
integer_of Uristring bytes = None

-- own: the kinds of settings and their names
use Rattle.std.specs.Prelude.{ℕ, List, [], ◌∷◌, Option, codes, find}
use Rattle.std.specs.Str.{bytes_eq}
use Rattle.nb_settings.specs.declared.kind.Kind.{Kind}
use Rattle.nb_settings.specs.declared.kind.Kind.TheVariants.{Str, Ipv4, Int8, Int16, Int32, Uint8, Uint16, Uint32, Hex, Hexhyp, Hexraw, Base64, Uuid, Uristring}

abbrev pub kind_name : Kind → List ℕ
kind_name Str = codes "string"
kind_name Ipv4 = codes "ipv4"
kind_name Int8 = codes "int8"
kind_name Int16 = codes "int16"
kind_name Int32 = codes "int32"
kind_name Uint8 = codes "uint8"
kind_name Uint16 = codes "uint16"
kind_name Uint32 = codes "uint32"
kind_name Hex = codes "hex"
kind_name Hexhyp = codes "hexhyp"
kind_name Hexraw = codes "hexraw"
kind_name Base64 = codes "base64"
kind_name Uuid = codes "uuid"
kind_name Uristring = codes "uristring"

abbrev pub all_kinds : List Kind
all_kinds = Str ∷ Ipv4 ∷ Int8 ∷ Int16 ∷ Int32 ∷ Uint8 ∷ Uint16 ∷ Uint32 ∷ Hex ∷ Hexhyp ∷ Hexraw ∷ Base64 ∷ Uuid ∷ Uristring ∷ []

-- the kind of a name
unfoldable pub kind_named : List ℕ → Option Kind
kind_named name = find (λ kind. bytes_eq name (kind_name kind)) all_kinds

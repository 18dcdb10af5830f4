-- own: the names that are listed, each with its tag and its kind; tags are options of RFC 2132, with the inner options of 175
use Rattle.std.specs.Prelude.{◌≡◌, ℕ, List, [], ◌∷◌, Option, codes, find}
use Rattle.std.specs.Option.{option_map, option_map_or}
use Rattle.std.specs.Str.{bytes_eq}
use Rattle.nb_settings.specs.declared.kind.Kind.{Kind}
use Rattle.nb_settings.specs.declared.kind.Kind.TheVariants.{Str, Ipv4, Int8, Uint8, Hex, Uuid}
use Rattle.nb_settings.specs.declared.setting.OwnedKey.{OwnedKey}
use Rattle.nb_settings.specs.declared.setting.OwnedKey.TheVariants.{Tag, Sub, Free}
use Rattle.nb_settings.specs.Keys.{same_key}

-- a line of the list
pub record Listed : Type 0 where
  pub name : List ℕ
  pub key : OwnedKey
  pub kind : Kind

abbrev pub line : List ℕ → OwnedKey → Kind → Listed
line name key kind = record { name = name; key = key; kind = kind }

-- a name without a tag
abbrev pub untagged : List ℕ → Kind → Listed
untagged name kind = line name (Free name) kind

abbrev pub listed : List Listed
listed =
    line (codes "netmask") (Tag 1) Ipv4
    ∷ line (codes "gateway") (Tag 3) Ipv4
    ∷ line (codes "dns") (Tag 6) Ipv4
    ∷ line (codes "hostname") (Tag 12) Str
    ∷ line (codes "domain") (Tag 15) Str
    ∷ line (codes "root-path") (Tag 17) Str
    ∷ line (codes "dhcp-server") (Tag 54) Ipv4
    ∷ line (codes "filename") (Tag 67) Str
    ∷ line (codes "user-class") (Tag 77) Str
    ∷ line (codes "initiator-iqn") (Tag 203) Str
    ∷ line (codes "priority") (Sub 175 1) Int8
    ∷ line (codes "keep-san") (Sub 175 8) Int8
    ∷ line (codes "skip-san-boot") (Sub 175 9) Int8
    ∷ line (codes "no-pxedhcp") (Sub 175 176) Uint8
    ∷ line (codes "busid") (Sub 175 177) Hex
    ∷ line (codes "san-drive") (Sub 175 189) Uint8
    ∷ line (codes "username") (Sub 175 190) Str
    ∷ line (codes "password") (Sub 175 191) Str
    ∷ line (codes "reverse-username") (Sub 175 192) Str
    ∷ line (codes "reverse-password") (Sub 175 193) Str
    ∷ line (codes "version") (Sub 175 235) Str
    ∷ untagged (codes "ip") Ipv4
    ∷ untagged (codes "next-server") Ipv4
    ∷ untagged (codes "uuid") Uuid
    ∷ untagged (codes "mac") Hex
    ∷ []

-- the key of a word: that of the list, or the word itself
unfoldable pub key_named : List ℕ → OwnedKey
key_named name = option_map_or (λ found. found.key) (find (λ row. bytes_eq name row.name) listed) (Free name)

-- the key is no name that is listed with a tag: such a setting is meant by its tag alone
abbrev pub IsByTag : OwnedKey → Type 0
IsByTag (Tag number) = Unit {0}
IsByTag (Sub outer inner) = Unit {0}
IsByTag (Free name) = key_named name ≡ Free name

-- the kind that the list gives a key
unfoldable pub listed_kind : OwnedKey → Option Kind
listed_kind key = option_map (λ found. found.kind) (find (λ row. same_key key row.key) listed)

-- RFC 4173, section 5: `iscsi:` server `:` protocol `:` port `:` LUN `:` target. Own: the protocol is TCP's
-- number or nothing, no port has a leading zero, and a target has at most 223 bytes (RFC 7143, section 4.2.7.1).
use Rattle.std.specs.Prelude.{◌≡◌, ◌≢◌, ◌⊎◌, ◌↔◌, ℕ, zero, suc, ◌<◌, ◌≤◌, Bool, ◌&&◌, ◌||◌, ◌==◌, nat_lt, nat_le, List, [], ◌∷◌, ◌++◌, length, take, slice_index, replicate, map, Option, Some, None, codes, bytes_eq, if◌then◌else◌}
use Rattle.std.specs.Char.{is_digit, to_ascii_lowercase}
use Rattle.std.specs.Fmt.{decimal}
use Rattle.std.specs.Int.{to_be_bytes, w16}
use Rattle.std.specs.List.{list_all, slice_split, flat_map}
use Rattle.std.specs.Option.{option_map, option_and_then}
use Rattle.std.specs.Str.Parse.{digits_value}
use Rattle.nb_uri.specs.Pieces.{cut_at_first}

-- what an iSCSI name means: the server, its port, the logical unit as 8 bytes, and the target's name
pub record IscsiTarget : Type 0 where
  pub server : List ℕ
  pub port : ℕ
  pub lun : List ℕ
  pub target : List ℕ

-- the text begins with `iscsi:` in any case
abbrev pub is_iscsi : List ℕ → Bool
is_iscsi text = bytes_eq (map to_ascii_lowercase (take 6 text)) (codes "iscsi:")

abbrev pub is_hyphen : ℕ → Bool
is_hyphen byte = byte == 45

-- the number of one digit or more, where 16 bits hold it
abbrev pub word_number : ℕ → List ℕ → Option ℕ
word_number base text =
    if nat_lt 0 (length text) && list_all (λ d. is_digit d base) text && nat_lt (digits_value base text) 65536
    then Some (digits_value base text)
    else None

-- the port: nothing is 3260, and there is no leading zero
abbrev pub iscsi_port : List ℕ → Option ℕ
iscsi_port text =
    if length text == 0 then Some 3260
    else if slice_index text 0 == 48 then None
    else word_number 10 text

-- one to four hexadecimal digits
abbrev pub lun_word : List ℕ → Option ℕ
lun_word group = if nat_le (length group) 4 then word_number 16 group else None

-- so many words, of groups of digits; those that are left out are 0
abbrev pub lun_words : ℕ → List (List ℕ) → Option (List ℕ)
lun_words count [] = Some (replicate count 0)
lun_words zero (group ∷ groups) = None
lun_words (suc count) (group ∷ groups) =
    option_and_then (λ word. option_map (λ words. word ∷ words) (lun_words count groups)) (lun_word group)

-- the groups of digits that are left; none where the text is empty
abbrev pub lun_groups : Option (List ℕ) → List (List ℕ)
lun_groups None = []
lun_groups (Some text) = slice_split is_hyphen text

-- the logical unit: nothing is 0, else one to four groups with hyphens between them
abbrev pub iscsi_lun : List ℕ → Option (List ℕ)
iscsi_lun text =
    option_map (flat_map (to_be_bytes w16)) (lun_words 4 (lun_groups (if length text == 0 then None else Some text)))

abbrev pub is_iscsi_protocol : List ℕ → Bool
is_iscsi_protocol text = length text == 0 || bytes_eq text (codes "6")

abbrev pub is_target_name : List ℕ → Bool
is_target_name text = nat_lt 0 (length text) && nat_le (length text) 223

-- what five fields mean
abbrev pub fields_target : List ℕ → List ℕ → List ℕ → List ℕ → List ℕ → Option IscsiTarget
fields_target server protocol port lun target =
    if nat_lt 0 (length server) && is_iscsi_protocol protocol && is_target_name target
    then option_and_then (λ number. option_map (λ unit. record { server = server; port = number; lun = unit; target = target }) (iscsi_lun lun)) (iscsi_port port)
    else None

-- what follows `iscsi:` is cut at its first four colons
abbrev pub iscsi_target : List ℕ → Option IscsiTarget
iscsi_target text =
    option_and_then (λ one. option_and_then (λ two. option_and_then (λ three. option_and_then (λ four.
    fields_target one.0 two.0 three.0 four.0 four.1)
    (cut_at_first 58 three.1)) (cut_at_first 58 two.1)) (cut_at_first 58 one.1)) (cut_at_first 58 text)

-- no byte is a colon
abbrev pub HasNoColon : List ℕ → Type 0
HasNoColon bytes = (place : ℕ) → place < length bytes → slice_index bytes place ≢ 58

-- nothing, or a decimal as it is printed
abbrev pub IsPortField : List ℕ → ℕ → Type 0
IsPortField text port = ((text ≡ []) × (port ≡ 3260)) ⊎ ((text ≡ decimal port) × (0 < port) × (port < 65536))

-- the grammar: five fields with colons between them, of which the last alone may hold more colons
pub record SpellsIscsi (text : List ℕ) (target : IscsiTarget) : Type 0 where
  pub protocol : List ℕ
  pub port : List ℕ
  pub lun : List ℕ
  pub spelled : text ≡ target.server ++ 58 ∷ (protocol ++ 58 ∷ (port ++ 58 ∷ (lun ++ 58 ∷ target.target)))
  pub server_is_whole : HasNoColon target.server
  pub server_is_some : 0 < length target.server
  pub protocol_is_tcp : (protocol ≡ []) ⊎ (protocol ≡ codes "6")
  pub port_is_number : IsPortField port target.port
  pub lun_is_whole : HasNoColon lun
  pub lun_is_unit : iscsi_lun lun ≡ Some target.lun
  pub name_is_some : 0 < length target.target
  pub name_fits : length target.target ≤ 223

-- what an iSCSI name means is what the grammar says of it
abbrev pub NamesAreSpelled : Type 0
NamesAreSpelled = (text : List ℕ) (target : IscsiTarget) → (iscsi_target text ≡ Some target) ↔ SpellsIscsi text target

-- RFC 2131, section 2, and RFC 2132; own, after ipxe.org's settings, in option 175 and the names without a tag: the settings of a lease
use Rattle.std.specs.Prelude.{ℕ, ℤ, pos, ◌==◌, ◌&&◌, ◌||◌, Bool, true, false, not, codes, List, [], ◌∷◌, ◌++◌, length, nat_lt, Option, Some, unwrap_or, slice_index, if◌then◌else◌}
use Rattle.std.specs.Int.{cast_signed, from_be_bytes, to_be_bytes, w8, w32}
use Rattle.std.specs.List.{flat_map, range_with_len}
use Rattle.nb_dhcpmsg.specs.Options.{TagValue, joined}
use Rattle.nb_dhcpmsg.specs.Messages.{field, is_value}
use Rattle.nb_dhcpmsg.specs.Fields.{message_options, inner_options, file_name}
use Rattle.nb_settings.specs.declared.kind.Kind.{Kind}
use Rattle.nb_settings.specs.declared.kind.Kind.TheVariants.{Str, Ipv4, Int8, Int16, Int32, Uint8, Uint16, Uint32, Hex, Hexhyp, Hexraw, Base64, Uuid, Uristring}
use Rattle.nb_settings.specs.declared.error.SetError.{SetError}
use Rattle.nb_settings.specs.declared.error.SetError.TheVariants.{TooMany}
use Rattle.nb_settings.specs.declared.setting.OwnedKey.{OwnedKey}
use Rattle.nb_settings.specs.declared.setting.OwnedKey.TheVariants.{Tag, Sub, Free}
use Rattle.nb_settings.specs.declared.setting.Setting.{Setting}
use Rattle.nb_settings.specs.Listed.{listed_kind}
use Rattle.nb_settings.specs.Nulls.{without_nulls}
use Rattle.nb_settings.specs.Tables.{TableLists, setting_of, block_of, with_block, without_block, register_refusal}

abbrev pub is_text_kind : Kind → Bool
is_text_kind Str = true
is_text_kind Ipv4 = false
is_text_kind Int8 = false
is_text_kind Int16 = false
is_text_kind Int32 = false
is_text_kind Uint8 = false
is_text_kind Uint16 = false
is_text_kind Uint32 = false
is_text_kind Hex = false
is_text_kind Hexhyp = false
is_text_kind Hexraw = false
is_text_kind Base64 = false
is_text_kind Uuid = false
is_text_kind Uristring = false

-- the kind of an option's setting: the listed one, or hex
abbrev pub option_kind : OwnedKey → Kind
option_kind key = unwrap_or (listed_kind key) Hex

-- the value of an option as a setting: a text loses the zero bytes at its end (RFC 2132, section 2)
abbrev pub option_bytes : Kind → List ℕ → List ℕ
option_bytes kind bytes = if is_text_kind kind then without_nulls bytes else bytes

unfoldable pub option_setting : List ℕ → OwnedKey → List ℕ → Setting
option_setting block key bytes = setting_of block key (option_kind key) (option_bytes (option_kind key) bytes)

-- the setting of a tag's joined value: none where no option has the tag, or over 1,024 bytes are joined
unfoldable pub value_settings : List ℕ → OwnedKey → ℕ → List TagValue → List Setting
value_settings block key tag os = if is_value tag os then option_setting block key (joined tag os) ∷ [] else []

-- the options of a message
unfoldable pub options_in : List ℕ → List TagValue
options_in ack = unwrap_or (message_options ack) []

-- and those within its option 175
abbrev pub options_within : List ℕ → List TagValue
options_within ack = inner_options (joined 175 (options_in ack))

-- options that say how the message is read, and 175, which is cut into its own
abbrev pub is_left_out : ℕ → Bool
is_left_out tag = (tag == 52) || (tag == 53) || (tag == 175)

-- a file's name in the field for one goes before option 67
abbrev pub is_named_file : List ℕ → ℕ → Bool
is_named_file ack tag = (tag == 67) && not (length (file_name ack) == 0)

-- the setting of an option
unfoldable pub tag_settings : List ℕ → List ℕ → ℕ → List Setting
tag_settings block ack tag =
    if is_left_out tag then []
    else (if is_named_file ack tag then option_setting block (Tag tag) (file_name ack) ∷ []
    else value_settings block (Tag tag) tag (options_in ack))

-- the setting of an option within option 175
abbrev pub within_settings : List ℕ → List TagValue → ℕ → List Setting
within_settings block os inner = value_settings block (Sub 175 inner) inner os

unfoldable pub inner_settings : List ℕ → List ℕ → ℕ → List Setting
inner_settings block ack inner = within_settings block (options_within ack) inner

-- an address that a field of the message holds
abbrev pub address_at : ℕ → List ℕ → ℕ
address_at place ack = from_be_bytes w32 (field place 4 ack)

abbrev pub address_setting : List ℕ → List ℕ → ℕ → Setting
address_setting block name address = setting_of block (Free name) Ipv4 (to_be_bytes w32 address)

-- `ip` is the client's address, and `next-server` the next server's where there is one
unfoldable pub address_settings : List ℕ → ℕ → ℕ → List Setting
address_settings block yours next =
    address_setting block (codes "ip") yours
    ∷ (if next == 0 then [] else address_setting block (codes "next-server") next ∷ [])

-- the settings of the numbers from 1 on, so many
unfoldable pub numbered : (ℕ → List Setting) → ℕ → List Setting
numbered settings count = flat_map settings (range_with_len 1 count)

-- the settings of a lease, in this order: its options 1 to 254, those within 175, and its addresses
unfoldable pub lease_settings : List ℕ → List ℕ → List Setting
lease_settings block ack =
    (numbered (tag_settings block ack) 254 ++ numbered (inner_settings block ack) 254)
    ++ address_settings block (address_at 16 ack) (address_at 20 ack)

-- the last byte of a value with a sign, 0 where there is none
abbrev pub last_signed : List ℕ → ℤ
last_signed [] = pos 0
last_signed (byte ∷ bytes) = cast_signed w8 (slice_index (byte ∷ bytes) (length bytes))

-- the priority of a lease's block: that of option 175.1, or 0
unfoldable pub lease_priority : List TagValue → ℤ
lease_priority os = if is_value 1 os then last_signed (joined 1 os) else pos 0

-- the table with a block that has the settings of a lease, and no others
abbrev pub leased : List ℕ → List ℕ → TableLists → TableLists
leased block ack table = record {
  blocks = with_block (block_of block (lease_priority (options_within ack))) table.blocks;
  settings = without_block block table.settings ++ lease_settings block ack;
}

-- why a block doesn't get these settings alone, if it doesn't: there are over 128, or it can't be registered
abbrev pub fill_refusal : List ℕ → List Setting → TableLists → Option SetError
fill_refusal block settings table =
    if nat_lt 128 (length settings) then Some TooMany else register_refusal block table

-- why a lease isn't taken, if it isn't
abbrev pub lease_refusal : List ℕ → List ℕ → TableLists → Option SetError
lease_refusal block ack table = fill_refusal block (lease_settings block ack) table

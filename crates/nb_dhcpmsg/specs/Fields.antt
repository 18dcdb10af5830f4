-- RFC 2132, section 2, as functions of the bytes: the options that a field, a value and a message begin with
use Rattle.std.specs.Prelude.{ℕ, zero, suc, ◌==◌, ◌&&◌, not, Bool, true, false, List, [], ◌∷◌, ◌++◌, length, take, drop, position, slice_index, nat_le, nat_lt, Option, Some, None, if◌then◌else◌}
use Rattle.std.specs.Int.{from_be_bytes, w32}
use Rattle.std.specs.Option.{option_map, option_map_or, option_and_then}
use Rattle.std.specs.Str.{bytes_eq}
use Rattle.nb_dhcpmsg.specs.Options.{TagValue, tag_value, joined}
use Rattle.nb_dhcpmsg.specs.Messages.{MessageParts, field, only, overload, has_file, has_sname, used_if}

-- the options before the first one that goes past the end, and whether there is no such one
pub record FieldRead : Type 0 where
  pub options : List TagValue
  pub whole : Bool

abbrev pub field_read : List TagValue → Bool → FieldRead
field_read options whole = record { options = options; whole = whole }

abbrev pub led_by : TagValue → FieldRead → FieldRead
led_by o read = field_read (o ∷ read.options) read.whole

-- what bytes hold after so many of them: 0 is padding, 255 ends them
unfoldable pub read_from : ℕ → List ℕ → FieldRead
read_from skipped [] = field_read [] true
read_from (suc skipped) (byte ∷ bytes) = read_from skipped bytes
read_from zero (tag ∷ bytes) =
    if tag == 0 then read_from 0 bytes
    else (if nat_lt 254 tag then field_read [] (tag == 255)
    else (if nat_lt (length bytes) (suc (slice_index bytes 0)) then field_read [] false
    else led_by (tag_value tag (take (slice_index bytes 0) (drop 1 bytes))) (read_from (suc (slice_index bytes 0)) bytes)))

-- the options within a value: they are read as those of a field, and one that goes past the end ends them
abbrev pub inner_options : List ℕ → List TagValue
inner_options value = (read_from 0 value).options

-- the fields of a message that options may stand in
abbrev pub main_read : List ℕ → FieldRead
main_read bytes = read_from 0 (drop 240 bytes)

abbrev pub overload_in : List ℕ → Option ℕ
overload_in bytes = overload (main_read bytes).options

abbrev pub file_read : List ℕ → FieldRead
file_read bytes = read_from 0 (used_if (has_file (overload_in bytes)) (field 108 128 bytes))

abbrev pub sname_read : List ℕ → FieldRead
sname_read bytes = read_from 0 (used_if (has_sname (overload_in bytes)) (field 44 64 bytes))

-- a message's options, where all of them are whole
unfoldable pub message_options : List ℕ → Option (List TagValue)
message_options bytes =
    if (main_read bytes).whole && (file_read bytes).whole && (sname_read bytes).whole
    then Some ((main_read bytes).options ++ ((file_read bytes).options ++ (sname_read bytes).options))
    else None

abbrev pub parts_in : List ℕ → ℕ → MessageParts
parts_in bytes kind = record {
  op = slice_index bytes 0;
  xid = from_be_bytes w32 (field 4 4 bytes);
  yiaddr = from_be_bytes w32 (field 16 4 bytes);
  siaddr = from_be_bytes w32 (field 20 4 bytes);
  chaddr = field 28 6 bytes;
  kind = kind;
}

abbrev pub begins_options : List ℕ → Bool
begins_options bytes = nat_le 240 (length bytes) && bytes_eq (field 236 4 bytes) (99 ∷ 130 ∷ 83 ∷ 99 ∷ [])

-- the message that the bytes are, if they are one
unfoldable pub message_in : List ℕ → Option MessageParts
message_in bytes =
    if begins_options bytes
    then option_and_then (λ os. option_map (parts_in bytes) (only (joined 53 os))) (message_options bytes)
    else None

-- the address that a value begins with
abbrev pub address_in : List ℕ → Option ℕ
address_in value = if nat_le 4 (length value) then Some (from_be_bytes w32 (take 4 value)) else None

-- the bytes before the first zero byte; all of them where there is none
abbrev pub up_to_zero : List ℕ → List ℕ
up_to_zero bytes = option_map_or (λ end. take end bytes) (position (λ byte. byte == 0) bytes) bytes

-- the name in the field for a file's name, where that field holds no options
abbrev pub file_name : List ℕ → List ℕ
file_name bytes = used_if (not (has_file (overload_in bytes))) (up_to_zero (field 108 128 bytes))

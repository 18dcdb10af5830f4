-- Reading as a function of the bytes, one for each function of the program. That it is the grammar of
-- Packets, in both directions, is what `Tftp::read` promises.
use Rattle.std.specs.Prelude.{ℕ, ◌^◌, ◌==◌, ◌&&◌, true, false, List, [], ◌∷◌, Option, Some, None, codes, if◌then◌else◌}
use Rattle.std.specs.Int.{from_be_bytes, w16}
use Rattle.std.specs.Option.{option_map, option_and_then, is_none}
use Rattle.std.specs.Str.{bytes_eq}
use Rattle.nb_tftpmsg.specs.Texts.{text_at, text_before, decimal}
use Rattle.nb_tftpmsg.specs.Options.{is_option_name}
use Rattle.nb_tftpmsg.specs.Packets.{Message, rrq, block, ack, error, oack, request_tail}

-- the values found so far
pub record FoundValues : Type 0 where
  pub blksize : Option ℕ
  pub tsize : Option ℕ

abbrev pub nothing_found : FoundValues
nothing_found = record { blksize = None; tsize = None }

-- with one option more
abbrev pub with_option : FoundValues → List ℕ → List ℕ → Option FoundValues
with_option found name value =
    if is_none found.blksize && is_option_name (codes "blksize") name
    then option_map (λ n. record found { blksize = Some n }) (decimal (2 ^ 16) value)
    else (if is_none found.tsize && is_option_name (codes "tsize") name
    then option_map (λ n. record found { tsize = Some n }) (decimal (2 ^ 32) value)
    else Some found)

-- with the first of the options that the bytes begin with, and the bytes after it
abbrev pub with_first : FoundValues → List ℕ → Option (FoundValues × List ℕ)
with_first found bytes =
    option_and_then
    (λ name. option_and_then (λ value. option_map (λ more. (more, value.1)) (with_option found name.0 value.0)) (text_at name.1))
    (text_at bytes)

-- a byte before the first of some texts
abbrev pub in_front : ℕ → List (List ℕ) → Option (List (List ℕ))
in_front byte [] = None
in_front byte (text ∷ texts) = Some ((byte ∷ text) ∷ texts)

-- the texts that the bytes are, each with its zero byte
abbrev pub texts : List ℕ → Option (List (List ℕ))
texts [] = Some []
texts (byte ∷ bytes) = if byte == 0 then option_map (λ found. [] ∷ found) (texts bytes) else option_and_then (in_front byte) (texts bytes)

-- names and values in turn
abbrev pub pairs_reading : FoundValues → List (List ℕ) → Option FoundValues
pairs_reading found [] = Some found
pairs_reading found (name ∷ []) = None
pairs_reading found (name ∷ value ∷ rest) = option_and_then (λ more. pairs_reading more rest) (with_option found name value)

abbrev pub options_reading : List ℕ → Option FoundValues
options_reading bytes = option_and_then (pairs_reading nothing_found) (texts bytes)

abbrev pub request_reading : List ℕ → Option Message
request_reading body =
    option_and_then
    (λ found.
    if bytes_eq found.1 (request_tail false)
    then Some (rrq found.0 false)
    else (if bytes_eq found.1 (request_tail true) then Some (rrq found.0 true) else None))
    (text_at body)

abbrev pub block_reading : List ℕ → Option Message
block_reading (high ∷ low ∷ bytes) = Some (block (from_be_bytes w16 (high ∷ low ∷ [])) bytes)
block_reading (high ∷ []) = None
block_reading [] = None

abbrev pub ack_reading : List ℕ → Option Message
ack_reading (high ∷ low ∷ []) = Some (ack (from_be_bytes w16 (high ∷ low ∷ [])))
ack_reading (high ∷ low ∷ more ∷ bytes) = None
ack_reading (high ∷ []) = None
ack_reading [] = None

abbrev pub error_reading : List ℕ → Option Message
error_reading (high ∷ low ∷ rest) = Some (error (from_be_bytes w16 (high ∷ low ∷ [])) (text_before rest))
error_reading (high ∷ []) = None
error_reading [] = None

abbrev pub oack_reading : List ℕ → Option Message
oack_reading body = option_map (λ found. oack found.blksize found.tsize) (options_reading body)

abbrev pub body_reading : ℕ → List ℕ → Option Message
body_reading code body =
    if code == 1 then request_reading body
    else (if code == 3 then block_reading body
    else (if code == 4 then ack_reading body
    else (if code == 5 then error_reading body
    else (if code == 6 then oack_reading body else None))))

abbrev pub packet_read : List ℕ → Option Message
packet_read (zero_byte ∷ code ∷ body) = if zero_byte == 0 then body_reading code body else None
packet_read (zero_byte ∷ []) = None
packet_read [] = None

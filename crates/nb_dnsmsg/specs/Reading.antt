-- RFC 1035, sections 3.1, 4.1 and 4.1.4: how bytes are read as a message, and what they answer
use Rattle.std.specs.Prelude.{◌+◌, ◌-◌, ◌*◌, ◌^◌, ◌==◌, ◌&&◌, ℕ, zero, suc, Bool, List, [], ◌∷◌, ◌++◌, length, take, drop, nat_le, nat_lt, Option, Some, None, if◌then◌else◌}
use Rattle.std.specs.Int.{from_be_bytes, w32}
use Rattle.std.specs.Option.{option_map, option_and_then}
use Rattle.nb_dnsmsg.specs.declared.answer.Answer.{Answer}
use Rattle.nb_dnsmsg.specs.Records.{RecordData, host_address, alias_name, other_data, ResourceRecord, resource_record, number_at}
use Rattle.nb_dnsmsg.specs.Messages.{DnsMessage, is_same_name, dns_answer_read}

-- what a name goes on with: the root, a label with what stands after it, a place to which a pointer leads,
-- or nothing that a name goes on with
pub data Piece : Type 0 where
  root_piece : Piece
  label_piece : (label : List ℕ) → Piece
  pointer_piece : (target : ℕ) → Piece
  no_piece : Piece

-- a label of a length, where so many bytes follow
abbrev pub label_of : ℕ → List ℕ → Piece
label_of size bytes = if nat_le size (length bytes) then label_piece (take size bytes) else no_piece

-- a pointer, whose second byte is the first of these
abbrev pub pointer_of : ℕ → List ℕ → Piece
pointer_of high [] = no_piece
pointer_of high (low ∷ bytes) = pointer_piece ((high - 192) * 256 + low)

-- what these bytes begin with, by their first one
abbrev pub piece_of : List ℕ → Piece
piece_of [] = no_piece
piece_of (first ∷ bytes) =
    if first == 0 then root_piece
    else if nat_lt first 64 then label_of first bytes
    else if nat_le 192 first then pointer_of first bytes
    else no_piece

-- a label stands before the rest of a name
abbrev pub with_label : List ℕ → List ℕ × ℕ → List ℕ × ℕ
with_label label read = (length label ∷ (label ++ read.0), read.1)

-- a pointer ends a name after its two bytes, wherever it leads
abbrev pub ends_after : ℕ → List ℕ × ℕ → List ℕ × ℕ
ends_after place read = (read.0, place + 2)

-- The rest of a name by the piece at its place, in the part that began at `part`, and where it ends in the
-- message. What follows a piece is read from a part and a place; a pointer leads to a place before its part.
abbrev pub rest_by : (ℕ → ℕ → Option (List ℕ × ℕ)) → ℕ → ℕ → Piece → Option (List ℕ × ℕ)
rest_by reads part place root_piece = Some (0 ∷ [], place + 1)
rest_by reads part place (label_piece label) = option_map (with_label label) (reads part (place + (1 + length label)))
rest_by reads part place (pointer_piece target) =
    if nat_lt target part then option_map (ends_after place) (reads target target) else None
rest_by reads part place no_piece = None

-- the rest of a name at a place, of at most so many pieces
unfoldable pub rest_read : ℕ → List ℕ → ℕ → ℕ → Option (List ℕ × ℕ)
rest_read zero message part place = None
rest_read (suc n) message part place = rest_by (rest_read n message) part place (piece_of (drop place message))

-- a name has no more pieces than this: each label goes on in its part, and each pointer leads to an earlier one
abbrev pub most_pieces : List ℕ → ℕ → ℕ
most_pieces message place = suc place * suc (length message)

abbrev pub name_within_limit : Option (List ℕ × ℕ) → Option (List ℕ × ℕ)
name_within_limit None = None
name_within_limit (Some name) = if nat_le (length name.0) 255 then Some name else None

-- the name at a place, of at most 255 bytes, and where it ends
unfoldable pub dns_name_read : List ℕ → ℕ → Option (List ℕ × ℕ)
dns_name_read message place = name_within_limit (rest_read (most_pieces message place) message place place)

-- an alias's name, which fills its data up to this place
abbrev pub alias_read : ℕ → Option (List ℕ × ℕ) → Option RecordData
alias_read end None = None
alias_read end (Some name) = if name.1 == end then Some (alias_name name.0) else None

-- the data of a type and a class, so many bytes from a place on
unfoldable pub data_read : List ℕ → ℕ → ℕ → ℕ → ℕ → Option RecordData
data_read message kind class place size =
    if kind == 1 && class == 1 && size == 4 then Some (host_address (from_be_bytes w32 (take 4 (drop place message))))
    else if kind == 5 && class == 1 then alias_read (place + size) (dns_name_read message place)
    else Some other_data

-- where the data of a record end, by where its owner's name ends
abbrev pub data_end : List ℕ → ℕ → ℕ
data_end message fields = fields + 10 + number_at (fields + 8) message

abbrev pub with_data : List ℕ → ℕ → RecordData → ResourceRecord × ℕ
with_data owner end rdata = (resource_record owner rdata, end)

-- the record of an owner whose name has been read
abbrev pub record_by : List ℕ → List ℕ × ℕ → Option (ResourceRecord × ℕ)
record_by message name =
    if nat_le (data_end message name.1) (length message)
    then option_map (with_data name.0 (data_end message name.1))
    (data_read message (number_at name.1 message) (number_at (name.1 + 2) message) (name.1 + 10) (number_at (name.1 + 8) message))
    else None

-- the record at a place, and where it ends
unfoldable pub record_read : List ℕ → ℕ → Option (ResourceRecord × ℕ)
record_read message place = option_and_then (record_by message) (dns_name_read message place)

abbrev pub led_by_record : ResourceRecord → List ResourceRecord × ℕ → List ResourceRecord × ℕ
led_by_record r rest = (r ∷ rest.0, rest.1)

-- so many records one after another, and where the last one ends
unfoldable pub records_read : ℕ → List ℕ → ℕ → Option (List ResourceRecord × ℕ)
records_read zero message place = Some ([], place)
records_read (suc n) message place =
    option_and_then (λ r. option_map (led_by_record r.0) (records_read n message r.1)) (record_read message place)

-- the answers of a message, where after them stand the records of authority and the additional ones, as
-- many as its header counts
abbrev pub before_additional : List ℕ → List ResourceRecord → List ResourceRecord × ℕ → Option (List ResourceRecord)
before_additional bytes answers authority = option_map (λ additional. answers) (records_read (number_at 10 bytes) bytes authority.1)

abbrev pub before_authority : List ℕ → List ResourceRecord × ℕ → Option (List ResourceRecord)
before_authority bytes answers = option_and_then (before_additional bytes answers.0) (records_read (number_at 8 bytes) bytes answers.1)

-- the answers of a message whose question ends here, where all records that its header counts stand in it
unfoldable pub answers_read : List ℕ → ℕ → Option (List ResourceRecord)
answers_read bytes end = option_and_then (before_authority bytes) (records_read (number_at 6 bytes) bytes end)

-- a message with the question of a name that ends here
abbrev pub message_with : List ℕ → List ℕ × ℕ → List ResourceRecord → DnsMessage
message_with bytes name answers = record {
  id = number_at 0 bytes;
  flags = number_at 2 bytes;
  name = name.0;
  kind = number_at name.1 bytes;
  class = number_at (name.1 + 2) bytes;
  answers = answers;
}

abbrev pub message_by : List ℕ → List ℕ × ℕ → Option DnsMessage
message_by bytes name =
    if nat_le (name.1 + 4) (length bytes) then option_map (message_with bytes name) (answers_read bytes (name.1 + 4)) else None

-- the message of one question that the bytes begin with
unfoldable pub dns_message_in : List ℕ → Option DnsMessage
dns_message_in bytes =
    if nat_le 12 (length bytes) && number_at 4 bytes == 1 then option_and_then (message_by bytes) (dns_name_read bytes 12) else None

-- the message answers the question for the addresses of a name
abbrev pub answers_question : ℕ → List ℕ → DnsMessage → Bool
answers_question id name m = m.id == id && nat_le (2 ^ 15) m.flags && is_same_name m.name name && m.kind == 1 && m.class == 1

abbrev pub dns_answer_to : ℕ → List ℕ → DnsMessage → Option Answer
dns_answer_to id name m = if answers_question id name m then Some (dns_answer_read m) else None

-- the answer that the bytes are to the question of this number for this name
unfoldable pub dns_answer : List ℕ → ℕ → List ℕ → Option Answer
dns_answer bytes id name = option_and_then (dns_answer_to id name) (dns_message_in bytes)

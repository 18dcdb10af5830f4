-- RFC 9293: the segments of the HTTP server
use Rattle.std.specs.Prelude.{ℕ, ◌+◌, ◌-◌, min, ◌%◌, ◌^◌, ◌==◌, Bool, List, [], length, Option, Some, None, if◌then◌else◌}
use Rattle.nb_tcpseg.specs.SegmentText.{SegmentParts}
use Rattle.nb_lab.specs.declared.hosts.Peer.{Peer}
use Rattle.nb_lab.specs.declared.piece.Piece.{Piece}
use Rattle.nb_lab.specs.declared.connection.StreamPart.{StreamPart}
use Rattle.nb_lab.specs.declared.connection.StreamPart.TheVariants.{Opening, Bytes, Acknowledgement}
use Rattle.nb_lab.specs.Pages.{response_text, response_piece}

-- the sequence number of the first byte of each response, 511 before 2^32, and that of another place
abbrev pub first_byte : ℕ
first_byte = 0xfffffe01

abbrev pub sequence_number_at : ℕ → ℕ
sequence_number_at place = (first_byte + place) % 2 ^ 32

-- how many bytes a piece has: no more than a segment may have, than the peer has room for, and than there are
abbrev pub piece_len : Piece → ℕ
piece_len p = min (min (length (response_text p.page) - p.from) 1000) p.room

-- the place after it
abbrev pub piece_end : Piece → ℕ
piece_end p = p.from + piece_len p

-- a piece ends its response
abbrev pub is_last : Piece → Bool
is_last p = piece_end p == length (response_text p.page)

-- the place after a piece, and after the FIN that goes with the last one
abbrev pub sent_by : Piece → ℕ
sent_by p = if is_last p then piece_end p + 1 else piece_end p

-- the sequence number of what is sent; a SYN has the one before the first byte
abbrev pub part_sequence_number : StreamPart → ℕ
part_sequence_number Opening = 0xfffffe00
part_sequence_number (Bytes p) = sequence_number_at p.from
part_sequence_number (Acknowledgement place) = sequence_number_at place

-- SYN and ACK; PSH and ACK, with FIN where the response ends; ACK
abbrev pub part_flags : StreamPart → ℕ
part_flags Opening = 18
part_flags (Bytes p) = if is_last p then 25 else 24
part_flags (Acknowledgement place) = 16

abbrev pub part_mss : StreamPart → Option ℕ
part_mss Opening = Some 1460
part_mss (Bytes p) = None
part_mss (Acknowledgement place) = None

-- a piece has the response's bytes at its place
abbrev pub part_body : StreamPart → List ℕ
part_body Opening = []
part_body (Bytes p) = response_piece p.page p.from (piece_len p)
part_body (Acknowledgement place) = []

-- the segment to a peer of whom this number is expected next
abbrev pub segment_to_peer : Peer → ℕ → StreamPart → SegmentParts
segment_to_peer peer expected sent = record {
  src_port = 80;
  dst_port = peer.port;
  seq = part_sequence_number sent;
  ack = expected;
  flags = part_flags sent;
  window = 65535;
  mss = part_mss sent;
  body = part_body sent;
}

-- RFC 9293, section 3.10.7: a connection to the HTTP server
use Rattle.std.specs.Prelude.{ℕ, ◌+◌, ◌-◌, ◌%◌, ◌^◌, ◌==◌, ◌&&◌, min, max, Bool, false, bit_and, [], length, nat_lt, nat_le, Option, Some, None, unwrap_or, if◌then◌else◌}
use Rattle.nb_tcpseg.specs.SegmentText.{SegmentParts}
use Rattle.nb_lab.specs.declared.hosts.Peer.{Peer}
use Rattle.nb_lab.specs.declared.page.Page.{Page}
use Rattle.nb_lab.specs.declared.piece.Piece.{Piece}
use Rattle.nb_lab.specs.declared.connection.StreamPart.{StreamPart}
use Rattle.nb_lab.specs.declared.connection.StreamPart.TheVariants.{Opening, Bytes}
use Rattle.nb_lab.specs.declared.connection.State.{State}
use Rattle.nb_lab.specs.declared.connection.State.TheVariants.{Opened, Reading, Sending, Sent, Closed}
use Rattle.nb_lab.specs.declared.connection.Connection.{Connection}
use Rattle.nb_lab.specs.Files.{no_silence}
use Rattle.nb_lab.specs.Pages.{response_text}
use Rattle.nb_lab.specs.Streams.{first_byte, sent_by}

-- whether a segment has this flag
abbrev pub carries_flag : SegmentParts → ℕ → Bool
carries_flag s flag = nat_lt 0 (bit_and s.flags flag)

-- the place that an acknowledgement is of, from the first byte of the response
abbrev pub place_of_ack : SegmentParts → ℕ
place_of_ack s = (s.ack + (2 ^ 32 - first_byte)) % 2 ^ 32

-- what waits for its acknowledgement
abbrev pub waiting_part : State → Option StreamPart
waiting_part Opened = Some Opening
waiting_part Reading = None
waiting_part (Sending p) = Some (Bytes p)
waiting_part (Sent place) = None
waiting_part Closed = None

-- a SYN is answered: 536 bytes are the most of a segment where it names no number
abbrev pub opened : Peer → SegmentParts → Connection
opened peer syn = record {
  peer = peer;
  expected = (syn.seq + 1) % 2 ^ 32;
  most = max (unwrap_or syn.mss 536) 1;
  request = record { items = [] };
  state = Opened;
  silence = no_silence;
}

-- the response's bytes from a place on, by what the peer has room for, but at least one
abbrev pub piece_from : Connection → Page → ℕ → ℕ → Piece
piece_from c page from window = record { page = page; from = from; room = min c.most (max window 1) }

abbrev pub sends : Connection → Piece → Connection
sends c p = record c { state = Sending p; silence = no_silence }

-- whether an acknowledgement of a place advances while this piece waits for it
abbrev pub advances_piece : Piece → ℕ → Bool
advances_piece p place = nat_lt p.from place && nat_le place (sent_by p)

-- all bytes and the FIN are acknowledged, or the next piece begins at the first byte that isn't
abbrev pub advanced : Connection → Piece → ℕ → ℕ → Connection
advanced c p place window =
    if advances_piece p place
    then (if nat_lt (length (response_text p.page)) place then record c { state = Sent place } else sends c (piece_from c p.page place window))
    else c

-- an acknowledgement, by the state
abbrev pub acknowledged_by : Connection → ℕ → ℕ → State → Connection
acknowledged_by c place window Opened = if place == 0 then record c { state = Reading } else c
acknowledged_by c place window Reading = c
acknowledged_by c place window (Sending p) = advanced c p place window
acknowledged_by c place window (Sent last) = c
acknowledged_by c place window Closed = c

abbrev pub after_ack : Connection → SegmentParts → Connection
after_ack c s = acknowledged_by c (place_of_ack s) s.window c.state

-- whether an acknowledgement of a place advances, by the state
abbrev pub advances_by : State → ℕ → Bool
advances_by Opened place = false
advances_by Reading place = false
advances_by (Sending p) place = advances_piece p place
advances_by (Sent last) place = false
advances_by Closed place = false

-- what is sent for it: the next piece, where it advances and bytes or the FIN are left
abbrev pub next_part : Connection → SegmentParts → Option StreamPart
next_part c s = if advances_by c.state (place_of_ack s) then waiting_part (after_ack c s).state else None

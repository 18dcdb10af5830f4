-- RFC 9293, section 3.10.7.1: the answer to a segment for a port that isn't bound
use Rattle.std.specs.Prelude.{ℕ, ◌+◌, ◌%◌, ◌^◌, ◌==◌, Bool, true, false, not, bit_and, [], length, None, if◌then◌else◌}
use Rattle.nb_tcpseg.specs.SegmentText.{SegmentParts}

-- this flag is set
abbrev pub has_flag : ℕ → SegmentParts → Bool
has_flag flag s = not (bit_and s.flags flag == 0)

-- the sequence numbers that a flag takes
abbrev pub flag_length : Bool → ℕ
flag_length true = 1
flag_length false = 0

-- the sequence numbers that a segment takes: one for each byte, and one each for SYN (2) and FIN (1)
abbrev pub sequence_length : SegmentParts → ℕ
sequence_length s = length s.body + flag_length (has_flag 2 s) + flag_length (has_flag 1 s)

-- a segment of a header alone that answers this one, with these numbers and flags
abbrev pub segment_answer : SegmentParts → ℕ → ℕ → ℕ → SegmentParts
segment_answer s seq ack flags =
    record { src_port = s.dst_port; dst_port = s.src_port; seq = seq; ack = ack; flags = flags; window = 0; mss = None; body = [] }

-- A segment with ACK (16) is reset (RST, 4) at the number that it acknowledges; another is acknowledged and reset.
abbrev pub reset_of : SegmentParts → SegmentParts
reset_of s =
    if has_flag 16 s
    then segment_answer s s.ack 0 4
    else segment_answer s 0 ((s.seq + sequence_length s) % 2 ^ 32) 20

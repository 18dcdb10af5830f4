-- RFC 9293: a connection after the segments that it received and the text that it was given to send
use Rattle.std.specs.Prelude.{ℕ, ◌+◌, ◌-◌, ◌%◌, ◌^◌, ◌==◌, ◌&&◌, ◌||◌, Bool, false, not, min, max, List, [], ◌++◌, length, fold, Option, Some, None, nat_lt, nat_le, if◌then◌else◌}
use Rattle.std.specs.Option.{option_map_or}
use Rattle.nb_streams.specs.Segments.{Incoming, Arrival, ahead, is_forward, places}
use Rattle.nb_streams.specs.Streams.{HeldBytes, nothing_held, next, with_pairs, stop_at}

-- what came to a connection, in order: a segment, a time, more text to send
pub data TcpCall : Type 0 where
  segment_came : Arrival → (now : ℕ) → TcpCall
  time_came : (now : ℕ) → TcpCall
  text_came : (bytes : List ℕ) (now : ℕ) → TcpCall

-- the width of the window that the client offers (RFC 9293, section 3.8.6.2)
abbrev pub full_window : ℕ
full_window = 65535

-- An established connection. The first bytes of the two streams have the numbers ours and theirs. Bytes below acked
-- are acknowledged, those below sent were sent, and the one segment that isn't acknowledged has those below upto.
pub record Flow : Type 0 where
  pub ours : ℕ
  pub theirs : ℕ
  pub held : HeldBytes
  pub text : List ℕ
  pub acked : ℕ
  pub upto : ℕ
  pub sent : ℕ
  pub mss : ℕ
  pub room : ℕ

-- how far a segment's acknowledgement is ahead of the first byte that isn't acknowledged
abbrev pub advance_of : Flow → Incoming → ℕ
advance_of f s = ahead (f.ours + f.acked) s.acknowledges

-- it acknowledges what was never sent
abbrev pub is_beyond : Flow → Incoming → Bool
is_beyond f s = is_forward (advance_of f s) && nat_lt f.sent (f.acked + advance_of f s)

-- the segment counts for the stream
abbrev pub is_taken : Flow → Incoming → Bool
is_taken f s = s.ack && (not s.syn && (not s.rst && not (is_beyond f s)))

-- an acknowledgement within what was sent, of no less than any before
abbrev pub is_current : Flow → Incoming → Bool
is_current f s = is_forward (advance_of f s)

abbrev pub advances : Flow → Incoming → Bool
advances f s = is_current f s && nat_lt 0 (advance_of f s)

abbrev pub place_within : ℕ → ℕ → Option ℕ
place_within n distance = if nat_le distance full_window then Some (n + distance) else None

-- the place of the segment's FIN, where it has one in the window or just after it
abbrev pub stop_of : Flow → Incoming → Option ℕ
stop_of f s = if s.fin then place_within (next f.held) (ahead (f.theirs + next f.held) (s.number + length s.body)) else None

-- the segment's bytes in the window
abbrev pub window_bytes : Flow → Incoming → List (ℕ × ℕ)
window_bytes f s = places full_window f.theirs (next f.held) s.number s.body

-- the same connection with a segment's bytes, end, acknowledgement and window
abbrev pub with_segment : Incoming → Flow → Flow
with_segment s f = record f {
  held = with_pairs (window_bytes f s) (stop_at (stop_of f s) f.held);
  acked = if is_current f s then f.acked + advance_of f s else f.acked;
  room = if is_current f s then s.window else f.room;
}

-- how many bytes a segment may have
abbrev pub size : Flow → ℕ
size f = min (min (max f.mss 1) (max f.room 1)) 1460

abbrev pub sending_to : ℕ → Flow → Flow
sending_to upto f = record f { upto = upto; sent = max f.sent upto }

-- a new segment of the text, from the first byte that isn't acknowledged
abbrev pub sends_next : Flow → Flow
sends_next f = sending_to (min (f.acked + size f) (length f.text)) f

-- there is text left, and none that was sent waits to be acknowledged
abbrev pub is_free : Flow → Bool
is_free f = f.acked == f.sent && nat_lt f.acked (length f.text)

-- a new segment begins where the last one was acknowledged, in part or whole, and where nothing is unacknowledged
abbrev pub is_sending : Bool → Flow → Bool
is_sending advanced f = (advanced && nat_lt f.acked f.sent) || is_free f

abbrev pub going_on : Bool → Flow → Flow
going_on advanced f = if is_sending advanced f then sends_next f else f

abbrev pub after_segment : Flow → Incoming → Flow
after_segment f s = if is_taken f s then going_on (advances f s) (with_segment s f) else f

abbrev pub after_text : Flow → List ℕ → Flow
after_text f bytes = going_on false (record f { text = f.text ++ bytes })

-- A segment that answers the client's SYN, whose number is isn, and one that establishes the connection.
abbrev pub answers_syn : ℕ → Incoming → Bool
answers_syn isn s = s.ack && s.acknowledges == (isn + 1) % 2 ^ 32

abbrev pub establishes : ℕ → Incoming → Bool
establishes isn s = answers_syn isn s && (s.syn && not s.rst)

-- the connection that the peer's SYN establishes, and the same with the text that waited under way
abbrev pub opened_by : ℕ → List ℕ → Incoming → Flow
opened_by isn text s = record {
  ours = isn + 1;
  theirs = s.number + 1;
  held = nothing_held;
  text = text;
  acked = 0;
  upto = 0;
  sent = 0;
  mss = option_map_or (λ m. m) s.mss 536;
  room = s.window;
}

abbrev pub established : ℕ → List ℕ → Incoming → Flow
established isn text s = going_on false (opened_by isn text s)

-- a connection that is asked for, with the text that waits, and one that is established
pub data ConnPhase : Type 0 where
  asking : (text : List ℕ) → ConnPhase
  flowing : Flow → ConnPhase

abbrev pub after_arrival : ℕ → ConnPhase → Incoming → ConnPhase
after_arrival isn (asking text) s = if establishes isn s then flowing (established isn text s) else asking text
after_arrival isn (flowing f) s = flowing (after_segment f s)

abbrev pub after_more_text : ConnPhase → List ℕ → ConnPhase
after_more_text (asking text) bytes = asking (text ++ bytes)
after_more_text (flowing f) bytes = flowing (after_text f bytes)

abbrev pub after_tcp_call : ℕ → ConnPhase → TcpCall → ConnPhase
after_tcp_call isn p (segment_came m now) = after_arrival isn p m.segment
after_tcp_call isn p (time_came now) = p
after_tcp_call isn p (text_came bytes now) = after_more_text p bytes

-- the connection after these calls
unfoldable pub conn_phase : ℕ → List TcpCall → ConnPhase
conn_phase isn calls = fold (after_tcp_call isn) (asking []) calls

abbrev pub held_in : ConnPhase → HeldBytes
held_in (asking text) = nothing_held
held_in (flowing f) = f.held

-- what has come of the stream
abbrev pub held_after : ℕ → List TcpCall → HeldBytes
held_after isn calls = held_in (conn_phase isn calls)

-- the last segment has a second FIN, at another place than the end
abbrev pub is_other : Option ℕ → Option ℕ → Bool
is_other None new = false
is_other (Some stop) None = false
is_other (Some stop) (Some new) = not (new == stop)

abbrev pub has_other_stop : Flow → Incoming → Bool
has_other_stop f s = is_taken f s && is_other f.held.stop (stop_of f s)

abbrev pub is_past : ℕ × ℕ → Bool
is_past pair = nat_le (2 ^ 31 - 1) pair.0

-- RFC 9293: what a connection sends, as a relation on what it may, and as a function of each call
use Rattle.std.specs.Prelude.{◌≡◌, ◌≤◌, ◌<◌, ℕ, ◌+◌, ◌-◌, ◌%◌, ◌^◌, ◌==◌, ◌&&◌, ◌||◌, not, Bool, true, false, List, [], ◌∷◌, ◌++◌, length, take, drop, Option, Some, None, nat_lt, if◌then◌else◌}
use Rattle.std.specs.List.{list_any}
use Rattle.nb_streams.specs.Segments.{Incoming, ahead}
use Rattle.nb_streams.specs.Streams.{HeldBytes, next, has_ended}
use Rattle.nb_streams.specs.Flows.{TcpCall, full_window, Flow, ConnPhase, asking, flowing, conn_phase, is_beyond, is_taken, is_sending, advances, with_segment, going_on, answers_syn, establishes, opened_by, window_bytes, is_past}

-- a segment that is sent; the flags are FIN 1, SYN 2, RST 4, PSH 8 and ACK 16
pub record Outgoing : Type 0 where
  pub number : ℕ
  pub acknowledges : ℕ
  pub flags : ℕ
  pub window : ℕ
  pub mss : Option ℕ
  pub body : List ℕ

abbrev pub wrapped : ℕ → ℕ
wrapped n = n % 2 ^ 32

abbrev pub syn : ℕ → Outgoing
syn isn = record { number = wrapped isn; acknowledges = 0; flags = 2; window = full_window; mss = Some 1460; body = [] }

-- a FIN that was reached counts one
abbrev pub acknowledged_place : HeldBytes → ℕ
acknowledged_place h = next h + (if has_ended h then 1 else 0)

-- the number that the connection acknowledges
abbrev pub acknowledged_number : Flow → ℕ
acknowledged_number f = wrapped (f.theirs + acknowledged_place f.held)

-- a segment with a place of ours, and its flags
abbrev pub segment_at : ℕ → ℕ → List ℕ → ℕ → Flow → Outgoing
segment_at flags width bytes place f = record { number = wrapped (f.ours + place); acknowledges = acknowledged_number f; flags = flags; window = width; mss = None; body = bytes }

abbrev pub pure_ack : Flow → Outgoing
pure_ack f = segment_at 16 full_window [] f.sent f

-- the segment that isn't acknowledged
abbrev pub text_segment : Flow → Outgoing
text_segment f = segment_at 24 full_window (take (f.upto - f.acked) (drop f.acked f.text)) f.acked f

-- one below the next number
abbrev pub probe : Flow → Outgoing
probe f = record (segment_at 16 full_window [] f.sent f) { number = (f.ours + f.sent + (2 ^ 32 - 1)) % 2 ^ 32 }

abbrev pub fin_ack : Flow → Outgoing
fin_ack f = segment_at 17 full_window [] f.sent f

-- a reset that closes acknowledges what has come, without the one for a FIN
abbrev pub rst_ack_at : ℕ → Flow → Outgoing
rst_ack_at place f = record (segment_at 20 0 [] place f) { acknowledges = wrapped (f.theirs + next f.held) }

abbrev pub rst_ack : Flow → Outgoing
rst_ack f = rst_ack_at f.sent f

-- a close before the connection is established
abbrev pub rst_asking : ℕ → Outgoing
rst_asking isn = record { number = wrapped (isn + 1); acknowledges = 0; flags = 20; window = 0; mss = None; body = [] }

-- the reset for an acknowledgement that isn't the SYN's
abbrev pub rst_for : Incoming → Outgoing
rst_for s = record { number = s.acknowledges; acknowledges = 0; flags = 4; window = 0; mss = None; body = [] }

-- text that stands at its place
pub record IsTextAt (f : Flow) (place : ℕ) (bytes : List ℕ) : Type 0 where
  pub rest : List ℕ
  pub stands : drop place f.text ≡ bytes ++ rest
  pub some : 0 < length bytes
  pub sent : place + length bytes ≤ f.sent

abbrev pub has_stop : Option ℕ → Bool
has_stop None = false
has_stop (Some stop) = true

-- What a connection may send after these calls.
pub data MaySend (isn : ℕ) (calls : List TcpCall) (sent : Outgoing) : Type 0 where
  by_asking : (text : List ℕ) → conn_phase isn calls ≡ asking text → sent ≡ syn isn → MaySend isn calls sent
  by_wrong_answer : (text : List ℕ) (s : Incoming) → conn_phase isn calls ≡ asking text → s.ack ≡ true → answers_syn isn s ≡ false → s.rst ≡ false → sent ≡ rst_for s → MaySend isn calls sent
  by_text : (f : Flow) (place : ℕ) (bytes : List ℕ) → conn_phase isn calls ≡ flowing f → IsTextAt f place bytes → sent ≡ segment_at 24 full_window bytes place f → MaySend isn calls sent
  by_ack : (f : Flow) (place : ℕ) → conn_phase isn calls ≡ flowing f → place ≤ f.sent → sent ≡ segment_at 16 full_window [] place f → MaySend isn calls sent
  by_probe : (f : Flow) → conn_phase isn calls ≡ flowing f → f.acked ≡ f.sent → sent ≡ probe f → MaySend isn calls sent
  by_closing_early : (text : List ℕ) → conn_phase isn calls ≡ asking text → sent ≡ rst_asking isn → MaySend isn calls sent
  by_closing : (f : Flow) → conn_phase isn calls ≡ flowing f → has_stop f.held.stop ≡ false → sent ≡ rst_ack f → MaySend isn calls sent
  by_closing_behind : (f : Flow) → conn_phase isn calls ≡ flowing f → has_stop f.held.stop ≡ true → sent ≡ fin_ack f → MaySend isn calls sent
  by_length : (f : Flow) (place : ℕ) → conn_phase isn calls ≡ flowing f → list_any is_past f.held.pairs ≡ true → place ≤ f.sent → sent ≡ rst_ack_at place f → MaySend isn calls sent

-- a segment and, where it is a message's first sending, its try
abbrev pub without_try : Outgoing → Outgoing × Option ℕ
without_try s = (s, None)

abbrev pub with_first_try : Outgoing → Outgoing × Option ℕ
with_first_try s = (s, Some 1)

abbrev pub only_if : Bool → Outgoing × Option ℕ → List (Outgoing × Option ℕ)
only_if true s = s ∷ []
only_if false s = []

-- the place of a reset: at the next byte, or in the window after it
abbrev pub reset_distance : Flow → Incoming → ℕ
reset_distance f s = ahead (f.theirs + next f.held) s.number

abbrev pub is_reset : Flow → Incoming → Bool
is_reset f s = s.rst && reset_distance f s == 0

abbrev pub is_near_reset : Flow → Incoming → Bool
is_near_reset f s = nat_lt 0 (reset_distance f s) && nat_lt (reset_distance f s) full_window

abbrev pub brings_more : Incoming → Bool
brings_more s = nat_lt 0 (length s.body) || s.fin

-- a taken segment: what it brought is acknowledged, then the text goes on
abbrev pub ongoing_sends : Flow → Incoming → List (Outgoing × Option ℕ)
ongoing_sends f s =
    only_if (brings_more s) (without_try (pure_ack (with_segment s f)))
    ++ only_if (is_sending (advances f s) (with_segment s f)) (with_first_try (text_segment (going_on (advances f s) (with_segment s f))))

-- a stream that is too long is acknowledged and reset, and no more text is sent
abbrev pub too_long_sends : Flow → Incoming → List (Outgoing × Option ℕ)
too_long_sends f s = without_try (pure_ack (with_segment s f)) ∷ without_try (rst_ack (with_segment s f)) ∷ []

abbrev pub taken_sends : Flow → Incoming → List (Outgoing × Option ℕ)
taken_sends f s = if list_any is_past (window_bytes f s) then too_long_sends f s else ongoing_sends f s

-- what else is answered by an acknowledgement: a reset in the window, a SYN, and an acknowledgement of what wasn't sent
abbrev pub is_answered_by_ack : Flow → Incoming → Bool
is_answered_by_ack f s = if s.rst then is_near_reset f s else (s.syn || (s.ack && is_beyond f s))

abbrev pub segment_sends : Flow → Incoming → List (Outgoing × Option ℕ)
segment_sends f s = if is_taken f s then taken_sends f s else only_if (is_answered_by_ack f s) (without_try (pure_ack f))

abbrev pub established_sends : Flow → List (Outgoing × Option ℕ)
established_sends f = without_try (pure_ack f) ∷ only_if (is_sending false f) (with_first_try (text_segment (going_on false f)))

-- what a segment calls for
abbrev pub calls_for : ℕ → ConnPhase → Incoming → List (Outgoing × Option ℕ)
calls_for isn (asking text) s =
    if establishes isn s then established_sends (opened_by isn text s)
    else only_if (s.ack && (not (answers_syn isn s) && not s.rst)) (without_try (rst_for s))
calls_for isn (flowing f) s = segment_sends f s

-- the text that begins to be sent once more of it is given
abbrev pub text_calls_for : ConnPhase → List ℕ → List (Outgoing × Option ℕ)
text_calls_for (asking text) bytes = []
text_calls_for (flowing f) bytes = only_if (is_sending false (record f { text = f.text ++ bytes }))
    (with_first_try (text_segment (going_on false (record f { text = f.text ++ bytes }))))

-- a close from above: a FIN where the peer's has come, else a reset
abbrev pub closing_segment : ℕ → ConnPhase → Outgoing
closing_segment isn (asking text) = rst_asking isn
closing_segment isn (flowing f) = if has_stop f.held.stop then fin_ack f else rst_ack f

-- what a try again sends
abbrev pub tried_again : ℕ → ConnPhase → Outgoing
tried_again isn (asking text) = syn isn
tried_again isn (flowing f) = if nat_lt f.acked f.sent then text_segment f else probe f

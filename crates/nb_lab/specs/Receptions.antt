-- RFC 9293, section 3.10.7: what a connection makes of a segment of its peer that begins no connection
use Rattle.std.specs.Prelude.{◌≡◌, ◌≤◌, ◌<◌, ℕ, ◌+◌, ◌%◌, ◌^◌, ◌==◌, ◌&&◌, ◌||◌, not, Bool, true, false, List, ◌++◌, length, nat_lt, nat_le, Option, Some, None, unwrap_or, if◌then◌else◌}
use Rattle.std.specs.Option.{option_or}
use Rattle.nb_tcpseg.specs.SegmentText.{SegmentParts}
use Rattle.nb_lab.specs.declared.page.Page.{Page}
use Rattle.nb_lab.specs.declared.page.Page.TheVariants.{BadRequest}
use Rattle.nb_lab.specs.declared.connection.StreamPart.{StreamPart}
use Rattle.nb_lab.specs.declared.connection.StreamPart.TheVariants.{Bytes, Acknowledgement}
use Rattle.nb_lab.specs.declared.connection.State.{State}
use Rattle.nb_lab.specs.declared.connection.State.TheVariants.{Opened, Reading, Sending, Sent, Closed}
use Rattle.nb_lab.specs.declared.connection.Connection.{Connection}
use Rattle.nb_lab.specs.Requests.{IsPageFor}
use Rattle.nb_lab.specs.Streams.{sent_by}
use Rattle.nb_lab.specs.Connections.{carries_flag, piece_from, sends, after_ack, next_part}

abbrev pub is_closed : State → Bool
is_closed Opened = false
is_closed Reading = false
is_closed (Sending p) = false
is_closed (Sent place) = false
is_closed Closed = true

abbrev pub reads_request : State → Bool
reads_request Opened = false
reads_request Reading = true
reads_request (Sending p) = false
reads_request (Sent place) = false
reads_request Closed = false

-- the place after what was sent
abbrev pub place_after_sent : State → ℕ
place_after_sent Opened = 0
place_after_sent Reading = 0
place_after_sent (Sending p) = sent_by p
place_after_sent (Sent place) = place
place_after_sent Closed = 0

-- a reset counts at the number that is expected
abbrev pub after_reset : Connection → SegmentParts → Connection
after_reset c s = if s.seq == c.expected then record c { state = Closed } else c

-- a segment with ACK counts until nothing is received any more
abbrev pub counts_segment : Connection → SegmentParts → Bool
counts_segment c s = carries_flag s 16 && not (is_closed c.state)

-- bytes or a FIN come with a segment
abbrev pub brings_bytes : SegmentParts → Bool
brings_bytes s = nat_lt 0 (length s.body) || carries_flag s 1

-- the number after its bytes and its FIN
abbrev pub number_after : SegmentParts → ℕ
number_after s = (s.seq + length s.body + (if carries_flag s 1 then 1 else 0)) % 2 ^ 32

-- the request as far as it came; what doesn't fit isn't added
abbrev pub with_request_bytes : Connection → List ℕ → Connection
with_request_bytes c bytes =
    record c { request = if nat_le (length (c.request.items ++ bytes)) 1024 then record { items = c.request.items ++ bytes } else c.request }

-- the response begins once there is one
abbrev pub response_begun : Connection → SegmentParts → Option Page → Connection
response_begun c s None = c
response_begun c s (Some page) = sends c (piece_from c page 0 s.window)

abbrev pub answer_part : Connection → SegmentParts → Option Page → Option StreamPart
answer_part c s None = None
answer_part c s (Some page) = Some (Bytes (piece_from c page 0 s.window))

-- what came in order, by the state: a part of the request, or the end that was waited for
abbrev pub received_in_state : Connection → SegmentParts → Option Page → State → Connection
received_in_state c s page Opened = c
received_in_state c s page Reading = response_begun (with_request_bytes c s.body) s page
received_in_state c s page (Sending p) = c
received_in_state c s page (Sent place) = if carries_flag s 1 then record c { state = Closed } else c
received_in_state c s page Closed = c

-- a segment counts in order alone
abbrev pub segment_received : Connection → SegmentParts → Option Page → Connection
segment_received c s page =
    if s.seq == c.expected then received_in_state (record c { expected = number_after s }) s page c.state else c

-- whether bytes of the request come with it
abbrev pub brings_request : Connection → SegmentParts → Bool
brings_request c s = (s.seq == c.expected) && reads_request c.state

-- what answers the request, once there is an answer
abbrev pub answer_begin : Connection → SegmentParts → Option Page → Option StreamPart
answer_begin c s page = if brings_request c s then answer_part c s page else None

-- a request of more than 1,024 bytes is none
pub record IsPageOf (images : ℕ) (bytes : List ℕ) (page : Option Page) : Type 0 where
  pub read : length bytes ≤ 1024 → IsPageFor images bytes page
  pub long : 1024 < length bytes → page ≡ Some BadRequest

-- the request is read on with a segment's bytes
pub record IsRequestGathered (c : Connection) (s : SegmentParts) (images : ℕ) (part : Option StreamPart) (after : Connection) : Type 0 where
  pub page : Option Page
  pub is_page : IsPageOf images (c.request.items ++ s.body) page
  pub sent : part ≡ answer_part c s page
  pub stands : after ≡ response_begun (with_request_bytes c s.body) s page

-- a segment's bytes and its FIN are received, and the response begins with this part
pub record IsReceived (c : Connection) (s : SegmentParts) (images : ℕ) (part : Option StreamPart) (after : Connection) : Type 0 where
  pub page : Option Page
  pub is_page : brings_request c s ≡ true → IsPageOf images (c.request.items ++ s.body) page
  pub sent : part ≡ answer_begin c s page
  pub stands : after ≡ segment_received c s page

-- Bytes or a FIN come with a segment: the first part of the response is sent, or else the next one, or else an acknowledgement.
pub record ConnectionReceives (c : Connection) (s : SegmentParts) (images : ℕ) (part : Option StreamPart) (after : Connection) : Type 0 where
  pub first : Option StreamPart
  pub received : IsReceived (after_ack c s) s images first after
  pub sent : part ≡ Some (unwrap_or (option_or first (next_part c s)) (Acknowledgement (place_after_sent (after_ack c s).state)))

-- this is sent, and the connection stands so
pub record IsSegmentTaken (c : Connection) (s : SegmentParts) (images : ℕ) (part : Option StreamPart) (after : Connection) : Type 0 where
  pub reset : carries_flag s 4 ≡ true → (part ≡ None) × (after ≡ after_reset c s)
  pub dropped : carries_flag s 4 ≡ false → counts_segment c s ≡ false → (part ≡ None) × (after ≡ c)
  pub acknowledges : carries_flag s 4 ≡ false → counts_segment c s ≡ true → brings_bytes s ≡ false → (part ≡ next_part c s) × (after ≡ after_ack c s)
  pub receives : carries_flag s 4 ≡ false → counts_segment c s ≡ true → brings_bytes s ≡ true → ConnectionReceives c s images part after

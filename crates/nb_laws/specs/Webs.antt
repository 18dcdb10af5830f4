-- RFC 9112 over RFC 9293: what came to an open that fetches by HTTP (2), as its connection has it, by the history alone; and what of it has
-- come, may be sent, and was tried.
use Rattle.std.specs.Prelude.{◌≡◌, ℕ, ◌+◌, ◌==◌, ◌&&◌, ◌||◌, Bool, true, false, List, [], ◌∷◌, ◌++◌, map, Some, if◌then◌else◌}
use Rattle.std.specs.List.{flat_map, list_any, sum_by}
use Rattle.nb_terms.specs.declared.acts.SendTo.{SendTo}
use Rattle.nb_terms.specs.declared.cause.Cause.{Cause}
use Rattle.nb_defs.specs.Records.{Out, step, tried}
use Rattle.nb_stack.specs.Brings.{Brought, segment}
use Rattle.nb_streams.specs.Segments.{Arrival}
use Rattle.nb_streams.specs.Streams.{next}
use Rattle.nb_streams.specs.Flows.{text_came, conn_phase}
use Rattle.nb_streams.specs.Sending.{tried_again, closing_segment}
use Rattle.nb_talks.specs.Talking.{Came, by_segment, by_time, Talk, talk_held, talk_after}
use Rattle.nb_streams.specs.Trying.{timer_after, TryMark, comes_in, tries_at, mark_calls, HasTriedAll}
use Rattle.nb_streams.specs.Endings.{end_cause, plan_tries, ConnEnds}
use Rattle.nb_responses.specs.Chunks.{Verdict, more, open_body, body, moved, status, broken, large, long, many, Response}
use Rattle.nb_readings.specs.Ends.{verdict_end, is_decided, is_whole}
use Rattle.nb_webs.specs.Webs.{NoTask, call_of, response_come}
use Rattle.nb_tcp.specs.declared.link.Link.{Link}
use Rattle.nb_tcp.specs.Messages.{outgoing_message}
use Rattle.nb_tcp.specs.MayBeSent.{MayBeSent}
use Rattle.nb_command.specs.SettingAddresses.{host}
use Rattle.nb_machine.specs.Findings.{first_word}
use Rattle.nb_machine.specs.Connections.{arrived_segment}
use Rattle.nb_machine.specs.Webs.{request_at, web_at}
use Rattle.nb_laws.specs.Events.{Event, starts, hears, waits, stops, puts}
use Rattle.nb_laws.specs.Lists.{Hardware, hardware, Opening, opens_file, openings, live, time, gathered}

-- an open that fetches by HTTP
abbrev pub opens_web : Opening → Bool
opens_web o = o.kind == 2

-- one that is a drive's session
abbrev pub opens_session : Opening → Bool
opens_session o = o.kind == 3

-- an open on a connection
abbrev pub opens_connection : Opening → Bool
opens_connection o = opens_web o || opens_session o

-- an open that fetches a file, by TFTP (1) or by HTTP
abbrev pub opens_a_file : Opening → Bool
opens_a_file o = opens_file o || opens_web o

-- the response has a body, all of it
abbrev pub is_body : Verdict → Bool
is_body more = false
is_body open_body = false
is_body body = true
is_body (moved text) = false
is_body (status code) = false
is_body broken = false
is_body large = false
is_body long = false
is_body many = false

-- a segment counts for it: one of its server's port to its own
abbrev pub takes_segment : Opening → (src port own : ℕ) → Bool
takes_segment o src port own = opens_connection o && ((o.own == own) && ((src == o.server) && (port == o.port)))

abbrev pub segment_in : ℕ → ℕ → Brought → Opening → List (Came NoTask)
segment_in n now (segment from p g) o = if takes_segment o p.src.0 g.src_port g.dst_port then by_segment (arrived_segment n g) now ∷ [] else []
segment_in n now m o = []

abbrev pub came_at : ℕ → List Event → Event → List (Came NoTask)
came_at k before (hears n bytes m) = flat_map (segment_in n (time before) m) (live k before)
came_at k before (waits n ms) = flat_map (λ o. by_time (time before + ms) ∷ []) (live k before)
came_at k before (starts n s) = []
came_at k before (stops n) = []
came_at k before (puts o) = []

-- the segments and times that came to open k while it was live, which a connection has
unfoldable pub brought_to : ℕ → List Event → List (Came NoTask)
brought_to k es = gathered (came_at k) [] es

-- its connection: both ends, and the number of the client's SYN, which is the open's first word
abbrev pub connection_link : Hardware → ℕ → Opening → Link
connection_link h k o = record { own_port = o.own; peer = host o.server; peer_port = o.port; isn = first_word h.identity k }

-- what is said on it and has come to it, after all this
abbrev pub talk_by : Hardware → ℕ → Opening → List (Came NoTask) → Talk NoTask
talk_by h k o came = talk_after (web_at o.target) (first_word h.identity k) o.since came

abbrev pub response_by : Hardware → ℕ → Opening → List (Came NoTask) → Response
response_by h k o came = response_come (first_word h.identity k) (talk_by h k o came).calls

-- the response that has come
abbrev pub response_so_far : ℕ → Opening → List Event → Response
response_so_far k o es = response_by (hardware es) k o (brought_to k es)

-- it is whole: a body, or a move
abbrev pub has_response : ℕ → Opening → List Event → Bool
has_response k o es = is_whole (response_so_far k o es).verdict

-- how far its stream has come; 0 of an open that doesn't fetch by HTTP
abbrev pub stream_place_by : Hardware → ℕ → List (Came NoTask) → Opening → ℕ
stream_place_by h k came o = if opens_web o then next (talk_held (first_word h.identity k) (talk_by h k o came)) else 0

abbrev pub stream_place : ℕ → List Event → ℕ
stream_place k es = sum_by (stream_place_by (hardware es) k (brought_to k es)) (openings k es)

-- what it may send: a segment that a connection may, after all that has come
abbrev pub MaySendSegment : Hardware → ℕ → Opening → List (Came NoTask) → SendTo → Type 0
MaySendSegment h k o came send = MayBeSent (connection_link h k o) (talk_by h k o came).calls send

-- what a timer covers: the SYN, the segment that isn't acknowledged, or a probe
abbrev pub tried_message : Hardware → ℕ → Opening → List (Came NoTask) → SendTo
tried_message h k o came =
    outgoing_message (connection_link h k o) (tried_again (first_word h.identity k) (conn_phase (first_word h.identity k) (talk_by h k o came).calls))

-- what closes it from above
abbrev pub closing_message : Hardware → ℕ → Opening → List (Came NoTask) → SendTo
closing_message h k o came =
    outgoing_message (connection_link h k o) (closing_segment (first_word h.identity k) (conn_phase (first_word h.identity k) (talk_by h k o came).calls))

-- what concerns its tries, in order, from its request on, with which it is begun: what came, and each TRY with its time
abbrev pub told_try_mark : (k now : ℕ) → Out → List TryMark
told_try_mark k now (tried number count) = if number == k then tries_at count now ∷ [] else []
told_try_mark k now (step number) = []
told_try_mark k now _ = []

abbrev pub try_mark_at : ℕ → List Event → Event → List TryMark
try_mark_at k before (puts o) = told_try_mark k (time before) o
try_mark_at k before (starts n s) = []
try_mark_at k before (hears n bytes m) = map (λ c. comes_in (call_of c)) (came_at k before (hears n bytes m))
try_mark_at k before (waits n ms) = map (λ c. comes_in (call_of c)) (came_at k before (waits n ms))
try_mark_at k before (stops n) = []

unfoldable pub try_marks_of : ℕ → List Event → List TryMark
try_marks_of k es = gathered (try_mark_at k) [] es

abbrev pub connection_marks : ℕ → Opening → List Event → List TryMark
connection_marks k o es = comes_in (text_came (request_at o.target) o.since) ∷ try_marks_of k es

-- All tries of the plan that runs were made, at its times, and the plan is over now: nothing since its start has answered. The cause has how
-- many these are.
pub record HasNoAnswer (k : ℕ) (o : Opening) (es : List Event) (cause : Cause) : Type 0 where
  pub tried : HasTriedAll (first_word (hardware es).identity k) o.since (time es) (connection_marks k o es)
  pub count : cause ≡ end_cause 2 (plan_tries (timer_after (first_word (hardware es).identity k) o.since (flat_map mark_calls (connection_marks k o es))).plan) 0

-- The last segment, and none before it, decides the response: this is how that ends the open, with Ok where it is a whole body or a move.
pub record DecidesResponse (k : ℕ) (o : Opening) (es : List Event) (cause : Cause) : Type 0 where
  pub before : List (Came NoTask)
  pub last : Arrival
  pub now : ℕ
  pub all : brought_to k es ≡ before ++ by_segment last now ∷ []
  pub undecided : is_decided (response_by (hardware es) k o before).verdict ≡ false
  pub ends : verdict_end last.rec (response_so_far k o es).verdict ≡ Some cause

-- The last segment ends the connection: by a reset, by bytes past the longest stream, or by a second FIN at another place.
pub record BreaksConnection (k : ℕ) (o : Opening) (es : List Event) (cause : Cause) : Type 0 where
  pub before : List (Came NoTask)
  pub last : Arrival
  pub now : ℕ
  pub all : brought_to k es ≡ before ++ by_segment last now ∷ []
  pub ends : ConnEnds (first_word (hardware es).identity k) o.since (talk_by (hardware es) k o before).calls (call_of (by_segment last now)) cause

-- the message is a segment to the port of this open, which has a connection
abbrev pub comes_to_port : Brought → Opening → Bool
comes_to_port (segment from p g) o = opens_connection o && (o.own == g.dst_port)
comes_to_port m o = false

-- no open that lives has a connection to whose port the message comes
abbrev pub ComesToNone : List Event → Brought → Type 0
ComesToNone es m = (k : ℕ) → list_any (comes_to_port m) (live k es) ≡ false

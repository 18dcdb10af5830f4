-- RFC 9112 over RFC 9293: an open that fetches by HTTP says its request and ends as the response does
use Rattle.std.specs.Prelude.{◌≡◌, ◌<◌, ℕ, Bool, true, List, [], ◌∷◌, ◌++◌, length, map, Some}
use Rattle.nb_streams.specs.Streams.{front, next, has_ended, grown}
use Rattle.nb_streams.specs.Segments.{Arrival}
use Rattle.nb_streams.specs.Flows.{TcpCall, segment_came, time_came, text_came, conn_phase, held_after}
use Rattle.nb_streams.specs.Sending.{calls_for}
use Rattle.nb_streams.specs.Endings.{end_cause, segment_end}
use Rattle.nb_talks.specs.Talking.{Came, by_segment, by_time, by_task, Talker, Talk, receives, talk_after}
use Rattle.nb_talks.specs.TalkPromises.{Put, closes_by, earlier, PutsSo}
use Rattle.nb_responses.specs.Chunks.{Response}
use Rattle.nb_readings.specs.Readings.{response_read}
use Rattle.nb_readings.specs.Ends.{verdict_end, is_whole}

-- no task is asked of it
abbrev pub NoTask : Type 0
NoTask = ⊥

-- It says its request, whatever comes, and ends as the response of its stream does.
abbrev pub web : List ℕ → Talker NoTask
web request = record {
  says = λ stream ended tasks. request;
  ends = λ rec stream ended tasks. verdict_end rec (response_read stream ended).verdict;
}

-- the response that has come
abbrev pub response_come : ℕ → List TcpCall → Response
response_come isn calls = response_read (front (held_after isn calls)) (has_ended (held_after isn calls))

abbrev pub call_of : Came NoTask → TcpCall
call_of (by_segment m now) = segment_came m now
call_of (by_time now) = time_came now
call_of (by_task task now) = time_came now

-- What its connection has come to is the request, given as it begins, and then what came: nothing else is said.
abbrev pub SaysItsRequestOnce : Type 0
SaysItsRequestOnce = (request : List ℕ) (isn start : ℕ) (came : List (Came NoTask)) → 0 < length request
    → (talk_after (web request) isn start came).calls ≡ text_came request start ∷ map call_of came

-- What a segment puts, by all that came before it: the place where it grew, what it calls for, the close where the response is decided
-- and the connection hasn't ended, and the end.
abbrev pub web_put : ℕ → List TcpCall → Arrival → ℕ → Put
web_put isn calls m now =
    let come = calls ++ segment_came m now ∷ [] in
    let ends = verdict_end m.rec (response_come isn come).verdict in
    let by_connection = segment_end isn (conn_phase isn calls) m in
    record {
      advance = grown (next (held_after isn calls)) (next (held_after isn come));
      sends = calls_for isn (conn_phase isn calls) m.segment ++ closes_by ends by_connection isn (conn_phase isn come);
      over = earlier ends by_connection;
    }

abbrev pub PutsByTheResponse : Type 0
PutsByTheResponse = (request : List ℕ) (isn start : ℕ) (came : List (Came NoTask)) (m : Arrival) (now : ℕ) (put : Put)
    → 0 < length request → PutsSo (web request) isn start (talk_after (web request) isn start came) (by_segment m now) put
    → put ≡ web_put isn (text_came request start ∷ map call_of came) m now

-- An exchange that ends it in Ok has made the response whole, and a segment that makes it whole ends it in Ok.
pub record WholeResponsesEndWell : Type 0 where
  pub only : (request : List ℕ) (isn start : ℕ) (d : Talk NoTask) (c : Came NoTask) (put : Put) (a b : ℕ)
      → PutsSo (web request) isn start d c put → put.over ≡ Some (end_cause 0 a b)
      → is_whole (response_come isn (receives isn d c).calls).verdict ≡ true
  pub whole : (request : List ℕ) (isn start : ℕ) (d : Talk NoTask) (m : Arrival) (now : ℕ) (put : Put)
      → PutsSo (web request) isn start d (by_segment m now) put
      → is_whole (response_come isn (receives isn d (by_segment m now)).calls).verdict ≡ true
      → put.over ≡ Some (end_cause 0 0 0)

-- What is said on a connection, by what has come of its stream and by the tasks so far. HTTP says its request once; a session
-- speaks as it reads, and as tasks are asked of it.
use Rattle.std.specs.Prelude.{◌≡◌, ℕ, Bool, List, [], ◌∷◌, ◌++◌, length, drop, Option, fold}
use Rattle.std.specs.List.{flat_map}
use Rattle.nb_terms.specs.declared.cause.Cause.{Cause}
use Rattle.nb_streams.specs.Segments.{Arrival}
use Rattle.nb_streams.specs.Streams.{HeldBytes, front, has_ended, IsPrefixOf}
use Rattle.nb_streams.specs.Flows.{TcpCall, segment_came, time_came, text_came, held_after}

-- what comes to an open on a connection: a segment, a time, or a task that a command asks of it
pub data Came (T : Type 0) : Type 0 where
  by_segment : Arrival → (now : ℕ) → Came T
  by_time : (now : ℕ) → Came T
  by_task : (task : T) (now : ℕ) → Came T

abbrev pub time_of : {T : Type 0} → Came T → ℕ
time_of (by_segment m now) = now
time_of (by_time now) = now
time_of (by_task task now) = now

-- A task stands beside how much of the stream had come when it was asked. All that is to be said, by the stream so far, whether
-- that is all of it, and the tasks so far; and how that ends the open, by the record that brought it.
pub record Talker (T : Type 0) : Type 0 where
  pub says : List ℕ → Bool → List (T × ℕ) → List ℕ
  pub ends : ℕ → List ℕ → Bool → List (T × ℕ) → Option Cause

-- A longer stream and the next task, asked after all that has come, only add to what is to be said.
pub record OnlyAdds {T : Type 0} (t : Talker T) : Type 0 where
  pub stream : (come later : List ℕ) (before after : Bool) (tasks : List (T × ℕ))
      → IsPrefixOf (t.says come before tasks) (t.says (come ++ later) after tasks)
  pub task : (come : List ℕ) (ended : Bool) (tasks : List (T × ℕ)) (next : T)
      → IsPrefixOf (t.says come ended tasks) (t.says come ended (tasks ++ (next, length come) ∷ []))

-- what has come to the connection and was given to it to send, and the tasks so far
pub record Talk (T : Type 0) : Type 0 where
  pub calls : List TcpCall
  pub tasks : List (T × ℕ)

abbrev pub text_of_call : TcpCall → List ℕ
text_of_call (segment_came m now) = []
text_of_call (time_came now) = []
text_of_call (text_came bytes now) = bytes

-- all that was given to the connection to send
abbrev pub said_in_all : List TcpCall → List ℕ
said_in_all calls = flat_map text_of_call calls

-- what is held of the stream
abbrev pub talk_held : {T : Type 0} → ℕ → Talk T → HeldBytes
talk_held isn d = held_after isn d.calls

-- all that is to be said, and what of it wasn't said yet
abbrev pub to_say : {T : Type 0} → Talker T → ℕ → Talk T → List ℕ
to_say t isn d = t.says (front (talk_held isn d)) (has_ended (talk_held isn d)) d.tasks

abbrev pub unsaid : {T : Type 0} → Talker T → ℕ → Talk T → List ℕ
unsaid t isn d = drop (length (said_in_all d.calls)) (to_say t isn d)

abbrev pub text_to_send : List ℕ → ℕ → List TcpCall
text_to_send [] now = []
text_to_send (b ∷ bytes) now = text_came (b ∷ bytes) now ∷ []

-- what wasn't said yet is said at once
abbrev pub says_on : {T : Type 0} → Talker T → ℕ → ℕ → Talk T → Talk T
says_on t isn now d = record d { calls = d.calls ++ text_to_send (unsaid t isn d) now }

abbrev pub receives : {T : Type 0} → ℕ → Talk T → Came T → Talk T
receives isn d (by_segment m now) = record d { calls = d.calls ++ segment_came m now ∷ [] }
receives isn d (by_time now) = record d { calls = d.calls ++ time_came now ∷ [] }
receives isn d (by_task task now) = record d { tasks = d.tasks ++ (task, length (front (talk_held isn d))) ∷ [] }

-- what a text adds to one that it begins with
abbrev pub more_of : List ℕ → List ℕ → List ℕ
more_of before after = drop (length before) after

-- the texts that the next bytes of a stream bring, one for each byte; most of them are empty
abbrev pub texts_by : {T : Type 0} → Talker T → Bool → List (T × ℕ) → (come later : List ℕ) → List (List ℕ)
texts_by t ended tasks come [] = []
texts_by t ended tasks come (b ∷ later) = more_of (t.says come ended tasks) (t.says (come ++ b ∷ []) ended tasks) ∷ texts_by t ended tasks (come ++ b ∷ []) later

-- what has come of the stream, and whether it has ended
abbrev pub come_of : {T : Type 0} → ℕ → Talk T → List ℕ
come_of isn d = front (talk_held isn d)

abbrev pub ended_of : {T : Type 0} → ℕ → Talk T → Bool
ended_of isn d = has_ended (talk_held isn d)

-- The texts that are said as this comes, in turn: each as soon as the byte that calls for it has come, so that a segment with two PDUs that
-- want answers brings two texts; and last what the end of the stream calls for. A time brings none, a task one.
abbrev pub texts_for : {T : Type 0} → Talker T → ℕ → Talk T → Came T → List (List ℕ)
texts_for t isn d (by_segment m now) =
    let heard = receives isn d (by_segment m now) in
    texts_by t (ended_of isn d) d.tasks (come_of isn d) (more_of (come_of isn d) (come_of isn heard))
    ++ more_of (t.says (come_of isn heard) (ended_of isn d) d.tasks) (t.says (come_of isn heard) (ended_of isn heard) d.tasks) ∷ []
texts_for t isn d (by_time now) = []
texts_for t isn d (by_task task now) = unsaid t isn (receives isn d (by_task task now)) ∷ []

-- they are given to the connection one after another
abbrev pub text_calls : List (List ℕ) → ℕ → List TcpCall
text_calls [] now = []
text_calls (x ∷ xs) now = text_to_send x now ++ text_calls xs now

abbrev pub talks_on : {T : Type 0} → Talker T → ℕ → Talk T → Came T → Talk T
talks_on t isn d c = let heard = receives isn d c in record heard { calls = heard.calls ++ text_calls (texts_for t isn d c) (time_of c) }

-- a talk that begins, and one to which all this came
abbrev pub begun_talk : {T : Type 0} → Talker T → ℕ → ℕ → Talk T
begun_talk t isn start = says_on t isn start (record { calls = []; tasks = [] })

abbrev pub talk_after : {T : Type 0} → Talker T → ℕ → ℕ → List (Came T) → Talk T
talk_after t isn start came = fold (talks_on t isn) (begun_talk t isn start) came

-- All that is to be said has been said, in order and once, and nothing else.
abbrev pub AllIsSaid : Type 0 → Type 0
AllIsSaid T = (t : Talker T) → OnlyAdds t → (isn start : ℕ) (came : List (Came T))
    → said_in_all (talk_after t isn start came).calls ≡ to_say t isn (talk_after t isn start came)

-- What the records of the object graph say of the contents of entries, for objects of any kind and chains of any length: what enters the
-- lowest object of an open is what the open received, and what goes down out of it is what was put.
use Rattle.std.specs.Prelude.{◌≡◌, ◌⊎◌, ℕ, Bool, true, false, not, List, [], ◌∷◌, ◌++◌, map, filter, Some}
use Rattle.std.specs.List.{flat_map}
use Rattle.nb_defs.specs.Records.{Out, step, sent, tried}
use Rattle.nb_stack.specs.Brings.{Brought}
use Rattle.nb_stack.specs.Takes.{reply_of}
use Rattle.nb_tftp.specs.History.{Call, came, ticked}
use Rattle.nb_talks.specs.Talking.{Came, by_segment, by_time, by_task}
use Rattle.nb_webs.specs.Webs.{NoTask}
use Rattle.nb_laws.specs.Events.{Event, starts, hears, waits, stops, puts, outputs, EachEvent}
use Rattle.nb_laws.specs.Histories.{client}
use Rattle.nb_laws.specs.Lists.{Opening, live, gathered, call_at}
use Rattle.nb_laws.specs.Hookings.{serves_drive}
use Rattle.nb_laws.specs.Webs.{came_at, ComesToNone}
use Rattle.nb_laws.specs.Frames.{IsSent}
use Rattle.nb_traced.specs.Plain.{is_graph}
use Rattle.nb_traced.specs.LowestObjects.{graph_so_far}
use Rattle.nb_traced.specs.Entries.{EntryArrival, entries, RunsInEntry, IsOutside}

-- WHAT ENTERS IT

abbrev pub way_of_call : Call → ℕ
way_of_call (came m now) = 0
way_of_call (ticked now) = 3

abbrev pub event_number : Event → ℕ
event_number (starts n s) = n
event_number (hears n bytes m) = n
event_number (waits n ms) = n
event_number (stops n) = n
event_number (puts o) = 0

-- a segment; a time comes to every open, and stands among its calls
abbrev pub segment_arrival : Event → Came NoTask → List EntryArrival
segment_arrival e (by_segment m now) = record { number = event_number e; way = 0 } ∷ []
segment_arrival e (by_time now) = []
segment_arrival e (by_task task now) = []

abbrev pub arrival_at : ℕ → List Event → Event → List EntryArrival
arrival_at k before e = map (λ c. record { number = event_number e; way = way_of_call c }) (call_at k before e) ++ flat_map (segment_arrival e) (came_at k before e)

-- the datagrams, echo replies, segments and times that came to open k while it lived, each in its step
unfoldable pub arrivals : ℕ → List Event → List EntryArrival
arrivals k es = gathered (arrival_at k) [] es

-- WHAT GOES DOWN OUT OF IT

-- the record used last is a frame, which comes to the port of no connection that lives, nothing else stands since its STEP, and it is replied
-- to with this
pub record IsReplied (es : List Event) (bytes : List ℕ) : Type 0 where
  pub before : List Event
  pub number : ℕ
  pub taken : List ℕ
  pub message : Brought
  pub last : es ≡ before ++ hears number taken message ∷ []
  pub alone : ComesToNone before message
  pub reply : bytes ≡ reply_of (client before) message

-- the last of these records is no TRY
abbrev pub IsUntried : List Out → Type 0
IsUntried outs = (before : List Out) (k count : ℕ) → outs ≡ before ++ tried k count ∷ [] → ⊥

-- another open lives beside open k, and one of the two is that of a hooked drive
pub record LivesBeside (j k : ℕ) (es : List Event) : Type 0 where
  pub opening : Opening
  pub lives : live j es ≡ opening ∷ []
  pub other : j ≡ k → ⊥
  pub drive : (serves_drive j es ≡ true) ⊎ (serves_drive k es ≡ true)

-- Why a FRAME stands after these records, which without those of the graph are this history: an open may send it, and the entry that runs is
-- its lowest object's; or, beside a hooked drive and directly after no TRY, that of another open that lives; or it is a reply, and none runs.
pub data FrameLeaves (outs : List Out) (es : List Event) (bytes : List ℕ) : Type 0 where
  by_entry : (k : ℕ) → RunsInEntry k outs → IsSent k es bytes → FrameLeaves outs es bytes
  by_entry_beside : (j k : ℕ) → RunsInEntry j outs → IsSent k es bytes → LivesBeside j k es → IsUntried outs → FrameLeaves outs es bytes
  by_reply : IsOutside outs → IsReplied es bytes → FrameLeaves outs es bytes

-- a history without the records of the graph
abbrev pub is_of_graph : Event → Bool
is_of_graph (puts o) = is_graph o
is_of_graph (starts n s) = false
is_of_graph (hears n bytes m) = false
is_of_graph (waits n ms) = false
is_of_graph (stops n) = false

abbrev pub plain : List Event → List Event
plain es = filter (λ e. not (is_of_graph e)) es

-- each FRAME leaves so, and each TRY of an open stands within an entry of its lowest object
abbrev pub LeavesSo : List Event → Event → Type 0
LeavesSo before (puts (sent bytes)) = FrameLeaves (outputs before) (plain before) bytes
LeavesSo before (puts (tried k count)) = RunsInEntry k (outputs before)
LeavesSo before (puts (step number)) = Unit {0}
LeavesSo before _ = Unit {0}

-- What the entries of a run say, with its history; `closing` is what closes its output. `whole` is that history with the records of the graph
-- in their places.
pub record EntriesAgree (outs closing : List Out) (history : List Event) : Type 0 where
  pub whole : List Event
  pub written : outputs whole ≡ outs
  pub without : plain whole ≡ history
  -- the lowest object of each open is entered from outside once for each datagram, echo reply, segment and time that comes to the open, in that step
  pub entered : (k : ℕ) → entries k outs ≡ arrivals k history
  -- what it sends stands within those entries, or those of its beginning, of a read that it is asked for and of its close, and nothing that an open
  -- sends stands elsewhere; but beside a hooked drive what it sends without a TRY may stand within those of another that lives
  pub leaves : EachEvent LeavesSo [] whole
  -- no two opens have the same lowest object
  pub own : (j k x : ℕ) → (graph_so_far (outs ++ closing)).lowest j ≡ Some x → (graph_so_far (outs ++ closing)).lowest k ≡ Some x → j ≡ k

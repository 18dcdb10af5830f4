-- Each frame and each try that is written stands where the graph says: within an entry of its open's lowest object, or as a reply.
use Rattle.std.proofs.Common.{◌≡◌, ◌⊎◌, inl, inr, ℕ, ◌+◌, ◌<◌, Bool, true, false, not, cond, map, List, [], ◌∷◌, ◌++◌, length, refl, sym, ◌∙◌, ap, subst, append_assoc, append-nil, arith}
use Rattle.std.specs.List.{flat_map}
use Rattle.std.proofs.lemmas.Bool.{true≢false, cases_eq}
use Rattle.nb_terms.specs.declared.event.Event.{Event as GraphRecord}
use Rattle.nb_defs.specs.Records.{Out, step, sent, text, command, result, script, opened, tried, advanced, ended, graph, part, done}
use Rattle.nb_stack.specs.Brings.{Brought, nothing as nothing_brought, arp_message, datagram, echo_request, echo_reply, segment}
use Rattle.nb_stack.specs.Takes.{reply_of}
use Rattle.nb_tftp.specs.History.{Call, ticked}
use Rattle.nb_traced.specs.Plain.{is_graph, without_graph}
use Rattle.nb_laws.specs.Events.{Event, starts, hears, waits, stops, puts, outputs, EachEvent, EachThen}
use Rattle.nb_laws.specs.Histories.{client}
use Rattle.nb_laws.specs.Lists.{Opening, live, call_at, time}
use Rattle.nb_laws.specs.Frames.{IsSent, IsFollowed, TriesSo, IsPut, IsDue, by_call, by_stream, by_opening, by_asking, stays_due}
use Rattle.nb_laws.specs.Webs.{takes_segment, segment_in, came_at, ComesToNone}
use Rattle.nb_machine.specs.Connections.{arrived_segment}
use Rattle.nb_streams.specs.Segments.{Arrival}
use Rattle.nb_talks.specs.Talking.{Came, by_segment, by_time, by_task}
use Rattle.nb_webs.specs.Webs.{NoTask}
use Rattle.nb_laws.specs.Endings.{WhyClosed, closes_off}
use Rattle.nb_laws.specs.Hookings.{LetsGo}
use Rattle.nb_laws.specs.Frames as frames
use Rattle.nb_laws.proofs.Tellings.{told}
use Rattle.nb_lawful.proofs.Solitude.{Solitude}
use Rattle.nb_openlaws.proofs.UsedEvents.{IsUsed}
use Rattle.nb_traced.specs.Entries.{EntryArrival, RunsInEntry, IsOutside}
use Rattle.nb_traced.specs.LowestObjects.{GraphSoFar}
use Rattle.nb_traced.proofs.Seeing.{so_far_append}
use Rattle.nb_traced.specs.Places.{IsWithinOpen, FrameStands, FramesStand, TriesStandWithin, by_open, by_step}
use Rattle.nb_boot.specs.Entries.{way_of_call, event_number, segment_arrival, arrival_at, FrameLeaves, by_entry, by_entry_beside, by_reply, plain, LeavesSo, IsUntried}
use Rattle.nb_boot.proofs.EntryAlone.{Known, alone_then, one_is_drive}
use Rattle.nb_boot.proofs.EntryMoves.{BeginsNoFrame}
use Rattle.nb_boot.proofs.EntryComings.{HaveNoGraph}
use Rattle.nb_boot.proofs.EntryHistories.{outputs_append, plain_events_append}
use Rattle.nb_boot.proofs.EntryOpens.{lives_within}

-- THE LAST EVENT

pub record SameLast (a b : List Event) (x y : Event) : Type 0 where
  pub front : a ≡ b
  pub last : x ≡ y

not_empty : (b : List Event) (y : Event) → [] ≡ b ++ y ∷ [] → ⊥
not_empty [] y e = absurd (cc)
not_empty (z ∷ b) y e = absurd (cc)

tails : (x y : Event) (xs ys : List Event) → x ∷ xs ≡ y ∷ ys → xs ≡ ys
tails x y xs ys e = cc

pub same_last : (a b : List Event) (x y : Event) → a ++ x ∷ [] ≡ b ++ y ∷ [] → SameLast a b x y
same_last [] [] x y e = record { front = refl; last = cc }
same_last [] (z ∷ b) x y e = absurd (not_empty b y (tails x z [] (b ++ y ∷ []) e))
same_last (z ∷ a) [] x y e = absurd (not_empty a x (sym (tails z y (a ++ x ∷ []) [] e)))
same_last (z ∷ a) (w ∷ b) x y e =
    let rest = same_last a b x y (tails z w (a ++ x ∷ []) (b ++ y ∷ []) e) in
    let heads : z ≡ w = cc in
    record { front = ap (λ v. v ∷ a) heads ∙ ap (λ v. w ∷ v) rest.front; last = rest.last }

-- the same of records
no_out : (b : List Out) (y : Out) → [] ≡ b ++ y ∷ [] → ⊥
no_out [] y e = absurd (cc)
no_out (z ∷ b) y e = absurd (cc)

out_tails : (x y : Out) (xs ys : List Out) → x ∷ xs ≡ y ∷ ys → xs ≡ ys
out_tails x y xs ys e = cc

pub last_out : (a b : List Out) (x y : Out) → a ++ x ∷ [] ≡ b ++ y ∷ [] → x ≡ y
last_out [] [] x y e = cc
last_out [] (z ∷ b) x y e = absurd (no_out b y (out_tails x z [] (b ++ y ∷ []) e))
last_out (z ∷ a) [] x y e = absurd (no_out a x (sym (out_tails z y (a ++ x ∷ []) [] e)))
last_out (z ∷ a) (w ∷ b) x y e = last_out a b x y (out_tails z w (a ++ x ∷ []) (b ++ y ∷ []) e)

-- something arrives at open k with this event
pub record ArrivesSome (k : ℕ) (es : List Event) (e : Event) : Type 0 where
  pub arrives : EntryArrival
  pub rest : List EntryArrival
  pub at : arrival_at k es e ≡ arrives ∷ rest

by_a_call : (k : ℕ) (es : List Event) (e : Event) (call : Call) → call_at k es e ≡ call ∷ [] → ArrivesSome k es e
by_a_call k es e call is = record {
  arrives = record { number = event_number e; way = way_of_call call };
  rest = flat_map (segment_arrival e) (came_at k es e);
  at = ap (λ cs. map (λ c. record { number = event_number e; way = way_of_call c }) cs ++ flat_map (segment_arrival e) (came_at k es e)) is;
}

starts_otherwise : (b : Bool) (m : Arrival) (t : ℕ) (others : List (Came NoTask)) (now : ℕ) (rest : List (Came NoTask)) → cond b (by_segment m t ∷ []) [] ++ others ≡ by_time now ∷ rest →
    (others ≡ by_time now ∷ rest → ⊥) → ⊥
starts_otherwise true m t others now rest is none = absurd (let no : by_segment m t ∷ others ≡ by_time now ∷ rest = is in cc)
starts_otherwise false m t others now rest is none = none is

-- a segment comes with a frame, and where a time comes to a connection, it is a call too
segment_alone : (n t : ℕ) (m : Brought) (os : List Opening) (now : ℕ) (rest : List (Came NoTask)) → flat_map (segment_in n t m) os ≡ by_time now ∷ rest → ⊥
segment_alone n t m [] now rest is = absurd (cc)
segment_alone n t (segment from p g) (o ∷ os) now rest is =
    starts_otherwise (takes_segment o p.src.0 g.src_port g.dst_port) (arrived_segment n g) t (flat_map (segment_in n t (segment from p g)) os) now rest is (segment_alone n t (segment from p g) os now rest)
segment_alone n t nothing_brought (o ∷ os) now rest is = segment_alone n t nothing_brought os now rest is
segment_alone n t (arp_message from arp) (o ∷ os) now rest is = segment_alone n t (arp_message from arp) os now rest is
segment_alone n t (datagram p d) (o ∷ os) now rest is = segment_alone n t (datagram p d) os now rest is
segment_alone n t (echo_request from p x) (o ∷ os) now rest is = segment_alone n t (echo_request from p x) os now rest is
segment_alone n t (echo_reply p x) (o ∷ os) now rest is = segment_alone n t (echo_reply p x) os now rest is

after_calls : (f : Call → EntryArrival) (calls : List Call) (x : EntryArrival) (rest : List EntryArrival) → (a : EntryArrival) × (more : List EntryArrival) × (map f calls ++ x ∷ rest ≡ a ∷ more)
after_calls f [] x rest = (x, rest, refl)
after_calls f (c ∷ cs) x rest = (f c, map f cs ++ x ∷ rest, refl)

abbrev times_of : ℕ → List Opening → List (Came NoTask)
times_of now os = flat_map (λ o. by_time now ∷ []) os

abbrev ticks_of : ℕ → List Opening → List Call
ticks_of now os = flat_map (λ o. ticked now ∷ []) os

by_some_time : (k n ms : ℕ) (es : List Event) (os : List Opening) (c : Came NoTask) → live k es ≡ os → came_at k es (waits n ms) ≡ c ∷ [] → ArrivesSome k es (waits n ms)
by_some_time k n ms es [] c lives one = absurd (let no : [] ≡ c ∷ [] = sym (ap (λ (z : List Opening). times_of (time es + ms) z) lives) ∙ one in cc)
by_some_time k n ms es (o ∷ os) c lives one = record {
  arrives = record { number = n; way = 3 };
  rest = map (λ x. record { number = n; way = way_of_call x }) (ticks_of (time es + ms) os) ++ flat_map (segment_arrival (waits n ms)) (came_at k es (waits n ms));
  at = ap (λ (z : List Opening). map (λ x. record { number = n; way = way_of_call x }) (ticks_of (time es + ms) z) ++ flat_map (segment_arrival (waits n ms)) (came_at k es (waits n ms))) lives;
}

by_some_stream : (k : ℕ) (es : List Event) (e : Event) (c : Came NoTask) → came_at k es e ≡ c ∷ [] → ArrivesSome k es e
by_some_stream k es e (by_task task now) is = absurd task
by_some_stream k es e (by_segment m now) is =
    let x = after_calls (λ c. record { number = event_number e; way = way_of_call c }) (call_at k es e) (record { number = event_number e; way = 0 }) [] in
    record {
      arrives = x.0;
      rest = x.1;
      at = ap (λ ss. map (λ c. record { number = event_number e; way = way_of_call c }) (call_at k es e) ++ flat_map (segment_arrival e) ss) is ∙ x.2;
    }
by_some_stream k es (starts n s) (by_time now) is = absurd (cc)
by_some_stream k es (stops n) (by_time now) is = absurd (cc)
by_some_stream k es (puts o) (by_time now) is = absurd (cc)
by_some_stream k es (hears n bytes m) (by_time now) is = absurd (segment_alone n (time es) m (live k es) now [] is)
by_some_stream k es (waits n ms) (by_time now) is = by_some_time k n ms es (live k es) (by_time now) refl is

-- what is due in the step of a record has come with it
pub due_at : (k : ℕ) (es before : List Event) (e : Event) → IsUsed e → IsDue k es → es ≡ before ++ e ∷ [] → ArrivesSome k before e
due_at k es before e used (by_call b x call is) at =
    let l = same_last b before x e at in by_a_call k before e call (subst (λ z. call_at k z e ≡ call ∷ []) l.front (subst (λ z. call_at k b z ≡ call ∷ []) l.last is))
due_at k es before e used (by_stream b x c is) at =
    let l = same_last b before x e at in by_some_stream k before e c (subst (λ z. came_at k z e ≡ c ∷ []) l.front (subst (λ z. came_at k b z ≡ c ∷ []) l.last is))
due_at k es before e used (by_opening b kind server port own target) at =
    let l = same_last b before (puts (opened k kind server port own target)) e at in absurd (subst IsUsed (sym l.last) used)
due_at k es before e used (by_asking b o c is) at = let l = same_last b before (puts o) e at in absurd (subst IsUsed (sym l.last) used)
due_at k es before e used (stays_due b o due) at = let l = same_last b before (puts o) e at in absurd (subst IsUsed (sym l.last) used)

-- WHERE A RECORD STANDS

-- a reply to this frame, where it comes to no connection, has no bytes
abbrev pub RepliesNothing : List Event → Type 0
RepliesNothing es = (b : List Event) (n : ℕ) (taken : List ℕ) (m : Brought) → es ≡ b ++ hears n taken m ∷ [] → ComesToNone b m → reply_of (client b) m ≡ []

-- open k is closed from above
abbrev pub ClosesNow : ℕ → List Event → Type 0
ClosesNow k es = WhyClosed es ⊎ LetsGo k es

-- a TRY stands directly before, within an entry of the open that tries: a FRAME that comes next is one that this may send
pub record StandsAfterTry (w : List Event) (more : List Out) : Type 0 where
  pub whose : ℕ
  pub within : RunsInEntry whose (outputs w)
  pub sends : (bytes : List ℕ) (rest : List Out) → more ≡ sent bytes ∷ rest → IsSent whose (plain w) bytes

-- Where a FRAME stands directly after a STEP, nothing is due of an open that lives, and none is closed there; what stands here is no reply,
-- unless none of the graph's records follows; and it stands after no TRY, or after that of its open.
pub record StandsInStep (w : List Event) (more : List Out) : Type 0 where
  pub due : (bytes : List ℕ) (rest : List Out) → more ≡ sent bytes ∷ rest → (earlier : List Out) (n : ℕ) → outputs w ≡ earlier ++ step n ∷ [] → (k : ℕ) → IsDue k (plain w) → live k (plain w) ≡ []
  pub closes : (bytes : List ℕ) (rest : List Out) → more ≡ sent bytes ∷ rest → (earlier : List Out) (n : ℕ) → outputs w ≡ earlier ++ step n ∷ [] → (k : ℕ) (o : Opening) → live k (plain w) ≡ o ∷ [] → ClosesNow k (plain w) → ⊥
  pub silent : RepliesNothing (plain w) ⊎ (HaveNoGraph more × IsOutside (outputs w))
  pub last : IsUntried (outputs w) ⊎ StandsAfterTry w more

-- A step goes on, and no FRAME stands first; or this is known of it.
pub record Context (w : List Event) (more : List Out) : Type 0 where
  pub alone : Solitude (plain w)
  pub there : BeginsNoFrame (without_graph more) ⊎ StandsInStep w more

one_open : (o : Opening) (os : List Opening) → os ≡ [] → os ≡ o ∷ [] → ⊥
one_open o os none one = let no : [] ≡ o ∷ [] = sym none ∙ one in absurd (cc)

some_bytes : (bytes : List ℕ) → 0 < length bytes → bytes ≡ [] → ⊥
some_bytes bytes some none = omega (arith, some, ap length none)

not_outside : (k : ℕ) (outs : List Out) → RunsInEntry k outs → IsOutside outs → ⊥
not_outside k outs within none = let no : [] ≡ within.object ∷ within.outer = sym none ∙ within.runs in absurd (cc)

-- what an open may send, where the entry that runs is that of one that lives
leaves_entry : (w : List Event) (bytes : List ℕ) (j k : ℕ) → Solitude (plain w) → IsUntried (outputs w) → IsWithinOpen j (outputs w) → IsSent k (plain w) bytes → FrameLeaves (outputs w) (plain w) bytes
leaves_entry w bytes j k a untried within leaving = elim (cases_eq j k) [
  | inl same ↦ by_entry k (subst (λ z. RunsInEntry z (outputs w)) same within.within) leaving
  | inr other ↦
      let l = lives_within j w a within in
      by_entry_beside j k within.within leaving (record { opening = l.0; lives = l.1; other = other; drive = one_is_drive (plain w) j k l.0 leaving.opening a l.1 leaving.lives other }) untried
]

-- none is closed directly after a STEP
not_closed : (w : List Event) (bytes : List ℕ) (more : List Out) (earlier : List Out) (n k : ℕ) → StandsInStep w (sent bytes ∷ more) → outputs w ≡ earlier ++ step n ∷ [] →
    IsSent k (plain w) bytes → ClosesNow k (plain w) → FrameLeaves (outputs w) (plain w) bytes
not_closed w bytes more earlier n k s at leaving why = absurd (s.closes bytes more refl earlier n at k leaving.opening leaving.lives why)

leaves_in_step : (w : List Event) (bytes : List ℕ) (more : List Out) → Solitude (plain w) → IsUntried (outputs w) → StandsInStep w (sent bytes ∷ more) → FrameStands (outputs w) → IsPut (plain w) bytes → FrameLeaves (outputs w) (plain w) bytes
leaves_in_step w bytes more a untried s (by_step earlier n at outside) (frames.by_reply b i taken m last alone is some) = by_reply outside (record { before = b; number = i; taken = taken; message = m; last = last; alone = alone; reply = is })
leaves_in_step w bytes more a untried s (by_step earlier n at outside) (frames.by_open k leaving due) = absurd (one_open leaving.opening (live k (plain w)) (s.due bytes more refl earlier n at k due) leaving.lives)
leaves_in_step w bytes more a untried s (by_step earlier n at outside) (frames.by_closing k leaving kind closes off) = not_closed w bytes more earlier n k s at leaving (inl (closes_off off))
leaves_in_step w bytes more a untried s (by_step earlier n at outside) (frames.by_drive_closing k leaving kind closes off) = not_closed w bytes more earlier n k s at leaving (inl (closes_off off))
leaves_in_step w bytes more a untried s (by_step earlier n at outside) (frames.by_drive_end k leaving kind closes why) = not_closed w bytes more earlier n k s at leaving (inl why)
leaves_in_step w bytes more a untried s (by_step earlier n at outside) (frames.by_unhooking k leaving kind closes lets) = not_closed w bytes more earlier n k s at leaving (inr lets)
leaves_in_step w bytes more a untried s (by_open j within) (frames.by_open k leaving due) = leaves_entry w bytes j k a untried within leaving
leaves_in_step w bytes more a untried s (by_open j within) (frames.by_closing k leaving kind closes off) = leaves_entry w bytes j k a untried within leaving
leaves_in_step w bytes more a untried s (by_open j within) (frames.by_drive_closing k leaving kind closes off) = leaves_entry w bytes j k a untried within leaving
leaves_in_step w bytes more a untried s (by_open j within) (frames.by_drive_end k leaving kind closes why) = leaves_entry w bytes j k a untried within leaving
leaves_in_step w bytes more a untried s (by_open j within) (frames.by_unhooking k leaving kind closes lets) = leaves_entry w bytes j k a untried within leaving
leaves_in_step w bytes more a untried s (by_open j within) (frames.by_reply b i taken m last alone is some) = elim s.silent [
  | inl quiet ↦ absurd (some_bytes bytes some (is ∙ quiet b i taken m last alone))
  | inr plainly ↦ absurd (not_outside j (outputs w) within.within plainly.1)
]

frame_leaves : (w : List Event) (bytes : List ℕ) (more : List Out) → Context w (sent bytes ∷ more) → FrameStands (outputs w) → IsPut (plain w) bytes → FrameLeaves (outputs w) (plain w) bytes
frame_leaves w bytes more c stands put = elim c.there [
  | inl first ↦ absurd first
  | inr s ↦ elim s.last [
    | inl untried ↦ leaves_in_step w bytes more c.alone untried s stands put
    | inr t ↦ by_entry t.whose t.within (t.sends bytes more refl)
  ]
]

-- RECORDS AFTER OTHERS

-- a record of the graph, a STEP, or another
data KindOf : Out → Type 0 where
  of_graph : (h : GraphRecord) → KindOf (graph h)
  of_step : (n : ℕ) → KindOf (step n)
  of_others : (o : Out) → is_graph o ≡ false → ((n : ℕ) → o ≡ step n → ⊥) → KindOf o

kind_of : (o : Out) → KindOf o
kind_of (graph h) = of_graph h
kind_of (step n) = of_step n
kind_of (sent bytes) = of_others (sent bytes) refl (λ n e. let no : sent bytes ≡ step n = e in cc)
kind_of (text bytes) = of_others (text bytes) refl (λ n e. let no : text bytes ≡ step n = e in cc)
kind_of (command depth line place expanded words) = of_others (command depth line place expanded words) refl (λ n e. let no : command depth line place expanded words ≡ step n = e in cc)
kind_of (result cause) = of_others (result cause) refl (λ n e. let no : result cause ≡ step n = e in cc)
kind_of (script what depth cause) = of_others (script what depth cause) refl (λ n e. let no : script what depth cause ≡ step n = e in cc)
kind_of (opened number kind server port own target) = of_others (opened number kind server port own target) refl (λ n e. let no : opened number kind server port own target ≡ step n = e in cc)
kind_of (tried number count) = of_others (tried number count) refl (λ n e. let no : tried number count ≡ step n = e in cc)
kind_of (advanced number place) = of_others (advanced number place) refl (λ n e. let no : advanced number place ≡ step n = e in cc)
kind_of (ended number cause) = of_others (ended number cause) refl (λ n e. let no : ended number cause ≡ step n = e in cc)
kind_of (part kind index offset bytes) = of_others (part kind index offset bytes) refl (λ n e. let no : part kind index offset bytes ≡ step n = e in cc)
kind_of (done status) = of_others (done status) refl (λ n e. let no : done status ≡ step n = e in cc)

told_put : (o : Out) (more : List Out) → is_graph o ≡ false → told (without_graph (o ∷ more)) ≡ puts o ∷ told (without_graph more)
told_put o more plainly = ap (λ b. told (cond (not b) (o ∷ without_graph more) (without_graph more))) plainly

plain_put : (w : List Event) (o : Out) → is_graph o ≡ false → plain (w ++ puts o ∷ []) ≡ plain w ++ puts o ∷ []
plain_put w o plainly = plain_events_append w (puts o ∷ []) ∙ ap (λ b. plain w ++ cond (not b) (puts o ∷ []) []) plainly

plain_graph : (w : List Event) (h : GraphRecord) → plain (w ++ puts (graph h) ∷ []) ≡ plain w
plain_graph w h = plain_events_append w (puts (graph h) ∷ []) ∙ append-nil (plain w)

-- a TRY leaves the graph as it is
within_after : (k j count : ℕ) (outs : List Out) → RunsInEntry k outs → RunsInEntry k (outs ++ tried j count ∷ [])
within_after k j count outs within = record {
  object = within.object;
  outer = within.outer;
  is_lowest = ap (λ (g : GraphSoFar). g.lowest k) (so_far_append outs (tried j count ∷ [])) ∙ within.is_lowest;
  runs = ap (λ (g : GraphSoFar). g.running) (so_far_append outs (tried j count ∷ [])) ∙ within.runs;
}

-- what a TRY says of the FRAME that comes next
followed_by : (k : ℕ) (before : List Event) (more : List Out) → IsFollowed k before (told (without_graph more)) → (bytes : List ℕ) (rest : List Out) → more ≡ sent bytes ∷ rest → IsSent k before bytes
followed_by k before more f bytes rest is =
    let next : puts (sent bytes) ∷ told (without_graph rest) ≡ puts (sent f.bytes) ∷ f.rest = sym (ap (λ z. told (without_graph z)) is) ∙ f.next in
    let same : bytes ≡ f.bytes = cc in
    subst (IsSent k before) (sym same) f.sends

put_context : (w : List Event) (o : Out) (more : List Out) → is_graph o ≡ false → ((n : ℕ) → o ≡ step n → ⊥) → Known (plain w) (puts o) → IsUntried (outputs (w ++ puts o ∷ [])) ⊎ StandsAfterTry (w ++ puts o ∷ []) more → Context w (o ∷ more) →
    Context (w ++ puts o ∷ []) more
put_context w o more plainly other known last c = record {
  alone = subst Solitude (sym (plain_put w o plainly)) (alone_then (plain w) (puts o) known c.alone);
  there = inr (record {
    due = λ bytes rest is earlier n at k due. absurd (other n (last_out (outputs w) earlier o (step n) (sym (outputs_append w (puts o ∷ [])) ∙ at)));
    closes = λ bytes rest is earlier n at k opening lives why. other n (last_out (outputs w) earlier o (step n) (sym (outputs_append w (puts o ∷ [])) ∙ at));
    silent = inl (λ b n taken m e alone.
        let l = same_last (plain w) b (puts o) (hears n taken m) (sym (plain_put w o plainly) ∙ e) in
        let no : puts o ≡ hears n taken m = l.last in absurd (cc));
    last = last;
  });
}

graph_context : (w : List Event) (h : GraphRecord) (more : List Out) → Context w (graph h ∷ more) → Context (w ++ puts (graph h) ∷ []) more
graph_context w h more c = record {
  alone = subst Solitude (sym (plain_graph w h)) c.alone;
  there = there_next c.there;
}
  where
    not_step : (earlier : List Out) (n : ℕ) → outputs (w ++ puts (graph h) ∷ []) ≡ earlier ++ step n ∷ [] → ⊥
    not_step earlier n at = let no : graph h ≡ step n = last_out (outputs w) earlier (graph h) (step n) (sym (outputs_append w (puts (graph h) ∷ [])) ∙ at) in absurd (cc)

    quiet_next : RepliesNothing (plain w) ⊎ (HaveNoGraph (graph h ∷ more) × IsOutside (outputs w)) → RepliesNothing (plain (w ++ puts (graph h) ∷ [])) ⊎ (HaveNoGraph more × IsOutside (outputs (w ++ puts (graph h) ∷ [])))
    quiet_next (inl nothing) = inl (subst RepliesNothing (sym (plain_graph w h)) nothing)
    quiet_next (inr plainly) = absurd (true≢false plainly.0.0)

    there_next : BeginsNoFrame (without_graph (graph h ∷ more)) ⊎ StandsInStep w (graph h ∷ more) → BeginsNoFrame (without_graph more) ⊎ StandsInStep (w ++ puts (graph h) ∷ []) more
    there_next (inl first) = inl first
    there_next (inr s) = inr (record {
      due = λ bytes rest is earlier n at k due. absurd (not_step earlier n at);
      closes = λ bytes rest is earlier n at k opening lives why. not_step earlier n at;
      silent = quiet_next s.silent;
      last = inl (λ before k count at. let no : graph h ≡ tried k count = last_out (outputs w) before (graph h) (tried k count) (sym (outputs_append w (puts (graph h) ∷ [])) ∙ at) in cc no);
    })

not_tried : (w : List Event) (o : Out) → ((k count : ℕ) → o ≡ tried k count → ⊥) → IsUntried (outputs (w ++ puts o ∷ []))
not_tried w o other = λ before k count at. other k count (last_out (outputs w) before o (tried k count) (sym (outputs_append w (puts o ∷ [])) ∙ at))

-- a whole output, of which each FRAME and each TRY has its place
module _ (all : List Out) (framed : FramesStand all) (tried_so : TriesStandWithin all) where
  leaves_so : (w : List Event) (o : Out) (more later : List Out) → all ≡ outputs w ++ (o ∷ (more ++ later)) → Known (plain w) (puts o) → Context w (o ∷ more) → LeavesSo w (puts o)
  leaves_so w (sent bytes) more later at known c = frame_leaves w bytes more c (framed (outputs w) (more ++ later) bytes at) known.written
  leaves_so w (tried k count) more later at known c = (tried_so (outputs w) (more ++ later) k count at).within
  leaves_so w (step number) more later at known c = tt
  leaves_so w _ more later at known c = tt

  next_at : (w : List Event) (o : Out) (rest : List Out) → all ≡ outputs w ++ (o ∷ rest) → all ≡ outputs (w ++ puts o ∷ []) ++ rest
  next_at w o rest at = at ∙ sym (append_assoc (outputs w) (o ∷ []) rest) ∙ ap (λ z. z ++ rest) (sym (outputs_append w (puts o ∷ [])))

  -- it is no TRY, or what stands next is known
  last_so : (w : List Event) (o : Out) (more later : List Out) → all ≡ outputs w ++ (o ∷ (more ++ later)) → is_graph o ≡ false → TriesSo (plain w) (puts o) (told (without_graph more)) →
      IsUntried (outputs (w ++ puts o ∷ [])) ⊎ StandsAfterTry (w ++ puts o ∷ []) more
  last_so w (tried k count) more later at plainly tries = inr (record {
    whose = k;
    within = subst (RunsInEntry k) (sym (outputs_append w (puts (tried k count) ∷ []))) (within_after k k count (outputs w) (tried_so (outputs w) (more ++ later) k count at).within);
    sends = subst (λ z. (bytes : List ℕ) (rest : List Out) → more ≡ sent bytes ∷ rest → IsSent k z bytes) (sym (plain_put w (tried k count) plainly)) (followed_by k (plain w ++ puts (tried k count) ∷ []) more tries);
  })
  last_so w (sent bytes) more later at plainly tries = inl (not_tried w (sent bytes) (λ k count is. let no : sent bytes ≡ tried k count = is in cc no))
  last_so w (text bytes) more later at plainly tries = inl (not_tried w (text bytes) (λ k count is. let no : text bytes ≡ tried k count = is in cc no))
  last_so w (command depth line place expanded words) more later at plainly tries =
      inl (not_tried w (command depth line place expanded words) (λ k count is. let no : command depth line place expanded words ≡ tried k count = is in cc no))
  last_so w (result cause) more later at plainly tries = inl (not_tried w (result cause) (λ k count is. let no : result cause ≡ tried k count = is in cc no))
  last_so w (script what depth cause) more later at plainly tries = inl (not_tried w (script what depth cause) (λ k count is. let no : script what depth cause ≡ tried k count = is in cc no))
  last_so w (opened number kind server port own target) more later at plainly tries =
      inl (not_tried w (opened number kind server port own target) (λ k count is. let no : opened number kind server port own target ≡ tried k count = is in cc no))
  last_so w (advanced number place) more later at plainly tries = inl (not_tried w (advanced number place) (λ k count is. let no : advanced number place ≡ tried k count = is in cc no))
  last_so w (ended number cause) more later at plainly tries = inl (not_tried w (ended number cause) (λ k count is. let no : ended number cause ≡ tried k count = is in cc no))
  last_so w (part kind index offset bytes) more later at plainly tries = inl (not_tried w (part kind index offset bytes) (λ k count is. let no : part kind index offset bytes ≡ tried k count = is in cc no))
  last_so w (done status) more later at plainly tries = inl (not_tried w (done status) (λ k count is. let no : done status ≡ tried k count = is in cc no))
  last_so w (step n) more later at plainly tries = inl (not_tried w (step n) (λ k count is. let no : step n ≡ tried k count = is in cc no))
  last_so w (graph h) more later at plainly tries = inl (not_tried w (graph h) (λ k count is. let no : graph h ≡ tried k count = is in cc no))

  one_told : (w : List Event) (o : Out) (more later : List Out) → KindOf o → all ≡ outputs w ++ (o ∷ (more ++ later)) → EachEvent Known (plain w) (told (without_graph (o ∷ more))) → EachThen TriesSo (plain w) (told (without_graph (o ∷ more))) →
      Context w (o ∷ more) →
      ((v : List Event) → all ≡ outputs v ++ (more ++ later) → EachEvent Known (plain v) (told (without_graph more)) → EachThen TriesSo (plain v) (told (without_graph more)) → Context v more → EachEvent LeavesSo v (told more)) →
      EachEvent LeavesSo w (told (o ∷ more))
  one_told w o more later (of_graph h) at known tries c next = (
    tt,
    next (w ++ puts (graph h) ∷ []) (next_at w (graph h) (more ++ later) at) (subst (λ z. EachEvent Known z (told (without_graph more))) (sym (plain_graph w h)) known)
        (subst (λ z. EachThen TriesSo z (told (without_graph more))) (sym (plain_graph w h)) tries) (graph_context w h more c),
  )
  one_told w o more later (of_step n) at known tries c next = absurd known.0.read
  one_told w o more later (of_others _ plainly other) at known tries c next =
      let here = subst (λ z. EachEvent Known (plain w) z) (told_put o more plainly) known in
      let then = subst (λ z. EachThen TriesSo (plain w) z) (told_put o more plainly) tries in (
        leaves_so w o more later at here.0 c,
        next (w ++ puts o ∷ []) (next_at w o (more ++ later) at) (subst (λ z. EachEvent Known z (told (without_graph more))) (sym (plain_put w o plainly)) here.1)
            (subst (λ z. EachThen TriesSo z (told (without_graph more))) (sym (plain_put w o plainly)) then.1) (put_context w o more plainly other here.0 (last_so w o more later at plainly then.0) c),
      )

  -- each of these records stands so
  pub all_told_so : (w : List Event) (more later : List Out) → all ≡ outputs w ++ (more ++ later) → EachEvent Known (plain w) (told (without_graph more)) → EachThen TriesSo (plain w) (told (without_graph more)) → Context w more →
      EachEvent LeavesSo w (told more)
  all_told_so w [] later at known tries c = tt
  all_told_so w (o ∷ more) later at known tries c = one_told w o more later (kind_of o) at known tries c (λ v a k t d. all_told_so v more later a k t d)

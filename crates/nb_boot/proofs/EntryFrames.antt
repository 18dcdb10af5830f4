-- What a frame brings the opens, by the history as by the machine, and what stands first in its step.
use Rattle.std.proofs.Common.{◌≡◌, ◌⊎◌, inl, inr, ℕ, ◌==◌, ◌||◌, Bool, true, false, cond, List, [], ◌∷◌, ◌++◌, map, Some, refl, sym, ◌∙◌, ap, subst, ne_eqb, eq-eqb}
use Rattle.std.specs.Prelude.{slice_get}
use Rattle.std.specs.List.{flat_map, list_any, AllByRecursion}
use Rattle.nb_tftp.proofs.BlockLemmas.{either_way}
use Rattle.std.proofs.lemmas.Bool.{cases_eq}
use Rattle.nb_defs.specs.Records.{In, frame, tick, Out}
use Rattle.nb_ledger.specs.Flat.{way_number}
use Rattle.nb_ledger.specs.declared.event.Way.{Way}
use Rattle.nb_ledger.specs.declared.event.Way.TheVariants as way
use Rattle.nb_ipv4.specs.PacketText.{PacketParts}
use Rattle.nb_ipv4.specs.UdpText.{UdpParts}
use Rattle.nb_ipv4.specs.EchoText.{EchoParts}
use Rattle.nb_tcpseg.specs.SegmentText.{SegmentParts}
use Rattle.nb_wire.specs.declared.address.Mac.{Mac}
use Rattle.nb_stack.specs.Client.{Client}
use Rattle.nb_stack.specs.Brings.{Brought, datagram, echo_reply, segment, Brings}
use Rattle.nb_stack.specs.Takes.{reply_of}
use Rattle.nb_stack.proofs.MessageLaws.{message_one}
use Rattle.nb_tftp.specs.History.{Call, came as came_by}
use Rattle.nb_tftp.specs.Received.{received}
use Rattle.nb_traced.specs.Plain.{without_graph}
use Rattle.nb_machine.specs.Lives.{Live}
use Rattle.nb_machine.specs.Kinds.{is_for, is_reply_for, has_port, is_segment_for}
use Rattle.nb_machine.specs.Connections.{arrived_segment}
use Rattle.nb_machine.specs.Network.{is_for_one, on_net0}
use Rattle.nb_machine.specs.States.{State, net0}
use Rattle.nb_laws.specs.Events.{Event, hears}
use Rattle.nb_laws.specs.Histories.{IsRead, client}
use Rattle.nb_laws.specs.Lists.{Opening, live, call_at, time}
use Rattle.nb_openlaws.specs.Standings.{AgreesDevice, AgreesLive, AgreesState, AreLive, lives_among, live_opening}
use Rattle.nb_openlaws.proofs.HeardFrames.{both_true, found, for_as_told, heard_by, streamed_by, segment_as_told, port_as_told, none_at, none_for, none_datagram, none_reply, none_segment, reply_as_told}
use Rattle.nb_openlaws.proofs.Networks.{back_of, front_of}
use Rattle.nb_openlaws.proofs.UsedEvents.{IsUsed, BringsNone, live_one, no_call}
use Rattle.nb_traced.specs.Entries.{EntryArrival, came_to}
use Rattle.nb_talks.specs.Talking.{Came, by_segment}
use Rattle.nb_webs.specs.Webs.{NoTask}
use Rattle.nb_laws.specs.Webs.{came_at, comes_to_port, ComesToNone}
use Rattle.nb_traced.specs.Outputs.{Arrived}
use Rattle.nb_network.specs.Takes.{ArrivesAt, at_all, at_connection, at_echo, at_none, at_port, arrival, BeginsWithEntry}
use Rattle.nb_boot.specs.Entries.{way_of_call, event_number, segment_arrival, arrival_at}
use Rattle.nb_boot.specs.Stepped.{EntersWith, StartsSo}
use Rattle.nb_boot.proofs.EntryComings.{HaveNoGraph, no_graph_in}

-- What comes with an event: to each open what the machine says, what stands first in the step, and a reply only where nothing comes.
pub record StepComes (es : List Event) (e : Event) (came : List Arrived) (more : List Out) : Type 0 where
  pub counted : (k : ℕ) → came_to k came ≡ arrival_at k es e
  pub starts_so : StartsSo es e more
  pub silent : (n : ℕ) (bytes : List ℕ) (m : Brought) → e ≡ hears n bytes m → (ComesToNone es m → reply_of (client es) m ≡ []) ⊎ HaveNoGraph more

pub none_some : {A : Type 0} (x : A) (rest all : List A) → all ≡ [] → all ≡ x ∷ rest → ⊥
none_some x rest all none some = let no : [] ≡ x ∷ rest = sym none ∙ some in absurd (cc)

pub one_open : (o : Opening) (os : List Opening) → os ≡ [] → os ≡ o ∷ [] → ⊥
one_open o os none one = let no : [] ≡ o ∷ [] = sym none ∙ one in absurd (cc)

-- NOTHING COMES

-- what an event brings, by the calls and by the segments of it
pub arrivals_are : (k : ℕ) (es : List Event) (e : Event) (calls : List Call) (segments : List (Came NoTask)) → call_at k es e ≡ calls → came_at k es e ≡ segments →
    arrival_at k es e ≡ map (λ c. record { number = event_number e; way = way_of_call c }) calls ++ flat_map (segment_arrival e) segments
arrivals_are k es e calls segments by_calls by_segments =
    ap (λ cs. map (λ c. record { number = event_number e; way = way_of_call c }) cs ++ flat_map (segment_arrival e) (came_at k es e)) by_calls
    ∙ ap (λ ss. map (λ c. record { number = event_number e; way = way_of_call c }) calls ++ flat_map (segment_arrival e) ss) by_segments

pub none_arrives : (k : ℕ) (es : List Event) (e : Event) → BringsNone k es e → arrival_at k es e ≡ []
none_arrives k es e none = arrivals_are k es e [] [] none.0 none.1

none_counted : (es : List Event) (e : Event) → ((k : ℕ) → BringsNone k es e) → (k : ℕ) → [] ≡ arrival_at k es e
none_counted es e none k = sym (none_arrives k es e (none k))

pub enters_none : (by : Way) (comes : ℕ → List EntryArrival) (more : List Out) → ((k : ℕ) → comes k ≡ []) → without_graph more ≡ more → EntersWith by comes more
enters_none by comes more none plainly = record { enters = λ k arrives rest is. absurd (none_some arrives rest (comes k) (none k) is); still = λ _. plainly }

-- ONE THING COMES TO ONE OPEN

one_to : (k j n : ℕ) (by : Way) (b : Bool) → (j == k) ≡ b → came_to k (arrival j by n ∷ []) ≡ cond b (record { number = n; way = way_number by } ∷ []) []
one_to k j n by true e = ap (λ b. cond b (record { number = n; way = way_number by } ∷ []) [] ++ []) e
one_to k j n by false e = ap (λ b. cond b (record { number = n; way = way_number by } ∷ []) [] ++ []) e

one_counted : (es : List Event) (e : Event) (j : ℕ) (by : Way) → arrival_at j es e ≡ record { number = event_number e; way = way_number by } ∷ [] → ((k : ℕ) → (j ≡ k → ⊥) → BringsNone k es e) → (k : ℕ) →
    came_to k (arrival j by (event_number e) ∷ []) ≡ arrival_at k es e
one_counted es e j by one others k = elim (cases_eq j k) [
  | inl same ↦ one_to k j (event_number e) by true (eq-eqb j k same) ∙ sym (subst (λ z. arrival_at z es e ≡ record { number = event_number e; way = way_number by } ∷ []) same one)
  | inr other ↦ one_to k j (event_number e) by false (ne_eqb j k other) ∙ sym (none_arrives k es e (others k other))
]

enters_one : (j n : ℕ) (by : Way) (comes : ℕ → List EntryArrival) (arrives : EntryArrival) (more : List Out) → comes j ≡ arrives ∷ [] → BeginsWithEntry (arrival j by n ∷ []) more → EntersWith by comes more
enters_one j n by comes arrives more one first = record {
  enters = λ k c rest is. record { port = first.0; more = first.1; all = first.2 };
  still = λ none. absurd (none_some arrives [] (comes j) (none j) one);
}

-- an open that lives, and the others to which nothing comes
abbrev IsOther : ℕ → List Event → Event → ℕ → Type 0
IsOther j es e k = (j ≡ k → ⊥) → BringsNone k es e

all_others : (es : List Event) (e : Event) (j : ℕ) (ls : List Live) → AllByRecursion (λ l. BringsNone l.number es e) ls → AllByRecursion (λ l. IsOther j es e l.number) ls
all_others es e j [] h = tt
all_others es e j (l ∷ ls) h = (λ other. h.0, all_others es e j ls h.1)

others_around : (es : List Event) (e : Event) (l : Live) (before behind : List Live) → AllByRecursion (λ x. BringsNone x.number es e) before → AllByRecursion (λ x. BringsNone x.number es e) behind →
    AllByRecursion (λ x. IsOther l.number es e x.number) (before ++ l ∷ behind)
others_around es e l [] behind front back = (λ other. absurd (other refl), all_others es e l.number behind back)
others_around es e l (x ∷ before) behind front back = (λ other. front.0, others_around es e l before behind front.1 back)

others_none : (es : List Event) (e : Event) (s : State) (before behind : List Live) (l : Live) → AgreesState es s → IsUsed e → s.live ≡ before ++ l ∷ behind → AllByRecursion (λ x. BringsNone x.number es e) before →
    AllByRecursion (λ x. BringsNone x.number es e) behind → (k : ℕ) → (l.number ≡ k → ⊥) → BringsNone k es e
others_none es e s before behind l a used lives front back k other = either_way (lives_among k s.live)
    (λ some. found (IsOther l.number es e) k s.live (subst (AllByRecursion (λ x. IsOther l.number es e x.number)) (sym lives) (others_around es e l before behind front back)) some other)
    (λ away. no_call k es e used (a.others k away))

pub lives_there : (es : List Event) (l : Live) → AgreesLive es l → live l.number es ≡ live_opening l ∷ []
lives_there es l h = live_one l.number es (live_opening l) h.opening h.lives

-- A FRAME

the_link : (devices : List Client) (c link : Client) → devices ≡ c ∷ [] → slice_get devices net0 ≡ Some link → c ≡ link
the_link [] c link e got = absurd (cc)
the_link (x ∷ xs) c link e got = let same : x ≡ link = cc in let head : x ≡ c = cc in sym head ∙ same

-- the frame brings this one message
one_message : (es : List Event) (s : State) (link : Client) (bytes : List ℕ) (m m0 : Brought) → AgreesDevice es s → slice_get s.devices net0 ≡ Some link →
    Brings (client es).up (client es).mac (client es).address bytes m → Brings link.up link.mac link.address bytes m0 → m ≡ m0
one_message es s link bytes m m0 device got read is =
    message_one (client es).up (client es).mac (client es).address bytes m m0 read
    (subst (λ (c : Client). Brings c.up c.mac c.address bytes m0) (sym (the_link s.devices (client es) link device got)) is)

message_of : (n i : ℕ) (b bytes : List ℕ) (x y : Brought) → hears n b x ≡ hears i bytes y → x ≡ y
message_of n i b bytes x y e = cc

datagram_comes : (es : List Event) (s : State) (n : ℕ) (b : List ℕ) (p : PacketParts) (d : UdpParts) (before behind : List Live) (l : Live) (more : List Out) → AgreesState es s →
    s.live ≡ before ++ l ∷ behind → is_for net0 p d l ≡ true →
    list_any (is_for net0 p d) before ≡ false → list_any (is_for net0 p d) behind ≡ false → BeginsWithEntry (arrival l.number way.Up n ∷ []) more → StepComes es (hears n b (datagram p d)) (arrival l.number way.Up n ∷ []) more
datagram_comes es s n b p d before behind l more agrees lives here front back first =
    let e = hears n b (datagram p d) in
    let each : AreLive es (before ++ l ∷ behind) = subst (AreLive es) lives agrees.each in
    let own = back_of es before (l ∷ behind) each in
    let call = came_by (received n d.src_port d.body) (time es) in
    let heard : call_at l.number es e ≡ call ∷ [] = heard_by es n b (datagram p d) l own.0 ∙ ap (λ z. cond z (call ∷ []) []) (for_as_told l p d own.0.on_net0 ∙ here) in
    let one : arrival_at l.number es e ≡ record { number = n; way = 0 } ∷ [] = arrivals_are l.number es e (call ∷ []) [] heard (streamed_by es n b (datagram p d) l own.0) in
    let others = others_none es e s before behind l agrees tt lives (none_datagram es n b p d before (front_of es before (l ∷ behind) each) front) (none_datagram es n b p d behind own.1 back) in
    record {
      counted = λ k. one_counted es e l.number way.Up one others k;
      starts_so = enters_one l.number n way.Up (λ k. arrival_at k es e) (record { number = n; way = 0 }) more one first;
      silent = λ i bytes m is. inl (λ none. subst (λ z. reply_of (client es) z ≡ []) (message_of n i b bytes (datagram p d) m is) refl);
    }

echo_comes : (es : List Event) (s : State) (n : ℕ) (b : List ℕ) (p : PacketParts) (x : EchoParts) (before behind : List Live) (l : Live) (more : List Out) → AgreesState es s →
    s.live ≡ before ++ l ∷ behind → is_reply_for net0 p x l ≡ true →
    list_any (is_reply_for net0 p x) before ≡ false → list_any (is_reply_for net0 p x) behind ≡ false → BeginsWithEntry (arrival l.number way.Up n ∷ []) more → StepComes es (hears n b (echo_reply p x)) (arrival l.number way.Up n ∷ []) more
echo_comes es s n b p x before behind l more agrees lives here front back first =
    let e = hears n b (echo_reply p x) in
    let each : AreLive es (before ++ l ∷ behind) = subst (AreLive es) lives agrees.each in
    let own = back_of es before (l ∷ behind) each in
    let call = came_by (received n 0 x.body) (time es) in
    let heard : call_at l.number es e ≡ call ∷ [] = heard_by es n b (echo_reply p x) l own.0 ∙ ap (λ z. cond z (call ∷ []) []) (reply_as_told l p x own.0.on_net0 ∙ here) in
    let one : arrival_at l.number es e ≡ record { number = n; way = 0 } ∷ [] = arrivals_are l.number es e (call ∷ []) [] heard (streamed_by es n b (echo_reply p x) l own.0) in
    let others = others_none es e s before behind l agrees tt lives (none_reply es n b p x before (front_of es before (l ∷ behind) each) front) (none_reply es n b p x behind own.1 back) in
    record {
      counted = λ k. one_counted es e l.number way.Up one others k;
      starts_so = enters_one l.number n way.Up (λ k. arrival_at k es e) (record { number = n; way = 0 }) more one first;
      silent = λ i bytes m is. inl (λ none. subst (λ z. reply_of (client es) z ≡ []) (message_of n i b bytes (echo_reply p x) m is) refl);
    }

-- a segment to the port of a connection isn't replied to
port_taken : (es : List Event) (from : Mac) (p : PacketParts) (g : SegmentParts) (l : Live) → AgreesLive es l → is_segment_for net0 p g l ≡ true → ComesToNone es (segment from p g) → ⊥
port_taken es from p g l own here none =
    let at : has_port net0 g.dst_port l ≡ true = (both_true _ _ (both_true _ _ here).0).0 in
    let some : list_any (comes_to_port (segment from p g)) (live l.number es) ≡ true =
    ap (list_any (comes_to_port (segment from p g))) (lives_there es l own) ∙ ap (λ b. b || false) (port_as_told l from p g own.on_net0 ∙ at) in
    let no : true ≡ false = sym some ∙ none l.number in absurd (cc)

segment_comes : (es : List Event) (s : State) (n : ℕ) (b : List ℕ) (from : Mac) (p : PacketParts) (g : SegmentParts) (before behind : List Live) (l : Live) (more : List Out) → AgreesState es s →
    s.live ≡ before ++ l ∷ behind → is_segment_for net0 p g l ≡ true →
    list_any (is_segment_for net0 p g) before ≡ false → list_any (is_segment_for net0 p g) behind ≡ false → BeginsWithEntry (arrival l.number way.Up n ∷ []) more → StepComes es (hears n b (segment from p g)) (arrival l.number way.Up n ∷ []) more
segment_comes es s n b from p g before behind l more agrees lives here front back first =
    let e = hears n b (segment from p g) in
    let each : AreLive es (before ++ l ∷ behind) = subst (AreLive es) lives agrees.each in
    let own = back_of es before (l ∷ behind) each in
    let c : Came NoTask = by_segment (arrived_segment n g) (time es) in
    let streamed : came_at l.number es e ≡ c ∷ [] = streamed_by es n b (segment from p g) l own.0 ∙ ap (λ z. cond z (c ∷ []) []) (segment_as_told l p g own.0.on_net0 ∙ here) in
    let one : arrival_at l.number es e ≡ record { number = n; way = 0 } ∷ [] = arrivals_are l.number es e [] (c ∷ []) (heard_by es n b (segment from p g) l own.0) streamed in
    let others = others_none es e s before behind l agrees tt lives (none_segment es n b from p g before (front_of es before (l ∷ behind) each) front) (none_segment es n b from p g behind own.1 back) in
    record {
      counted = λ k. one_counted es e l.number way.Up one others k;
      starts_so = enters_one l.number n way.Up (λ k. arrival_at k es e) (record { number = n; way = 0 }) more one first;
      silent = λ i bytes m is. inl (λ none. absurd (port_taken es from p g l own.0 here (subst (ComesToNone es) (sym (message_of n i b bytes (segment from p g) m is)) none)));
    }

frame_of : (bytes b : List ℕ) → frame bytes ≡ frame b → bytes ≡ b
frame_of bytes b e = cc

pub frame_comes : (es : List Event) (s : State) (n : ℕ) (r : In) (bytes : List ℕ) (m : Brought) (came : List Arrived) (more : List Out) → frame bytes ≡ r → AgreesState es s → AgreesDevice es s →
    IsRead es (hears n bytes m) → ArrivesAt s n r came → BeginsWithEntry came more → StepComes es (hears n bytes m) came more
frame_comes es s n r bytes m came more same agrees device read (at_none r0 where0 b0 link m0 (on_net0 b) got is none) first =
    let eb = frame_of bytes b same in
    let em = one_message es s link b m m0 device got (subst (λ z. Brings (client es).up (client es).mac (client es).address z m) eb read) is in
    let e = hears n bytes m in
    let nothing_comes : (k : ℕ) → BringsNone k es e = none_at es e s tt agrees (none_for es n bytes m s.live agrees.each (subst (λ z. is_for_one net0 z s.live ≡ false) (sym em) none)) in
    record {
      counted = none_counted es e nothing_comes;
      starts_so = enters_none way.Up (λ k. arrival_at k es e) more (λ k. none_arrives k es e (nothing_comes k)) first;
      silent = λ i taken x at. inr (no_graph_in more first);
    }
frame_comes es s n r bytes m came more same agrees device read (at_port r0 where0 b0 link p d before behind l (on_net0 b) got is lives here front back) first =
    let eb = frame_of bytes b same in
    let em = one_message es s link b m (datagram p d) device got (subst (λ z. Brings (client es).up (client es).mac (client es).address z m) eb read) is in
    subst (λ z. StepComes es (hears n bytes z) (arrival l.number way.Up n ∷ []) more) (sym em) (datagram_comes es s n bytes p d before behind l more agrees lives here front back first)
frame_comes es s n r bytes m came more same agrees device read (at_echo r0 where0 b0 link p x before behind l (on_net0 b) got is lives here front back) first =
    let eb = frame_of bytes b same in
    let em = one_message es s link b m (echo_reply p x) device got (subst (λ z. Brings (client es).up (client es).mac (client es).address z m) eb read) is in
    subst (λ z. StepComes es (hears n bytes z) (arrival l.number way.Up n ∷ []) more) (sym em) (echo_comes es s n bytes p x before behind l more agrees lives here front back first)
frame_comes es s n r bytes m came more same agrees device read (at_connection r0 where0 b0 link from p g before behind l (on_net0 b) got is lives here front back) first =
    let eb = frame_of bytes b same in
    let em = one_message es s link b m (segment from p g) device got (subst (λ z. Brings (client es).up (client es).mac (client es).address z m) eb read) is in
    subst (λ z. StepComes es (hears n bytes z) (arrival l.number way.Up n ∷ []) more) (sym em) (segment_comes es s n bytes from p g before behind l more agrees lives here front back first)
frame_comes es s n r bytes m came more same agrees device read (at_all ms) first = absurd (let no : frame bytes ≡ tick ms = same in cc)

-- What a call on an open's objects tells, as records: a call on these objects, for an open of any kind.
use Rattle.std.proofs.Common.{◌≡◌, ◌⊎◌, inl, inr, ℕ, ◌==◌, Bool, true, false, cond, List, [], ◌∷◌, ◌++◌, take, drop, map, Option, Some, None, refl, sym, ◌∙◌, ap, subst, arith}
use Rattle.std.proofs.lemmas.Bool.{false≢true}
use Rattle.std.proofs.lemmas.Bool.Decides.{nat_tests}
use Rattle.std.specs.List.{AllByRecursion}
use Rattle.nb_terms.specs.declared.acts.SendTo.{SendTo}
use Rattle.nb_conns.specs.StreamTags.{stream_tag_number}
use Rattle.nb_conns.specs.declared.stream_tag.StreamTag.TheVariants.{TwoSegments}
use Rattle.nb_defs.specs.Records.{Out, sent, advanced, graph}
use Rattle.nb_ledger.specs.declared.event.GraphEvent.{GraphEvent}
use Rattle.nb_ledger.specs.declared.event.GraphEvent.TheVariants.{Made, Held, LetGo, Plugged, Entered, Left, Dropped, Closed, Unplugged, Freed}
use Rattle.nb_ledger.specs.declared.event.Way.{Way}
use Rattle.nb_ledger.specs.declared.event.Way.TheVariants.{Up, Down, Close, Time}
use Rattle.nb_ledger.specs.declared.port.Port.{Port}
use Rattle.nb_ledger.specs.Flat.{Notice, event, message, events_part, flat}
use Rattle.nb_ledger.specs.GraphRun.{GraphState, GraphRunOf}
use Rattle.nb_graph.specs.Whole.{port_at}
use Rattle.nb_frames.specs.Frames.{is_one_of}
use Rattle.nb_frames.specs.Within.{IsEventWithin}
use Rattle.nb_nodes.specs.declared.tag.Tag.TheVariants.{Advance, Try}
use Rattle.nb_nodes.specs.Tags.{tag_number}
use Rattle.nb_opens.specs.Notices.{tells}
use Rattle.nb_stack.specs.Client.{Client}
use Rattle.nb_stack.specs.Sends.{put_on, way_of}
use Rattle.nb_machine.specs.Sendings.{has_route, send_records, try_records}
use Rattle.nb_traced.specs.Pieces.{AreInner, BeginsBy, EntersFirst, IsCallOn, IsInnerEvent, IsOfOpen, IsOutsideWay, StandOnEntries, event_records, is_entry_of, none_more, happens_then, puts_then}
use Rattle.nb_chains.specs.Shapes.{EndsInEntry, GoesDownOut, HasShape, IsNoCall, IsTagUp, LeadsDown, SendsNone}
use Rattle.nb_webchains.specs.Orders.{AreNoCalls, LeavesOnEntry, StandInOrder, enters_object}
use Rattle.nb_traced.proofs.RecordLemmas.{AreAside, put_aside}
use Rattle.nb_teller.specs.declared.speaker.Speaker.{Speaker}
use Rattle.nb_teller.specs.Speakers.{datagram_of}
use Rattle.nb_teller.specs.Tellings.{is_delivery, message_records, told_records, try_by, two_segments}
use Rattle.nb_open.proofs.FlatEvents.{event_in, in_flat}

pub each_append : {X : Type 0} (P : X → Type 0) (xs ys : List X) → AllByRecursion P xs → AllByRecursion P ys → AllByRecursion P (xs ++ ys)
each_append P [] ys p q = q
each_append P (x ∷ xs) ys p q = (p.0, each_append P xs ys p.1 q)

-- EVENTS

pub inner_event : (x : ℕ) (g : GraphEvent) → IsNoCall x g → IsInnerEvent x g
inner_event x (Entered p Up) h = h
inner_event x (Entered p Time) h = h
inner_event x (Entered p Down) h = h
inner_event x (Entered p Close) h = h
inner_event x (Made y kind) h = h
inner_event x (Held y) h = h
inner_event x (LetGo y) h = h
inner_event x (Plugged p q) h = h
inner_event x (Left p) h = h
inner_event x (Dropped p) h = h
inner_event x (Closed p cause) h = h
inner_event x (Unplugged p q) h = h
inner_event x (Freed y) h = h

entry_flat : (x : ℕ) (g : GraphEvent) → enters_object x (flat g) ≡ is_entry_of x g
entry_flat x (Entered p way) = refl
entry_flat x (Made y kind) = refl
entry_flat x (Held y) = refl
entry_flat x (LetGo y) = refl
entry_flat x (Plugged p q) = refl
entry_flat x (Left p) = refl
entry_flat x (Dropped p) = refl
entry_flat x (Closed p cause) = refl
entry_flat x (Unplugged p q) = refl
entry_flat x (Freed y) = refl

same_number : (x : ℕ) → (x == x) ≡ true
same_number x = grind (arith, nat_tests)

-- an entry of x is one by its trace
enters_itself : (x : ℕ) (p : Port) (way : Way) → p.obj.0 ≡ x → enters_object x (flat (Entered p way)) ≡ true
enters_itself x p way is = ap (λ z. z == x) is ∙ same_number x

pub events_told : (net : Client) (who : Speaker) (es : List GraphEvent) → told_records net who (map tells es) ≡ event_records es
events_told net who [] = refl
events_told net who (e ∷ es) = ap (λ r. graph (flat e) ∷ r) (events_told net who es)

-- MESSAGES

of_try : (k : ℕ) (try : Option ℕ) → AllByRecursion (IsOfOpen k) (try_records k try)
of_try k None = tt
of_try k (Some n) = (refl, tt)

of_send : (net : Client) (k : ℕ) (try : Option ℕ) (m : SendTo) → AllByRecursion (IsOfOpen k) (send_records net k try m)
of_send net k try m = by (has_route net m)
  where
    by : (r : Bool) → AllByRecursion (IsOfOpen k) (cond r (try_records k try ++ (sent (put_on net m (way_of net m)) ∷ [])) [])
    by true = each_append (IsOfOpen k) (try_records k try) (sent (put_on net m (way_of net m)) ∷ []) (of_try k try) (tt, tt)
    by false = tt

-- the records of a message are the open's
pub of_message : (net : Client) (who : Speaker) (tag a b : ℕ) (bytes : List ℕ) → AllByRecursion (IsOfOpen who.number) (message_records net who tag a b bytes)
of_message net who tag a b bytes = by (is_delivery tag) (tag == tag_number Advance) (tag == stream_tag_number TwoSegments)
  where
    by : (f r t : Bool) → AllByRecursion (IsOfOpen who.number) (cond f [] (cond r (advanced who.number a ∷ []) (cond t (two_segments net who a b bytes) (send_records net who.number (cond (tag == tag_number Try) (Some a) None) (datagram_of who b bytes)))))
    by true r t = tt
    by false true t = (refl, tt)
    by false false true = each_append (IsOfOpen who.number) (send_records net who.number None (datagram_of who 0 (take b bytes))) (send_records net who.number (try_by a) (datagram_of who 0 (drop b bytes)))
        (of_send net who.number None (datagram_of who 0 (take b bytes))) (of_send net who.number (try_by a) (datagram_of who 0 (drop b bytes)))
    by false false false = of_send net who.number (cond (tag == tag_number Try) (Some a) None) (datagram_of who b bytes)

-- it is none of the graph's
pub puts_aside : (k : ℕ) (outs : List Out) → AllByRecursion (IsOfOpen k) outs → AreAside outs
puts_aside k [] h = tt
puts_aside k (o ∷ outs) h = (put_aside k o h.0, puts_aside k outs h.1)

-- what is given to the user has no records
up_told : (net : Client) (who : Speaker) (tag a b : ℕ) (bytes : List ℕ) → is_delivery tag ≡ true → message_records net who tag a b bytes ≡ []
up_told net who tag a b bytes is = rw (is) refl

pub up_delivers : (tag : ℕ) → IsTagUp tag → is_delivery tag ≡ true
up_delivers tag (inl e) = ap is_delivery e
up_delivers tag (inr e) = ap is_delivery e

-- IN WHICH ORDER

-- Each message is a delivery, or stands directly after an event by which x is entered, or after another message; `entered` says whether the first may.
abbrev pub LeavesInOrder : ℕ → Bool → List Notice → Type 0
LeavesInOrder x entered [] = Unit {0}
LeavesInOrder x entered (event e ∷ ns) = LeavesInOrder x (enters_object x e) ns
LeavesInOrder x entered (message from tag rec a b bytes ∷ ns) = ((is_delivery tag ≡ true) ⊎ (entered ≡ true)) × LeavesInOrder x entered ns

-- Where x is entered so from outside, that is the first event, and the only such entry.
abbrev pub AreInOrder : ℕ → Option GraphEvent → List Notice → Type 0
AreInOrder x None ns = LeavesInOrder x false ns × AreNoCalls x ns
AreInOrder x (Some e) ns = (rest : List Notice) × (ns ≡ tells e ∷ rest) × LeavesInOrder x true rest × AreNoCalls x rest

module _ (x : ℕ) where
  leaves_weaker : (b : Bool) (ns : List Notice) → LeavesInOrder x false ns → LeavesInOrder x b ns
  leaves_weaker b [] h = tt
  leaves_weaker b (event e ∷ ns) h = h
  leaves_weaker b (message from tag rec a c bytes ∷ ns) (inl up, h) = (inl up, leaves_weaker b ns h)
  leaves_weaker b (message from tag rec a c bytes ∷ ns) (inr is, h) = absurd (false≢true is)

  leaves_more : (b : Bool) (ns more : List Notice) → LeavesInOrder x b ns → LeavesInOrder x false more → LeavesInOrder x b (ns ++ more)
  leaves_more b [] more h k = leaves_weaker b more k
  leaves_more b (event e ∷ ns) more h k = leaves_more (enters_object x e) ns more h k
  leaves_more b (message from tag rec a c bytes ∷ ns) more h k = (h.0, leaves_more b ns more h.1 k)

  no_calls_more : (ns more : List Notice) → AreNoCalls x ns → AreNoCalls x more → AreNoCalls x (ns ++ more)
  no_calls_more [] more h k = k
  no_calls_more (event e ∷ ns) more h k = (h.0, no_calls_more ns more h.1 k)
  no_calls_more (message from tag rec a c bytes ∷ ns) more h k = no_calls_more ns more h k

  -- with more after them, by which x isn't entered from outside
  pub order_more : (entry : Option GraphEvent) (ns more : List Notice) → AreInOrder x entry ns → AreInOrder x None more → AreInOrder x entry (ns ++ more)
  order_more None ns more h k = (leaves_more false ns more h.0 k.0, no_calls_more ns more h.1 k.1)
  order_more (Some e) ns more (rest, is, leaves, calls) k = (rest ++ more, ap (λ z. z ++ more) is, leaves_more true rest more leaves k.0, no_calls_more rest more calls k.1)

-- OF THE THREE OF AN OPEN BY HTTP

leaves_entry : (x : ℕ) (b : Bool) (ns : List Notice) → LeavesOnEntry x b ns → LeavesInOrder x b ns
leaves_entry x b [] h = tt
leaves_entry x b (event e ∷ ns) h = leaves_entry x (enters_object x e) ns h
leaves_entry x b (message from tag rec a c bytes ∷ ns) h = (inr h.0, leaves_entry x b ns h.2)

pub web_order : (x : ℕ) (entry : Option GraphEvent) (ns : List Notice) → StandInOrder x entry ns → AreInOrder x entry ns
web_order x None ns h = (leaves_entry x false ns h.0, h.1)
web_order x (Some e) ns (rest, is, leaves, calls) = (rest, is, leaves_entry x true rest leaves, calls)

-- OF A CHAIN

module _ (x : ℕ) where
  leaves_above : (b : Bool) (ns : List Notice) → SendsNone x ns → LeavesInOrder x b ns
  leaves_above b [] h = tt
  leaves_above b (event e ∷ ns) h = leaves_above (enters_object x e) ns h.1
  leaves_above b (message from tag rec a c bytes ∷ ns) h = (inl (up_delivers tag h.0), leaves_above b ns h.1)

  no_calls_above : (ns : List Notice) → SendsNone x ns → AreNoCalls x ns
  no_calls_above [] h = tt
  no_calls_above (event e ∷ ns) h = (h.0, no_calls_above ns h.1)
  no_calls_above (message from tag rec a c bytes ∷ ns) h = no_calls_above ns h.1

  -- where nothing goes down
  pub above_order : (ns : List Notice) → SendsNone x ns → AreInOrder x None ns
  above_order ns h = (leaves_above false ns h, no_calls_above ns h)

  leaves_down : (downs back : List Notice) → AllByRecursion (GoesDownOut x) downs → SendsNone x back → LeavesInOrder x true (downs ++ back)
  leaves_down [] back h k = leaves_above true back k
  leaves_down (event e ∷ downs) back h k = absurd h.0
  leaves_down (message from tag rec a c bytes ∷ downs) back h k = (inr refl, leaves_down downs back h.1 k)

  no_calls_down : (downs back : List Notice) → AllByRecursion (GoesDownOut x) downs → SendsNone x back → AreNoCalls x (downs ++ back)
  no_calls_down [] back h k = no_calls_above back k
  no_calls_down (event e ∷ downs) back h k = absurd h.0
  no_calls_down (message from tag rec a c bytes ∷ downs) back h k = no_calls_down downs back h.1 k

  leaves_events : (b : Bool) (es : List GraphEvent) (ns : List Notice) → ((c : Bool) → LeavesInOrder x c ns) → LeavesInOrder x b (map tells es ++ ns)
  leaves_events b [] ns h = h b
  leaves_events b (e ∷ es) ns h = leaves_events (enters_object x (flat e)) es ns h

  leaves_after : (b : Bool) (outer : List GraphEvent) (ns : List Notice) → LeavesInOrder x true ns → LeavesInOrder x b (map tells (outer ++ Entered (port_at x 0) Down ∷ []) ++ ns)
  leaves_after b [] ns h = subst (λ z. LeavesInOrder x z ns) (sym (enters_itself x (port_at x 0) Down refl)) h
  leaves_after b (e ∷ outer) ns h = leaves_after (enters_object x (flat e)) outer ns h

  leaves_by : (first : List GraphEvent) (downs back : List Notice) → EndsInEntry x first downs → AllByRecursion (GoesDownOut x) downs → SendsNone x back → LeavesInOrder x false (map tells first ++ (downs ++ back))
  leaves_by first [] back ends h k = leaves_events false first back (λ c. leaves_above c back k)
  leaves_by first (d ∷ downs) back ends h k =
      subst (λ z. LeavesInOrder x false (map tells z ++ ((d ∷ downs) ++ back))) (sym ends.1) (leaves_after false ends.0 ((d ∷ downs) ++ back) (leaves_down (d ∷ downs) back h k))

  no_calls_first : (es : List GraphEvent) → AllByRecursion (IsNoCall x) es → AreNoCalls x (map tells es)
  no_calls_first [] h = tt
  no_calls_first (e ∷ es) h = ((e, refl, h.0), no_calls_first es h.1)

  pub chain_order : (entry : Option GraphEvent) (ns : List Notice) → HasShape x entry ns → AreInOrder x entry ns
  chain_order None ns h =
      let begins : LeadsDown x None h.first h.downs = h.begins in
      subst (AreInOrder x None) (sym h.all)
      (leaves_by h.first h.downs h.back begins.1 h.go_down h.stay, no_calls_more x (map tells h.first) (h.downs ++ h.back) (no_calls_first h.first begins.0) (no_calls_down h.downs h.back h.go_down h.stay))
  chain_order (Some e) ns h =
      let begins : LeadsDown x (Some e) h.first h.downs = h.begins in
      (h.downs ++ h.back, h.all ∙ ap (λ z. map tells z ++ (h.downs ++ h.back)) begins, leaves_down h.downs h.back h.go_down h.stay, no_calls_down h.downs h.back h.go_down h.stay)

-- AS RECORDS

-- what an open puts stands after an entry
put_more : (k x : ℕ) (ms outs : List Out) (es : List GraphEvent) → AllByRecursion (IsOfOpen k) ms → StandOnEntries k x true outs es → StandOnEntries k x true (ms ++ outs) es
put_more k x [] outs es h s = s
put_more k x (m ∷ ms) outs es h s = puts_then true m (ms ++ outs) es refl h.0 (put_more k x ms outs es h.1 s)

module _ (net : Client) (who : Speaker) (x : ℕ) where
  stand_on : (b : Bool) (ns : List Notice) (es : List GraphEvent) → LeavesInOrder x b ns → events_part ns ≡ map flat es → StandOnEntries who.number x b (told_records net who ns) es
  stand_on b [] [] h are = none_more b
  stand_on b [] (e ∷ es) h are = absurd (cc)
  stand_on b (event e ∷ ns) [] h are = absurd (cc)
  stand_on b (event e ∷ ns) (g ∷ es) h are =
      let same : e ≡ flat g = cc in
      let others : events_part ns ≡ map flat es = cc in
      let later : LeavesInOrder x (is_entry_of x g) ns = subst (λ z. LeavesInOrder x z ns) (ap (enters_object x) same ∙ entry_flat x g) h in
      subst (λ z. StandOnEntries who.number x b (graph z ∷ told_records net who ns) (g ∷ es)) (sym same) (happens_then b g (told_records net who ns) es (stand_on (is_entry_of x g) ns es later others))
  stand_on b (message from tag rec a c bytes ∷ ns) es (inl up, h) are = subst (λ z. StandOnEntries who.number x b (z ++ told_records net who ns) es) (sym (up_told net who tag a c bytes up)) (stand_on b ns es h are)
  stand_on b (message from tag rec a c bytes ∷ ns) es (inr is, h) are =
      subst (λ z. StandOnEntries who.number x z (message_records net who tag a c bytes ++ told_records net who ns) es) (sym is)
      (put_more who.number x (message_records net who tag a c bytes) (told_records net who ns) es (of_message net who tag a c bytes) (stand_on true ns es (subst (λ z. LeavesInOrder x z ns) is h) are))

inner_by : (x : ℕ) (ns : List Notice) (es : List GraphEvent) → AreNoCalls x ns → events_part ns ≡ map flat es → AreInner x es
inner_by x [] [] h are = tt
inner_by x [] (e ∷ es) h are = absurd (cc)
inner_by x (event e ∷ ns) [] h are = absurd (cc)
inner_by x (event e ∷ ns) (g ∷ es) ((f, is, none), h) are =
    let same : e ≡ flat g = cc in
    let others : events_part ns ≡ map flat es = cc in
    (subst (IsInnerEvent x) (sym (in_flat f) ∙ (ap event_in (sym is ∙ same) ∙ in_flat g)) (inner_event x f none), inner_by x ns es h others)
inner_by x (message from tag rec a c bytes ∷ ns) es h are = inner_by x ns es h are

-- A CALL

-- the lowest object is entered so from outside, or it isn't
abbrev pub IsEntryBy : ℕ → Option Way → Option GraphEvent → Type 0
IsEntryBy x None entry = entry ≡ None
IsEntryBy x (Some way) entry = (p : Port) × (entry ≡ Some (Entered p way)) × (p.obj.0 ≡ x) × IsOutsideWay way

-- these notices were given where the graph went from one state to another, by events of these objects
pub record GoesBy (ids : List ℕ) (s t : GraphState) (ns : List Notice) : Type 0 where
  pub events : List GraphEvent
  pub are : events_part ns ≡ map flat events
  pub run : GraphRunOf s events t
  pub within : AllByRecursion (IsEventWithin (is_one_of ids)) events

module _ (net : Client) (who : Speaker) (x : ℕ) (ns : List Notice) (es : List GraphEvent) (are : events_part ns ≡ map flat es) where
  -- the events of a call from outside
  enters_first : (p : Port) (way : Way) (rest : List Notice) (fs : List GraphEvent) → fs ≡ es → ns ≡ tells (Entered p way) ∷ rest → AreNoCalls x rest → p.obj.0 ≡ x → IsOutsideWay way → EntersFirst x way es
  enters_first p way rest [] same is calls obj out = absurd (let z : events_part (tells (Entered p way) ∷ rest) ≡ map flat [] = sym (ap events_part is) ∙ (are ∙ ap (map flat) (sym same)) in cc)
  enters_first p way rest (f ∷ fs) same is calls obj out =
      let all : flat (Entered p way) ∷ events_part rest ≡ flat f ∷ map flat fs = sym (ap events_part is) ∙ (are ∙ ap (map flat) (sym same)) in
      let one : flat (Entered p way) ≡ flat f = cc in
      let others : events_part rest ≡ map flat fs = cc in
      record {
        port = p;
        rest = fs;
        first = sym same ∙ ap (λ z. z ∷ fs) (sym (in_flat f) ∙ (ap event_in (sym one) ∙ in_flat (Entered p way)));
        object = obj;
        outside = out;
        inner = inner_by x rest fs calls others;
      }

  pub stands_by : (by : Option Way) (entry : Option GraphEvent) → IsEntryBy x by entry → AreInOrder x entry ns → StandOnEntries who.number x false (told_records net who ns) es × BeginsBy x by es
  stands_by None entry e h =
      let l : AreInOrder x None ns = subst (λ z. AreInOrder x z ns) e h in
      (stand_on net who x false ns es l.0 are, inner_by x ns es l.1 are)
  stands_by (Some way) entry (p, e, obj, out) h =
      let l : AreInOrder x (Some (Entered p way)) ns = subst (λ z. AreInOrder x z ns) e h in
      let leaves : LeavesInOrder x false ns = subst (LeavesInOrder x false) (sym l.1) (subst (λ z. LeavesInOrder x z l.0) (sym (enters_itself x p way obj)) l.2) in
      (stand_on net who x false ns es leaves are, enters_first p way l.0 es refl l.1 l.3 obj out)

module _ (net : Client) (who : Speaker) (ids : List ℕ) (x : ℕ) (by : Option Way) (entry : Option GraphEvent) (s t : GraphState) (ns : List Notice) where
  -- a call whose notices stand in order
  pub call_on : IsEntryBy x by entry → AreInOrder x entry ns → GoesBy ids s t ns → t.stack ≡ [] → IsCallOn who.number ids x by (told_records net who ns) s t
  call_on e h g rests =
      let stands = stands_by net who x ns g.events g.are by entry e h in
      record { events = g.events; stand = stands.0; run = g.run; within = g.within; rests = rests; begins = stands.1 }

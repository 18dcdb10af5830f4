-- What an open's call and its end say together, for an open of any kind.
use Rattle.std.proofs.Common.{◌≡◌, ℕ, ◌==◌, true, cond, List, [], ◌∷◌, ◌++◌, Option, Some, None, refl, sym, ◌∙◌, ap, subst, append-nil, arith}
use Rattle.std.proofs.lemmas.Bool.Decides.{nat_tests}
use Rattle.std.specs.List.{AllByRecursion}
use Rattle.nb_terms.specs.declared.cause.Cause.{Cause}
use Rattle.nb_defs.specs.Records.{Out, ended, sent, tried, advanced, graph, opened, step, text, command, result, script, part, done}
use Rattle.nb_ledger.specs.declared.event.GraphEvent.{GraphEvent}
use Rattle.nb_ledger.specs.declared.event.Way.{Way}
use Rattle.nb_ledger.specs.declared.port.ObjId.{ObjId}
use Rattle.nb_ledger.specs.Flat.{Heard, Notice, event, message}
use Rattle.nb_ledger.specs.GraphRun.{GraphState}
use Rattle.nb_ledger.specs.Ledger.{run_state}
use Rattle.nb_graph.specs.Whole.{Objects}
use Rattle.nb_frames.specs.Frames.{is_one_of}
use Rattle.nb_frames.specs.Within.{IsEventWithin}
use Rattle.nb_nodes.specs.declared.obj.Obj.{Obj}
use Rattle.nb_opens.specs.Notices.{first_close}
use Rattle.nb_stack.specs.Client.{Client}
use Rattle.nb_machine.specs.Takings.{end_among, end_told}
use Rattle.nb_traced.specs.Holdings.{lowest_of, serials}
use Rattle.nb_traced.specs.Outputs.{CallsOpen, own_serials}
use Rattle.nb_traced.specs.Pieces.{IsCallOn, IsOfOpen, first_close_of}
use Rattle.nb_traced.specs.Plain.{without_graph}
use Rattle.nb_traced.proofs.Plain.{plain_append, plain_aside}
use Rattle.nb_chains.specs.declared.chain.Chain.{Chain}
use Rattle.nb_chains.specs.Calls.{closing_notices}
use Rattle.nb_chains.specs.Chains.{AreStillChained, IsReleased, below_ids, chain_ids, last_below, last_serial, released_by}
use Rattle.nb_chains.specs.Giving.{CallGives}
use Rattle.nb_chains.proofs.GoingOn.{others_both}
use Rattle.nb_teller.specs.declared.speaker.Speaker.{Speaker}
use Rattle.nb_teller.specs.Tellings.{message_records, told_records}
use Rattle.nb_webchains.specs.WebChains.{AreReleased}
use Rattle.nb_open.specs.declared.objects.OpenObjects.{OpenObjects}
use Rattle.nb_open.specs.declared.objects.OpenObjects.TheVariants as objects
use Rattle.nb_open.specs.declared.open.Open.{Open}
use Rattle.nb_open.specs.Objects.{objects_ids}
use Rattle.nb_open.specs.Open.{kin_of_open, objects_pieces, pieces_below}
use Rattle.nb_open.proofs.Callings.{AreInOrder, GoesBy, IsEntryBy, call_on, each_append, of_message, puts_aside}
use Rattle.nb_open.proofs.FirstCloses.{closes_are}
use Rattle.nb_open.proofs.Delivering.{AreEvents, IsEvent}

-- ITS OBJECTS

pub serials_below : (below : Option ObjId) → serials (pieces_below below) ≡ below_ids below
serials_below None = refl
serials_below (Some x) = refl

serials_of : (o : OpenObjects) → serials (objects_pieces o) ≡ objects_ids o
serials_of (objects.Chain kind chain) = ap (λ z. chain.top.0 ∷ z) (serials_below chain.below)
serials_of (objects.Web port own chain) = refl
serials_of (objects.Drive port own chain) = refl

-- the serials of an open are those of its objects
pub serials_are : (o : Open) → own_serials (kin_of_open o) ≡ objects_ids o.objects
serials_are o = serials_of o.objects

-- the last of them, which talks to the network
abbrev pub last_object : OpenObjects → ℕ
last_object (objects.Chain kind chain) = last_serial chain
last_object (objects.Web port own chain) = chain.conn.0
last_object (objects.Drive port own chain) = chain.conn.0

lowest_below : (x : ℕ) (below : Option ObjId) → lowest_of (x ∷ below_ids below) ≡ last_below x below
lowest_below x None = refl
lowest_below x (Some y) = refl

lowest_in : (o : OpenObjects) → lowest_of (objects_ids o) ≡ last_object o
lowest_in (objects.Chain kind chain) = lowest_below chain.top.0 chain.below
lowest_in (objects.Web port own chain) = refl
lowest_in (objects.Drive port own chain) = refl

-- and the lowest is the last
pub lowest_is : (o : Open) → lowest_of (own_serials (kin_of_open o)) ≡ last_object o.objects
lowest_is o = ap lowest_of (serials_are o) ∙ lowest_in o.objects

-- what a call on its objects says of the open
pub of_objects : (o : Open) (way : Option Way) (records : List Out) (s t : GraphState) → IsCallOn o.speaker.number (objects_ids o.objects) (last_object o.objects) way records s t → CallsOpen (kin_of_open o) way records s t
of_objects o way records s t h =
    subst (λ z. IsCallOn o.speaker.number (own_serials (kin_of_open o)) z way records s t) (sym (lowest_is o)) (subst (λ z. IsCallOn o.speaker.number z (last_object o.objects) way records s t) (sym (serials_are o)) h)

pub close_of_objects : (o : Open) (records : List Out) (c : Option Cause) → first_close_of (objects_ids o.objects) records ≡ c → first_close_of (own_serials (kin_of_open o)) records ≡ c
close_of_objects o records c h = subst (λ z. first_close_of z records ≡ c) (sym (serials_are o)) h

-- A CALL

-- no event names another object than these, and none is made
abbrev pub ObjectsGive : OpenObjects → Objects Obj → Objects Obj → Heard → Heard → List Notice → Type 0
ObjectsGive o old new m n ns = CallGives (IsEventWithin (is_one_of (objects_ids o))) old new m n ns

goes_by : (o : OpenObjects) (old new : Objects Obj) (m n : Heard) (ns : List Notice) → ObjectsGive o old new m n ns → GoesBy (objects_ids o) (run_state old.book []) (run_state new.book []) ns
goes_by o old new m n ns g = record { events = g.events; are = g.are; run = g.run; within = g.within }

module _ (o : Open) (link : Client) (way : Option Way) (entry : Option GraphEvent) (old new : Objects Obj) (m n : Heard) (ns : List Notice) (is : IsEntryBy (last_object o.objects) way entry) where
  -- a call on the open's objects, as records
  pub calls_open : AreInOrder (last_object o.objects) entry ns → ObjectsGive o.objects old new m n ns → CallsOpen (kin_of_open o) way (told_records link o.speaker ns) (run_state old.book []) (run_state new.book [])
  calls_open h g =
      of_objects o way (told_records link o.speaker ns) (run_state old.book []) (run_state new.book [])
      (call_on link o.speaker (objects_ids o.objects) (last_object o.objects) way entry (run_state old.book []) (run_state new.book []) ns is h (goes_by o.objects old new m n ns g) refl)

  -- and its first close
  pub closes_open : (c : Option Cause) → ObjectsGive o.objects old new m n ns → first_close ns ≡ c → first_close_of (own_serials (kin_of_open o)) (told_records link o.speaker ns) ≡ c
  closes_open c g e = close_of_objects o (told_records link o.speaker ns) c (closes_are link o.speaker (objects_ids o.objects) ns g.events g.are g.within ∙ e)

-- THE END AMONG ITS RECORDS

no_end_in : (k j : ℕ) (o : Out) (later : Option Cause) → IsOfOpen j o → end_told k o later ≡ later
no_end_in k j (sent bytes) later h = refl
no_end_in k j (tried number count) later h = refl
no_end_in k j (advanced number place) later h = refl
no_end_in k j (graph happens) later h = absurd h
no_end_in k j (opened number kind server port own target) later h = absurd h
no_end_in k j (ended number cause) later h = absurd h
no_end_in k j (step number) later h = absurd h
no_end_in k j (text bytes) later h = absurd h
no_end_in k j (command depth line place expanded words) later h = absurd h
no_end_in k j (result cause) later h = absurd h
no_end_in k j (script what depth cause) later h = absurd h
no_end_in k j (part kind index offset bytes) later h = absurd h
no_end_in k j (done status) later h = absurd h

no_end : (k j : ℕ) (outs more : List Out) → AllByRecursion (IsOfOpen j) outs → end_among k (outs ++ more) ≡ end_among k more
no_end k j [] more h = refl
no_end k j (o ∷ outs) more h = no_end_in k j o (end_among k (outs ++ more)) h.0 ∙ no_end k j outs more h.1

-- all that an open puts but the graph's records is its own
pub put_of_open : (link : Client) (who : Speaker) (ns : List Notice) → AllByRecursion (IsOfOpen who.number) (without_graph (told_records link who ns))
put_of_open link who [] = tt
put_of_open link who (event e ∷ ns) = put_of_open link who ns
put_of_open link who (message from tag rec a b bytes ∷ ns) =
    let ms = message_records link who tag a b bytes in
    let own = of_message link who tag a b bytes in
    subst (AllByRecursion (IsOfOpen who.number)) (sym (plain_append ms (told_records link who ns) ∙ ap (λ z. z ++ without_graph (told_records link who ns)) (plain_aside ms (puts_aside who.number ms own))))
    (each_append (IsOfOpen who.number) ms (without_graph (told_records link who ns)) own (put_of_open link who ns))

-- no end is among them, and with ENDED that is
pub none_among : (k : ℕ) (link : Client) (who : Speaker) (ns : List Notice) → end_among k (without_graph (told_records link who ns)) ≡ None
none_among k link who ns =
    let outs = without_graph (told_records link who ns) in
    ap (end_among k) (sym (append-nil outs)) ∙ no_end k who.number outs [] (put_of_open link who ns)

pub end_among_last : (k : ℕ) (link : Client) (who : Speaker) (ns : List Notice) (cause : Cause) → end_among k (without_graph (told_records link who ns) ++ (ended k cause ∷ [])) ≡ Some cause
end_among_last k link who ns cause =
    no_end k who.number (without_graph (told_records link who ns)) (ended k cause ∷ []) (put_of_open link who ns) ∙ ap (λ b. cond b (Some cause) None) (same_number k)
  where
    same_number : (k : ℕ) → (k == k) ≡ true
    same_number k = grind (arith, nat_tests)

-- WHAT IS LET GO

pub closed_events : (x : ℕ) (below : Option ObjId) (cause : Cause) → AreEvents (closing_notices x below cause)
closed_events x None cause = (tt, (tt, tt))
closed_events x (Some t) cause = (tt, (tt, (tt, (tt, (tt, (tt, (tt, tt)))))))

pub released_events : (x : ℕ) (below : Option ObjId) → AreEvents (released_by x below)
released_events x None = (tt, (tt, tt))
released_events x (Some t) = (tt, (tt, (tt, (tt, tt))))

pub events_both : (xs ys : List Notice) → AreEvents xs → AreEvents ys → AreEvents (xs ++ ys)
events_both xs ys p q = each_append IsEvent xs ys p q

pub closed_first : (x : ℕ) (below : Option ObjId) (cause : Cause) → first_close (closing_notices x below cause) ≡ Some cause
closed_first x None cause = refl
closed_first x (Some t) cause = refl

-- released after they went on
pub released_after : (ids : List ℕ) (g a h : Objects Obj) → AreStillChained ids g a → AreReleased ids a h → AreReleased ids g h
released_after ids g a h on r = record {
  gone = r.gone;
  others = others_both (is_one_of ids) g a h on.others r.others;
  number = r.number ∙ on.same_number;
  same_room = r.same_room ∙ on.same_room;
}

pub released_chain : (c : Chain) (g h : Objects Obj) → IsReleased c g h → AreReleased (chain_ids c) g h
released_chain c g h r = record { gone = r.gone; others = r.others; number = r.number; same_room = r.same_room }

-- One exchange more of an open: what its call tells, and what becomes of its objects.
use Rattle.std.proofs.Common.{◌≡◌, ◌⊎◌, inl, inr, ℕ, true, false, List, [], ◌∷◌, ◌++◌, Option, Some, None, sym, ◌∙◌, ap, subst}
use Rattle.nb_terms.specs.declared.cause.Cause.{Cause}
use Rattle.nb_defs.specs.Causes.{is_ok_cause}
use Rattle.nb_defs.specs.Records.{Out, ended}
use Rattle.nb_ledger.specs.declared.event.GraphEvent.{GraphEvent}
use Rattle.nb_ledger.specs.declared.event.Way.{Way}
use Rattle.nb_ledger.specs.Flat.{Given, Heard, Notice}
use Rattle.nb_graph.specs.Deeds.{no_memory}
use Rattle.nb_graph.specs.Whole.{Objects}
use Rattle.nb_frames.specs.Frames.{is_one_of}
use Rattle.nb_frames.specs.Within.{IsEventWithin}
use Rattle.nb_nodes.specs.declared.obj.Obj.{Obj}
use Rattle.nb_opens.specs.Notices.{first_close, or_else}
use Rattle.nb_stack.specs.Client.{Client}
use Rattle.nb_machine.specs.CommandRecords.{no_route}
use Rattle.nb_machine.specs.Kinds.{Keeps}
use Rattle.nb_machine.specs.Lives.{Live, OpenInput, message, tcp_segment, time, task, close}
use Rattle.nb_chains.proofs.GivingLemmas.{gives_both}
use Rattle.nb_teller.specs.Deliveries.{delivered_address, delivered_answer, delivered_blocks, delivered_bytes}
use Rattle.nb_teller.specs.Spelling.{HasSpelled, IsSpelled, Spelling}
use Rattle.nb_teller.specs.Tellings.{any_lacks_route, told_records}
use Rattle.nb_opens.proofs.CloseLemmas.{first_close-append}
use Rattle.nb_open.specs.declared.ended.Ended.{Ended}
use Rattle.nb_open.specs.declared.open.Open.{Open}
use Rattle.nb_drivechains.specs.declared.drive_answer.DriveAnswer.{DriveAnswer}
use Rattle.nb_open.specs.declared.objects.OpenObjects.{OpenObjects}
use Rattle.nb_open.specs.declared.objects.OpenObjects.TheVariants as objects
use Rattle.nb_open.specs.DriveAnswers.{AnswersFor, AnswersLast, AnswersLastTo, AnswersTo, found_bytes}
use Rattle.nb_open.specs.Exchanges.{Exchanges, HandsOut, IsLeaseMessage, last_put, with_exchange}
use Rattle.nb_open.specs.Objects.{AreObjectsStill, ClosesObjects, objects_ids}
use Rattle.nb_open.specs.Open.{IsOpenOf}
use Rattle.nb_open.specs.Settling.{LetsObjectsGo, SettlesOpen, has_come_to_end, stays_open, is_turned_back}
use Rattle.nb_open.proofs.Callings.{AreInOrder, IsEntryBy, order_more}
use Rattle.nb_open.proofs.Delivering.{address_then, answer_then, blocks_then, bytes_then}
use Rattle.nb_open.proofs.Doings.{Did, Goes, Overs, fails, goes, last_by, overs, put_by}
use Rattle.nb_open.proofs.DriveOrders.{HandsUp}
use Rattle.nb_open.proofs.DriveReading.{at_end}
use Rattle.nb_open.proofs.Endings.{ObjectsGive, calls_open, closes_open, end_among_last, last_object, none_among, released_after}
use Rattle.nb_open.proofs.Leaving.{Leaves, closes_leave, closing_told, leaves_by, leaving_events, leaving_notices}
use Rattle.nb_open.proofs.Keepings.{open_keeps}
use Rattle.nb_open.proofs.Quiet.{AddsNothing, adds_both, events_add, others_more}

some_is : {x y : Cause} → Some x ≡ Some y → x ≡ y
some_is {x} {y} e = cc

-- what is answered where an open goes on may be where it ends
drive_last : (came : OpenInput) (l after : Live) (answer : Option DriveAnswer) (blocks : List ℕ) → AnswersTo came l after answer blocks → AnswersLastTo came l after answer blocks
drive_last (message rec port body now) l after answer blocks h = at_end l after answer blocks h
drive_last (tcp_segment rec g now) l after answer blocks h = at_end l after answer blocks h
drive_last (time now) l after answer blocks h = at_end l after answer blocks h
drive_last (task t now) l after answer blocks h = h
drive_last (close cause) l after answer blocks h = at_end l after answer blocks h

answers_last : (os : OpenObjects) (came : OpenInput) (l after : Live) (answer : Option DriveAnswer) (blocks : List ℕ) → AnswersFor os came l after answer blocks → AnswersLast os came l after answer blocks
answers_last (objects.Chain kind chain) came l after answer blocks h = tt
answers_last (objects.Web port own chain) came l after answer blocks h = tt
answers_last (objects.Drive port own chain) came l after answer blocks h = drive_last came l after answer blocks h

-- what the two say of an open and its user's close
module _ (o : Open) (l : Live) (came : OpenInput) (link : Client) (way : Option Way) (entry : Option GraphEvent) (old mid new : Objects Obj) (h0 h1 h2 : Heard) (s s' : Spelling) (ns : List Notice) where
  pub record Called : Type 0 where
    pub did : Did o l came link mid ns
    pub enters : IsEntryBy (last_object o.objects) way entry
    pub order : HandsUp o.objects ns → AreInOrder (last_object o.objects) entry ns ⊎ (first_close ns ≡ Some no_memory)
    pub gives : ObjectsGive o.objects old mid h0 h1 ns
    pub on : AreObjectsStill o.objects old mid
    pub spelled : s.is_lost ≡ false → IsSpelled link o.speaker s ns
    pub spells : (all : List Notice) → Given h0 h2 all → IsSpelled link o.speaker s' all

  module _ (k : Called) where
    closed_is : (c : Option Cause) → HasSpelled s c → first_close ns ≡ c
    closed_is c has = sym (k.spelled has.0).2 ∙ has.1

    ordered : {P : Type 0} (c : Option Cause) → HasSpelled s c → HandsUp o.objects ns → (AreInOrder (last_object o.objects) entry ns → P) → P
    ordered {P} c has up f = by (k.order up)
      where
        by : AreInOrder (last_object o.objects) entry ns ⊎ (first_close ns ≡ Some no_memory) → P
        by (inl h) = f h
        by (inr memory) = absurd (has.2 (sym (closed_is c has) ∙ memory))

    -- it goes on
    goes_so : HasSpelled s None → s.is_stuck ≡ false → new ≡ mid → h2 ≡ h1 → Goes o l came link mid ns → Exchanges o l came link way old new s' None
    goes_so has free same_graph same_heard g =
        let gives : ObjectsGive o.objects old new h0 h2 ns = subst (λ z. ObjectsGive o.objects old z h0 h2 ns) (sym same_graph) (subst (λ z. ObjectsGive o.objects old mid h0 z ns) (sym same_heard) k.gives) in
        let on : AreObjectsStill o.objects old new = subst (AreObjectsStill o.objects old) (sym same_graph) k.on in
        let finds : any_lacks_route link o.speaker ns ≡ false = sym (k.spelled has.0).5 ∙ free in
        let lives = subst (λ z. IsOpenOf z o (with_exchange l came link (put_by o link ns))) (sym same_graph) (g.lives finds k.on.chained) in
        record {
          records = told_records link o.speaker ns;
          text = (k.spells ns gives.given).1;
          does = record {
            keeps = open_keeps new o (with_exchange l came link (put_by o link ns)) lives;
            no_end = none_among l.number link o.speaker ns;
            lives = lives;
            others = on;
            call = ordered None has g.up (λ h. calls_open o link way entry old new h0 h2 ns k.enters h gives);
            no_close = closes_open o link way entry old new h0 h2 ns k.enters None gives g.none;
          };
          answers = λ any put.
              let spelled = k.spells ns gives.given in
              subst (λ z. AnswersFor o.objects came l (with_exchange l came any put) z s'.blocks) (sym spelled.7) (subst (λ z. AnswersFor o.objects came l (with_exchange l came any put) (delivered_answer ns) z) (sym spelled.6) (g.answers any put));
        }

    -- it ends, and more is told of it
    module _ (e : Ended) (more : List Notice) (left : Leaves o.objects mid new h1 h2 more) (adds : AddsNothing link o.speaker more) (c : Option Cause) (has : HasSpelled s c) (closes : first_close (ns ++ more) ≡ Some e.cause)
        (kept : Keeps (with_exchange l came link (last_by o l link ns e.cause))) (up : HandsUp o.objects ns) where
      all_given : ObjectsGive o.objects old new h0 h2 (ns ++ more)
      all_given = gives_both (IsEventWithin (is_one_of (objects_ids o.objects))) old mid new h0 h1 h2 ns more k.gives left.gives

      last_is : last_put l (told_records link o.speaker (ns ++ more)) e.cause ≡ last_by o l link ns e.cause
      last_is = ap (λ z. z ++ (ended l.number e.cause ∷ [])) (others_more link o.speaker ns more adds)

      spelled_all : IsSpelled link o.speaker s' (ns ++ more)
      spelled_all = k.spells (ns ++ more) all_given.given

      bytes_are : s'.bytes ≡ delivered_bytes ns
      bytes_are = spelled_all.3 ∙ bytes_then ns more adds.bytes

      address_is : s'.address ≡ delivered_address ns
      address_is = spelled_all.4 ∙ address_then ns more adds.address

      blocks_are : s'.blocks ≡ delivered_blocks ns
      blocks_are = spelled_all.6 ∙ blocks_then ns more adds.blocks

      answer_is : s'.answer ≡ delivered_answer ns
      answer_is = spelled_all.7 ∙ answer_then ns more adds.answer

      ends_so : (is_ok_cause e.cause ≡ true → HandsOut o (with_exchange l came link (last_by o l link ns e.cause)) e s') → IsLeaseMessage (found_bytes o.objects (delivered_bytes ns))
          → ((any : Client) (put : List Out) → AnswersLast o.objects came l (with_exchange l came any put) (delivered_answer ns) (delivered_blocks ns)) → Exchanges o l came link way old new s' (Some e)
      ends_so hands lease answers = record {
        records = told_records link o.speaker (ns ++ more);
        text = spelled_all.1;
        does = record {
          keeps = subst (λ z. Keeps (with_exchange l came link z)) (sym last_is) kept;
          its_end = end_among_last l.number link o.speaker (ns ++ more) e.cause;
          released = released_after (objects_ids o.objects) old mid new k.on left.released;
          call = ordered c has up (λ h. calls_open o link way entry old new h0 h2 (ns ++ more) k.enters (order_more (last_object o.objects) entry ns more h left.order) all_given);
          close = closes_open o link way entry old new h0 h2 (ns ++ more) k.enters (Some e.cause) all_given closes;
          hands = λ well. subst (λ z. HandsOut o (with_exchange l came link z) e s') (sym last_is) (hands well);
          message = subst (λ z. IsLeaseMessage (found_bytes o.objects z)) (sym bytes_are) lease;
        };
        answers = λ any put. subst (λ z. AnswersLast o.objects came l (with_exchange l came any put) z s'.blocks) (sym answer_is) (subst (λ z. AnswersLast o.objects came l (with_exchange l came any put) (delivered_answer ns) z) (sym blocks_are) (answers any put));
      }

    none_some : {P : Type 0} (c : Cause) → first_close ns ≡ None → first_close ns ≡ Some c → P
    none_some {P} c none some = absurd (let no : Some c ≡ None = sym some ∙ none in cc)

    over_so : (e : Ended) → HasSpelled s (Some e.cause) → LetsObjectsGo o.objects e mid new h1 h2 → Overs o l came link mid ns e.cause → Exchanges o l came link way old new s' (Some e)
    over_so e has lets v =
        let more = leaving_notices o.objects in
        let left = leaves_by o.objects e mid new h1 h2 lets in
        let adds = events_add link o.speaker more (leaving_events o.objects) in
        let closes : first_close (ns ++ more) ≡ Some e.cause = first_close-append ns more ∙ ap (λ z. or_else z (first_close more)) v.closes in
        ends_so e more left adds (Some e.cause) has closes v.kept v.up
        (λ well. record {
          body = (v.brings well).body (record { body = e.body; moved = e.moved }) lets.hands;
          moved = (v.brings well).moved (record { body = e.body; moved = e.moved }) lets.hands;
          bytes = v.bytes ∙ ap (found_bytes o.objects) (sym (bytes_are e more left adds (Some e.cause) has closes v.kept v.up));
          address = v.address ∙ sym (address_is e more left adds (Some e.cause) has closes v.kept v.up);
        })
        v.message v.answers

    turned_so : (e : Ended) (a : Objects Obj) (told : Heard) → HasSpelled s None → s.is_stuck ≡ true → e.cause ≡ no_route l.server → AreObjectsStill o.objects mid a → ClosesObjects o.objects mid a e.cause h1 told → LetsObjectsGo o.objects e a new told h2 →
        Goes o l came link mid ns → Exchanges o l came link way old new s' (Some e)
    turned_so e a told has stuck is on closes lets g =
        let first = closing_told o.objects e.cause mid a h1 told closes in
        let more = first ++ leaving_notices o.objects in
        let both = closes_leave o.objects e e.cause mid a new h1 told h2 g.unshut g.kinds on closes lets in
        let lacks : any_lacks_route link o.speaker ns ≡ true = sym (k.spelled has.0).5 ∙ stuck in
        let adds = adds_both link o.speaker first (leaving_notices o.objects) (g.hushed lacks a h1 told e.cause closes) (events_add link o.speaker (leaving_notices o.objects) (leaving_events o.objects)) in
        let ends : first_close (ns ++ more) ≡ Some e.cause = first_close-append ns more ∙ (ap (λ z. or_else z (first_close more)) g.none ∙ both.close) in
        let kept : Keeps (with_exchange l came link (last_by o l link ns e.cause)) = subst (λ z. Keeps (with_exchange l came link (last_by o l link ns z))) (sym is) (g.stuck lacks) in
        ends_so e more both.left adds None has ends kept g.up
        (λ well. absurd (let no : false ≡ true = sym (ap is_ok_cause is) ∙ well in cc))
        (λ bytes some. absurd (let no : Some bytes ≡ None = sym some ∙ g.silent in cc))
        (λ any put. answers_last o.objects came l (with_exchange l came any put) (delivered_answer ns) (delivered_blocks ns) (g.answers any put))

    pub exchanges : (settled : Option Ended) → l.server ≡ o.speaker.server.0 → SettlesOpen o s mid new h1 h2 settled → Exchanges o l came link way old new s' settled
    exchanges settled server (stays_open has free same_graph same_heard) = by k.did
      where
        by : Did o l came link mid ns → Exchanges o l came link way old new s' None
        by (goes g) = goes_so has free same_graph same_heard g
        by (overs c v) = none_some c (closed_is None has) v.closes
        by (fails memory) = none_some no_memory (closed_is None has) memory
    exchanges settled server (has_come_to_end e has lets) = by k.did
      where
        by : Did o l came link mid ns → Exchanges o l came link way old new s' (Some e)
        by (goes g) = none_some e.cause g.none (closed_is (Some e.cause) has)
        by (overs c v) = over_so e has lets (subst (Overs o l came link mid ns) (some_is (sym v.closes ∙ closed_is (Some e.cause) has)) v)
        by (fails memory) = absurd (has.2 (sym (closed_is (Some e.cause) has) ∙ memory))
    exchanges settled server (is_turned_back e a told has stuck is on closes lets) = by k.did
      where
        by : Did o l came link mid ns → Exchanges o l came link way old new s' (Some e)
        by (goes g) = turned_so e a told has stuck (is ∙ ap no_route (sym server)) on closes lets g
        by (overs c v) = none_some c (closed_is None has) v.closes
        by (fails memory) = none_some no_memory (closed_is None has) memory

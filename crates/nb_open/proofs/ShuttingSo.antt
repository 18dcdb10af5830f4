-- The run ends with an open, and with what waits beside it.
use Rattle.std.proofs.Common.{◌≡◌, ℕ, true, false, cond, List, [], ◌∷◌, ◌++◌, length, Option, Some, None, refl, sym, ◌∙◌, ap, subst, append-nil, arith}
use Rattle.nb_terms.specs.declared.cause.Cause.{Cause}
use Rattle.nb_ledger.specs.declared.event.GraphEvent.TheVariants.{Closed, Entered, Left, Unplugged}
use Rattle.nb_ledger.specs.declared.event.Way.TheVariants.{Close}
use Rattle.nb_ledger.specs.declared.port.ObjId.{ObjId}
use Rattle.nb_ledger.specs.Flat.{Heard, Notice, event, message}
use Rattle.nb_ledger.specs.Ledger.{run_state}
use Rattle.nb_graph.specs.Noded.{AreNoded}
use Rattle.nb_graph.specs.Whole.{Objects, port_at}
use Rattle.nb_frames.specs.Frames.{KeepsOthers, is_one_of}
use Rattle.nb_nodes.specs.declared.obj.Obj.{Obj}
use Rattle.nb_nodes.specs.Objects.{rank_of_obj}
use Rattle.nb_opens.specs.AloneNotices.{all_closed, alone_freed}
use Rattle.nb_opens.specs.Notices.{first_close, tells}
use Rattle.nb_stack.specs.Client.{Client}
use Rattle.nb_machine.specs.Kinds.{Keeps}
use Rattle.nb_machine.specs.Lives.{Live}
use Rattle.nb_traced.specs.Holdings.{lowest_of, serials}
use Rattle.nb_traced.specs.Outputs.{own_serials}
use Rattle.nb_traced.specs.Pieces.{IsCallOn, first_close_of, first_or}
use Rattle.nb_traced.specs.Plain.{without_graph}
use Rattle.nb_chains.specs.declared.chain.Chain.{Chain}
use Rattle.nb_chains.specs.declared.kind.ChainKind.{ChainKind}
use Rattle.nb_chains.specs.Calls.{ShutsChain, ShutsChainBeside, beside_notices, ports_closed_notices, shutting_notices}
use Rattle.nb_chains.specs.Chains.{Awaits, below_ids, chain_ids, last_serial, released_notices}
use Rattle.nb_chains.specs.Shapes.{SendsNone}
use Rattle.nb_chains.proofs.ChainDoes.{top_in}
use Rattle.nb_chains.proofs.WaitingApart.{waiting_apart}
use Rattle.nb_teller.specs.declared.speaker.Speaker.{Speaker}
use Rattle.nb_teller.specs.declared.teller.Teller.{Teller}
use Rattle.nb_teller.specs.Spelling.{IsBlank, IsSpelled, IsWholeSpelling, Spelling}
use Rattle.nb_teller.specs.Tellings.{told_records}
use Rattle.nb_teller.proofs.Tellers.{told_is}
use Rattle.nb_wire.specs.declared.address.Ip4.{Ip4}
use Rattle.nb_webchains.specs.declared.web_chain.WebChain.{WebChain}
use Rattle.nb_webchains.specs.Releases.{AreCloses}
use Rattle.nb_webchains.specs.WebCalls.{ShutsWeb, freed_each}
use Rattle.nb_webchains.specs.WebChains.{AreOfWeb, IsOpenWeb, web_ids}
use Rattle.nb_open.specs.declared.objects.OpenObjects.{OpenObjects}
use Rattle.nb_open.specs.declared.objects.OpenObjects.TheVariants as objects
use Rattle.nb_open.specs.declared.open.Open.{Open}
use Rattle.nb_open.specs.Begins.{AwaitsFor}
use Rattle.nb_open.specs.Ends.{MayWaitBeside, ShutsOr, ShutsWith, WaitsApart, closed_open}
use Rattle.nb_open.specs.Objects.{AreObjectsOpen, AreObjectsReleased, objects_ids}
use Rattle.nb_open.specs.Open.{IsOpenOf, IsUnderWay, kin_of_open, kind_for, pieces_of}
use Rattle.nb_open.specs.Settling.{told_so_far}
use Rattle.nb_open.proofs.Callings.{AreInOrder, above_order, call_on, order_more, web_order}
use Rattle.nb_open.proofs.Closing.{BeginsByClose, first_record, others_of}
use Rattle.nb_open.proofs.Delivering.{AreEvents}
use Rattle.nb_open.proofs.Doings.{on_chain}
use Rattle.nb_open.proofs.Endings.{ObjectsGive, close_of_objects, closes_open, end_among_last, events_both, last_object, lowest_is, released_chain, serials_are, serials_below}
use Rattle.nb_open.proofs.Keepings.{closed_keeps}
use Rattle.nb_open.proofs.Leaving.{freed_above, leaving_events}
use Rattle.nb_open.proofs.Quiet.{events_add, others_more, quiet_above, quiet_others}
use Rattle.nb_open.proofs.Receiving.{drive_at, drive_under, lives_open, under_way_by, web_open}
use Rattle.nb_drivechains.specs.declared.drive_chain.DriveChain.{DriveChain}
use Rattle.nb_drivechains.specs.DriveChains.{drive_ids, three_of}
use Rattle.nb_open.proofs.DriveCloses.{drive_closed_keeps}
use Rattle.nb_open.proofs.DriveOrders.{IsDriveAt, drive_closing_order}
use Rattle.nb_open.proofs.WebCloses.{web_closed_keeps}

-- NOTHING WAITS

append_none : {A : Type 0} (xs : List A) → xs ≡ xs ++ []
append_none xs = sym (append-nil xs)

-- all ports of its objects are closed, and they are let go
record ShutsAlone (o : Open) (cause : Cause) (link : Client) (old new : Objects Obj) (m n : Heard) (ns : List Notice) : Type 0 where
  pub gives : ObjectsGive o.objects old new m n ns
  pub order : AreInOrder (last_object o.objects) None ns
  pub begins : BeginsByClose cause ns
  pub closes : first_close ns ≡ Some cause
  pub released : AreObjectsReleased o.objects old new
  pub keeps : (l : Live) → IsOpenOf old o l → Keeps (closed_open l cause link (without_graph (told_records link o.speaker ns)))

shuts_alone : (kind : ChainKind) (o : Open) (cause : Cause) (link : Client) (old new : Objects Obj) (m n : Heard) (s : Spelling) (ns : List Notice) → ShutsAlone o cause link old new m n ns → IsSpelled link o.speaker s ns → ShutsWith kind o None cause link old new s
shuts_alone kind o cause link old new m n s ns k spelled =
    let records = told_records link o.speaker ns in
    let ids = objects_ids o.objects in
    let call : IsCallOn o.speaker.number ids (last_object o.objects) None records (run_state old.book []) (run_state new.book []) =
    call_on link o.speaker ids (last_object o.objects) None None (run_state old.book []) (run_state new.book []) ns refl k.order (record { events = k.gives.events; are = k.gives.are; run = k.gives.run; within = k.gives.within }) refl in
    let ids_are : ids ++ [] ≡ ids = append-nil ids in
    let begins = first_record link o.speaker cause ns [] k.begins in
    record {
      records = records;
      text = spelled.1;
      keeps = k.keeps;
      its_end = λ i. end_among_last i link o.speaker ns cause;
      closes_first = (begins.0, begins.1, ap (told_records link o.speaker) (append_none ns) ∙ begins.2);
      call = subst (λ z. IsCallOn o.speaker.number z (lowest_of (own_serials (kin_of_open o))) None records (run_state old.book []) (run_state new.book [])) (append_none (own_serials (kin_of_open o)))
          (subst (λ z. IsCallOn o.speaker.number (own_serials (kin_of_open o)) z None records (run_state old.book []) (run_state new.book [])) (sym (lowest_is o))
          (subst (λ z. IsCallOn o.speaker.number z (last_object o.objects) None records (run_state old.book []) (run_state new.book [])) (sym (serials_are o)) call));
      close = closes_open o link None None old new m n ns refl (Some cause) k.gives k.closes;
      gone = λ x e. k.released.gone x (subst (λ z. is_one_of z x ≡ true) ids_are e);
      others = subst (λ z. KeepsOthers (is_one_of z) old new) (sym ids_are) k.released.others;
      number = omega (arith, k.released.number);
      same_room = k.released.same_room;
    }

-- a chain
shut_first : (x : ℕ) (b : Option ObjId) (cause : Cause) → first_close (shutting_notices x b cause) ≡ Some cause
shut_first x None cause = refl
shut_first x (Some t) cause = refl

shut_begins : (x : ℕ) (b : Option ObjId) (cause : Cause) → BeginsByClose cause (shutting_notices x b cause)
shut_begins x None cause = (port_at x 0, others_of (shutting_notices x None cause), refl)
shut_begins x (Some t) cause = (port_at x 0, others_of (shutting_notices x (Some t) cause), refl)

-- where nothing is sent all is kept
silent_keeps : (link : Client) (who : Speaker) (c : Chain) (old : Objects Obj) (l : Live) (cause : Cause) (ns : List Notice) → SendsNone (last_serial c) ns → IsUnderWay l.kind c old l → Keeps (closed_open l cause link (without_graph (told_records link who ns)))
silent_keeps link who c old l cause ns none k = subst (λ z. Keeps (closed_open l cause link z)) (sym (quiet_others link who ns (quiet_above (last_serial c) ns none))) (closed_keeps c old l cause link k)

chain_alone : (who : Speaker) (kind : ChainKind) (c : Chain) (cause : Cause) (link : Client) (old new : Objects Obj) (m n : Heard) → ShutsChain c old new cause m n → ShutsAlone (on_chain who kind c) cause link old new m n (shutting_notices c.top.0 c.below cause)
chain_alone who kind c cause link old new m n k = record {
  gives = k.gives;
  order = above_order (last_serial c) (shutting_notices c.top.0 c.below cause) k.shape;
  begins = shut_begins c.top.0 c.below cause;
  closes = shut_first c.top.0 c.below cause;
  released = released_chain c old new k.released;
  keeps = λ l is. silent_keeps link who c old l cause (shutting_notices c.top.0 c.below cause) k.shape is.under_way;
}

-- the three of an open by HTTP
free_events : (ns : List Notice) → AreCloses ns → AreEvents ns
free_events [] h = tt
free_events (event e ∷ ns) h = (tt, free_events ns h.1)
free_events (message from tag rec a b bytes ∷ ns) h = absurd h

free_above : (x : ℕ) (ns : List Notice) → AreCloses ns → SendsNone x ns
free_above x [] h = tt
free_above x (event e ∷ ns) ((p, z, is), h) = ((Closed p z, is, tt), free_above x ns h)
free_above x (message from tag rec a b bytes ∷ ns) h = absurd h

module _ (who : Speaker) (port : ℕ) (own : Ip4) (c : WebChain) (cause : Cause) (link : Client) (old new : Objects Obj) (m n : Heard) (is_open : IsOpenWeb c old) (are : AreOfWeb c old) (k : ShutsWeb c old new cause m n) where
  abbrev o : Open
  o = record { speaker = who; objects = objects.Web port own c }

  abbrev let_go : List Notice
  let_go = k.free ++ freed_each (web_ids c)

  then_order : AreInOrder c.conn.0 None let_go
  then_order = order_more c.conn.0 None k.free (freed_each (web_ids c)) (above_order c.conn.0 k.free (free_above c.conn.0 k.free k.are)) (above_order c.conn.0 (freed_each (web_ids c)) (freed_above c.conn.0 (web_ids c)))

  web_alone : ShutsAlone o cause link old new m n (k.closes.ns ++ let_go)
  web_alone =
      let first = k.closes.first is_open in
      let adds = events_add link who let_go (events_both k.free (freed_each (web_ids c)) (free_events k.free k.are) (leaving_events o.objects)) in
      record {
        gives = k.gives;
        order = order_more c.conn.0 None k.closes.ns let_go (web_order c.conn.0 None k.closes.ns (k.closes.order is_open are)) then_order;
        begins = (port_at c.fetch.0 0, first.0 ++ let_go, ap (λ z. z ++ let_go) first.1);
        closes = ap (λ z. first_close (z ++ let_go)) first.1;
        released = k.released;
        keeps = λ l is. subst (λ z. Keeps (closed_open l cause link z)) (sym (others_more link who k.closes.ns let_go adds)) (web_closed_keeps who port own c l old k.closed link m k.heard cause is k.closes);
      }

module _ (who : Speaker) (port : ℕ) (own : Ip4) (c : DriveChain) (cause : Cause) (link : Client) (old new : Objects Obj) (m n : Heard) (is_open : IsOpenWeb (three_of c) old) (at : IsDriveAt c old) (k : ShutsWeb (three_of c) old new cause m n) where
  drive_alone : ShutsAlone (record { speaker = who; objects = objects.Drive port own c }) cause link old new m n (k.closes.ns ++ (k.free ++ freed_each (drive_ids c)))
  drive_alone =
      let ids = drive_ids c in
      let let_go = k.free ++ freed_each ids in
      let first = k.closes.first is_open in
      let adds = events_add link who let_go (events_both k.free (freed_each ids) (free_events k.free k.are) (leaving_events (objects.Drive port own c))) in
      let then_order : AreInOrder c.conn.0 None let_go = order_more c.conn.0 None k.free (freed_each ids) (above_order c.conn.0 k.free (free_above c.conn.0 k.free k.are)) (above_order c.conn.0 (freed_each ids) (freed_above c.conn.0 ids)) in
      record {
        gives = k.gives;
        order = order_more c.conn.0 None k.closes.ns let_go (drive_closing_order c old k.closed m k.heard cause is_open at k.closes) then_order;
        begins = (port_at c.unit.0 0, first.0 ++ let_go, ap (λ z. z ++ let_go) first.1);
        closes = ap (λ z. first_close (z ++ let_go)) first.1;
        released = k.released;
        keeps = λ l is. subst (λ z. Keeps (closed_open l cause link z)) (sym (others_more link who k.closes.ns let_go adds)) (drive_closed_keeps who port own c l old k.closed link m k.heard cause is k.closes);
      }

-- SOMETHING WAITS

-- the close of a port of another, and of one of these
module _ (link : Client) (who : Speaker) (ids : List ℕ) (x : ℕ) (z : Cause) where
  skips : (k : ℕ) (rest : List Notice) → is_one_of ids x ≡ false → first_close_of ids (told_records link who (tells (Closed (port_at x k) z) ∷ rest)) ≡ first_close_of ids (told_records link who rest)
  skips k rest e = ap (λ b. first_or (cond b (Some z) None) (first_close_of ids (told_records link who rest))) e

  hits : (k : ℕ) (rest : List Notice) → is_one_of ids x ≡ true → first_close_of ids (told_records link who (tells (Closed (port_at x k) z) ∷ rest)) ≡ Some z
  hits k rest e = ap (λ b. first_or (cond b (Some z) None) (first_close_of ids (told_records link who rest))) e

  first_own : (b : Option ObjId) (rest : List Notice) → is_one_of ids x ≡ true → first_close_of ids (told_records link who (ports_closed_notices x b z ++ rest)) ≡ Some z
  first_own None rest e = hits 0 (tells (Closed (port_at x 1) z) ∷ tells (Closed (port_at x 2) z) ∷ tells (Closed (port_at x 3) z) ∷ rest) e
  first_own (Some t) rest e =
      hits 0 (tells (Closed (port_at x 1) z) ∷ tells (Closed (port_at t.0 0) z) ∷ tells (Entered (port_at t.0 0) Close) ∷ tells (Closed (port_at t.0 1) z) ∷ tells (Left (port_at t.0 0)) ∷ tells (Unplugged (port_at x 1) (port_at t.0 0))
      ∷ tells (Closed (port_at x 2) z) ∷ tells (Closed (port_at x 3) z) ∷ tells (Closed (port_at t.0 2) z) ∷ tells (Closed (port_at t.0 3) z) ∷ rest) e

  first_after : (rest : List Notice) → is_one_of ids x ≡ false → first_close_of ids (told_records link who (all_closed x z ++ rest)) ≡ first_close_of ids (told_records link who rest)
  first_after rest e =
      skips 0 (tells (Closed (port_at x 1) z) ∷ tells (Closed (port_at x 2) z) ∷ tells (Closed (port_at x 3) z) ∷ rest) e
      ∙ (skips 1 (tells (Closed (port_at x 2) z) ∷ tells (Closed (port_at x 3) z) ∷ rest) e
      ∙ (skips 2 (tells (Closed (port_at x 3) z) ∷ rest) e ∙ skips 3 rest e))

module _ (who : Speaker) (kind own_kind : ChainKind) (w own : Chain) (cause : Cause) (link : Client) (old new : Objects Obj) (m n : Heard) (s : Spelling) where
  abbrev beside : Open
  beside = on_chain who own_kind own

  shuts_beside : Awaits kind w old → is_one_of (chain_ids own) w.top.0 ≡ false → ShutsChainBeside own w old new cause m n → IsSpelled link who s (beside_notices w.top.0 own cause) → ShutsWith kind beside (Some w) cause link old new s
  shuts_beside awaits apart k spelled =
      let ns = beside_notices w.top.0 own cause in
      let let_go = alone_freed w.top.0 ++ released_notices own in
      let rest = ports_closed_notices own.top.0 own.below cause ++ let_go in
      let records = told_records link who ns in
      let all_ids = chain_ids own ++ chain_ids w in
      let call : IsCallOn who.number all_ids (last_serial own) None records (run_state old.book []) (run_state new.book []) =
      call_on link who all_ids (last_serial own) None None (run_state old.book []) (run_state new.book []) ns refl (above_order (last_serial own) ns k.shape)
      (record { events = k.gives.events; are = k.gives.are; run = k.gives.run; within = k.gives.within }) refl in
      let waiting : serials (pieces_of kind w) ≡ chain_ids w = ap (λ z. w.top.0 ∷ z) (serials_below w.below) in
      let its : own_serials (kin_of_open beside) ≡ chain_ids own = serials_are beside in
      let one : length (chain_ids w) ≡ 1 = ap (λ z. length (w.top.0 ∷ below_ids z)) awaits.alone in
      let closes : first_close_of (chain_ids own) records ≡ Some cause =
      first_after link who (chain_ids own) w.top.0 cause rest apart ∙ first_own link who (chain_ids own) own.top.0 cause own.below let_go (top_in own) in
      record {
        records = records;
        text = spelled.1;
        keeps = λ l is. silent_keeps link who own old l cause ns k.shape is.under_way;
        its_end = λ i. end_among_last i link who ns cause;
        closes_first = (port_at w.top.0 0, others_of records, refl);
        call = subst (λ z. IsCallOn who.number z (lowest_of (own_serials (kin_of_open beside))) None records (run_state old.book []) (run_state new.book [])) (ap (λ z. z ++ chain_ids w) (sym its) ∙ ap (λ z. own_serials (kin_of_open beside) ++ z) (sym waiting))
            (subst (λ z. IsCallOn who.number all_ids z None records (run_state old.book []) (run_state new.book [])) (sym (lowest_is beside)) call);
        close = close_of_objects beside records (Some cause) closes;
        gone = k.gone;
        others = k.others;
        number = omega (arith, k.number, one);
        same_room = k.same_room;
      }

-- BOTH

module _ (kind : ChainKind) (who : Speaker) (cause : Cause) (link : Client) (old new : Objects Obj) (before last : Teller) (s : Spelling) (noded : AreNoded rank_of_obj old) (same_net : before.net.now ≡ link) (same_who : before.who.now ≡ who) (blank : IsBlank before.told.value)
    (same : s ≡ last.told.value) (whole : IsWholeSpelling s) where
  abbrev m : Heard
  m = told_so_far before

  abbrev n : Heard
  n = told_so_far last

  chain_shuts : (waits : Option Chain) (own_kind : ChainKind) (own : Chain) → AwaitsFor kind waits old → (AreObjectsOpen (objects.Chain own_kind own) old → WaitsApart waits (objects.Chain own_kind own) → ShutsOr waits (objects.Chain own_kind own) old new cause m n) →
      (l : Live) → IsOpenOf old (on_chain who own_kind own) l → ShutsWith kind (on_chain who own_kind own) waits cause link old new s
  chain_shuts None own_kind own awaits shuts l is =
      let k = shuts (lives_open old (on_chain who own_kind own) (l, is)) tt in
      let ns = shutting_notices own.top.0 own.below cause in
      shuts_alone kind (on_chain who own_kind own) cause link old new m n s ns (chain_alone who own_kind own cause link old new m n k) (told_is link who before last s ns same_net same_who blank k.gives.given same whole)
  chain_shuts (Some w) own_kind own awaits shuts l is =
      let apart = waiting_apart kind (kind_for l.kind) w own old noded awaits is.chained (under_way_by l.kind own old l is.under_way) in
      let k = shuts (lives_open old (on_chain who own_kind own) (l, is)) apart in
      shuts_beside who kind own_kind w own cause link old new m n s awaits (apart w.top.0 (top_in w)) k (told_is link who before last s (beside_notices w.top.0 own cause) same_net same_who blank k.gives.given same whole)

  web_shuts : (waits : Option Chain) (port : ℕ) (own : Ip4) (c : WebChain) → waits ≡ None → (IsOpenWeb c old → WaitsApart waits (objects.Web port own c) → ShutsWeb c old new cause m n) →
      (l : Live) → IsOpenOf old (record { speaker = who; objects = objects.Web port own c }) l → ShutsWith kind (record { speaker = who; objects = objects.Web port own c }) waits cause link old new s
  web_shuts None port own c none shuts l is =
      let open_web = web_open l.kind own c old l is.under_way in
      let k = shuts open_web.0 tt in
      let ns = k.closes.ns ++ (k.free ++ freed_each (web_ids c)) in
      shuts_alone kind (record { speaker = who; objects = objects.Web port own c }) cause link old new m n s ns (web_alone who port own c cause link old new m n open_web.0 open_web.1 k) (told_is link who before last s ns same_net same_who blank k.gives.given same whole)
  web_shuts (Some w) port own c some shuts l is = absurd (cc)

  drive_shuts : (waits : Option Chain) (port : ℕ) (own : Ip4) (c : DriveChain) → waits ≡ None → (IsOpenWeb (three_of c) old → WaitsApart waits (objects.Drive port own c) → ShutsWeb (three_of c) old new cause m n) →
      (l : Live) → IsOpenOf old (record { speaker = who; objects = objects.Drive port own c }) l → ShutsWith kind (record { speaker = who; objects = objects.Drive port own c }) waits cause link old new s
  drive_shuts None port own c none shuts l is =
      let under = drive_under l.kind own c old l is.under_way in
      let k = shuts under.0 tt in
      let ns = k.closes.ns ++ (k.free ++ freed_each (drive_ids c)) in
      shuts_alone kind (record { speaker = who; objects = objects.Drive port own c }) cause link old new m n s ns (drive_alone who port own c cause link old new m n under.0 (drive_at l.kind own c old l is.chained is.under_way) k) (told_is link who before last s ns same_net same_who blank k.gives.given same whole)
  drive_shuts (Some w) port own c some shuts l is = absurd (cc)

  shuts_by : (waits : Option Chain) (os : OpenObjects) → AwaitsFor kind waits old → MayWaitBeside waits os → (AreObjectsOpen os old → WaitsApart waits os → ShutsOr waits os old new cause m n) →
      (l : Live) → IsOpenOf old (record { speaker = who; objects = os }) l → ShutsWith kind (record { speaker = who; objects = os }) waits cause link old new s
  shuts_by waits (objects.Chain own_kind own) awaits may shuts l is = chain_shuts waits own_kind own awaits shuts l is
  shuts_by waits (objects.Web port own c) awaits none shuts l is = web_shuts waits port own c none shuts l is
  shuts_by waits (objects.Drive port own c) awaits none shuts l is = drive_shuts waits port own c none shuts l is

pub shuts_so : (kind : ChainKind) (o : Open) (waits : Option Chain) (cause : Cause) (link : Client) (old new : Objects Obj) (before last : Teller) (s : Spelling) → AreNoded rank_of_obj old → before.net.now ≡ link → before.who.now ≡ o.speaker → IsBlank before.told.value →
    s ≡ last.told.value → IsWholeSpelling s → AwaitsFor kind waits old → MayWaitBeside waits o.objects → (AreObjectsOpen o.objects old → WaitsApart waits o.objects → ShutsOr waits o.objects old new cause (told_so_far before) (told_so_far last)) →
    (l : Live) → IsOpenOf old o l → ShutsWith kind o waits cause link old new s
shuts_so kind o waits cause link old new before last s noded same_net same_who blank same whole awaits may shuts l is =
    shuts_by kind o.speaker cause link old new before last s noded same_net same_who blank same whole waits o.objects awaits may shuts l is

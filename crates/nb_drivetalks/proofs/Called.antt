-- What the calls on the three do, from what is said of them.
use Rattle.std.proofs.Common.{◌≡◌, ℕ, true, List, [], Option, refl}
use Rattle.std.proofs.lemmas.Bool.{eq-eqb}
use Rattle.nb_chains.specs.declared.arrival.Arrival.{Arrival}
use Rattle.nb_graph.specs.Deeds.{Stage}
use Rattle.nb_ledger.specs.declared.event.GraphEvent.{GraphEvent}
use Rattle.nb_nodes.specs.declared.load.Load.{Load}
use Rattle.nb_nodes.specs.declared.obj.Obj.{Obj}
use Rattle.nb_opens.proofs.QuietLemmas.{AreQuiet}
use Rattle.nb_drivechains.specs.declared.drive_chain.DriveChain.{DriveChain}
use Rattle.nb_conns.specs.declared.conn_ask.ConnAsk.{ConnAsk}
use Rattle.nb_conns.specs.Dialogues.{comes_from_peer}
use Rattle.nb_drivechains.specs.DriveChains.{three_of}
use Rattle.nb_webchains.specs.WebCalls.{segment_said}
use Rattle.nb_webchains.proofs.Three.{conn_in, fetch_in, web_in}
use Rattle.nb_webtalks.proofs.Starting.{seen_stands}
use Rattle.nb_drivetalks.specs.Calls.{DriveBeginsCome, DriveClosesCome, DriveSegmentsCome, DriveTasksCome, DriveTimesCome}
use Rattle.nb_drivetalks.proofs.Beginnings.{begin_comes}
use Rattle.nb_drivetalks.specs.Orders.{BeginsDrive, CloseInOrder, StandInOrderEach, by_network, by_time, by_user}
use Rattle.nb_drivetalks.proofs.Closings.{closing_order, closing_says}
use Rattle.nb_drivetalks.proofs.DriveOrders.{in_order}
use Rattle.nb_drivetalks.proofs.Segments.{segment_comes}
use Rattle.nb_drivetalks.proofs.Starting.{begun, started}
use Rattle.nb_drivetalks.proofs.Tasks.{task_comes}
use Rattle.nb_drivetalks.proofs.Times.{time_comes}

from_peer : (a : ConnAsk) (rec : ℕ) (came : Arrival) → came.port ≡ a.peer_port → came.source.0 ≡ a.peer.0 → comes_from_peer a 1 (segment_said rec came) ≡ true
from_peer a rec came port source = rw (port, source, eq-eqb a.peer_port a.peer_port refl, eq-eqb a.peer.0 a.peer.0 refl) refl

pub segments : DriveSegmentsCome
segments a start d c g h rec now came s entry before after k called stands port source is short =
    let st = started c g h now _ k.ns stands.above stands.between stands.below called.was called.is called.hosted called.noded called.opened called.kinds (tt, tt) stands.unit stands.session stands.conn (k.own []) in
    segment_comes c called.opened.order g h now k.ns a start d stands (segment_said rec came) s (from_peer a.conn rec came port source) is short st

pub times : DriveTimesCome
times a start d c g h now entry before after k called stands =
    let st = started c g h now _ k.ns stands.above stands.between stands.below called.was called.is called.hosted called.noded called.opened called.kinds (tt, tt) stands.unit stands.session stands.conn (k.own []) in
    time_comes c called.opened.order g h now k.ns a start d stands st

pub closes : DriveClosesCome
closes a start d c g h cause ns own called stands = closing_says c g h cause ns called.was called.is called.hosted called.noded called.opened called.kinds own a start d stands

pub tasks : DriveTasksCome
tasks a start d c g h rec now block count before after k called stands so =
    let st = started c g h now _ k.ns stands.above stands.between stands.below called.was called.is called.hosted called.noded called.opened called.kinds (tt, tt) stands.unit stands.session stands.conn (k.own []) in
    task_comes c called.opened.order g h now k.ns a start d stands rec block count so st

pub begins : DriveBeginsCome
begins q c g h rec now bytes before after k called ready found short =
    let w = three_of c in
    let stands = seen_stands w g called.was called.hosted in
    let st = started c g h now _ k.ns [] [] [] called.was called.is called.hosted called.noded called.opened called.kinds (tt, tt)
    (stands c.unit.0 [] (fetch_in w) (ready.ready.stands c.unit.0 (fetch_in w))) (stands c.session.0 [] (web_in w) (ready.ready.stands c.session.0 (web_in w))) (stands c.conn.0 [] (conn_in w) (ready.ready.stands c.conn.0 (conn_in w))) (k.own []) in
    begin_comes c called.opened.order h now rec bytes k.ns q found st

-- IN WHICH ORDER THEY ARE TOLD

quiet_so : (c : DriveChain) (entry : Option GraphEvent) (asks : List (Stage Obj Load)) → BeginsDrive c entry asks → AreQuiet {N = Obj} {L = Load} c.conn.0 asks
quiet_so c _ _ (by_user m) = (tt, tt)
quiet_so c _ _ (by_network m) = (tt, tt)
quiet_so c _ _ by_time = (tt, tt)

pub orders : StandInOrderEach
orders c g h now asks entry before after k called by short =
    let w = three_of c in
    let seen = seen_stands w g called.was called.hosted in
    let t1 = called.was.stands c.unit.0 (fetch_in w) in
    let t2 = called.was.stands c.session.0 (web_in w) in
    let t3 = called.was.stands c.conn.0 (conn_in w) in
    let b = begun c g h now asks k.ns t1.0 t2.0 t3.0 called.was called.is called.hosted called.noded called.opened called.kinds (quiet_so c entry asks by) (seen c.unit.0 t1.0 (fetch_in w) t1.1) (seen c.session.0 t2.0 (web_in w) t2.1) (seen c.conn.0 t3.0 (conn_in w) t3.1) (k.own []) in
    in_order c g called.was called.hosted called.opened h now entry asks k.ns t1.0 t2.0 t3.0 b by short

pub close_orders : CloseInOrder
close_orders c g h cause ns own called = closing_order c g h cause ns called.was called.is called.hosted called.noded called.opened called.kinds own

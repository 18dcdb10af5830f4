-- What the calls on the three do, from what is said of them.
use Rattle.std.proofs.Common.{◌≡◌, ℕ, true, [], refl}
use Rattle.std.proofs.lemmas.Bool.{eq-eqb}
use Rattle.nb_conns.specs.declared.conn_ask.ConnAsk.{ConnAsk}
use Rattle.nb_conns.specs.Dialogues.{comes_from_peer}
use Rattle.nb_chains.specs.declared.arrival.Arrival.{Arrival}
use Rattle.nb_webchains.specs.WebCalls.{segment_said}
use Rattle.nb_webchains.proofs.Three.{conn_in, fetch_in, web_in}
use Rattle.nb_webtalks.specs.Calls.{BeginsCome, ClosesCome, SegmentsCome, TimesComeToWeb}
use Rattle.nb_webtalks.proofs.Starting.{seen_stands, started}
use Rattle.nb_webtalks.proofs.Beginnings.{begin_comes}
use Rattle.nb_webtalks.proofs.Closings.{closing_says}
use Rattle.nb_webtalks.proofs.Segments.{segment_comes}
use Rattle.nb_webtalks.proofs.Times.{time_comes}

pub begins : BeginsCome
begins q c g h rec now host bytes before after d called ready asked short =
    let stands = seen_stands c g called.was called.hosted in
    let st = started c g h now _ d.ns [] [] [] called.was called.is called.hosted called.noded called.opened (d.kinds called.kinds) (tt, tt)
    (stands c.fetch.0 [] (fetch_in c) (ready.ready.stands c.fetch.0 (fetch_in c))) (stands c.web.0 [] (web_in c) (ready.ready.stands c.web.0 (web_in c))) (stands c.conn.0 [] (conn_in c) (ready.ready.stands c.conn.0 (conn_in c))) (d.own []) in
    begin_comes c called.opened.order g h now rec host bytes d.ns q asked short st

from_peer : (a : ConnAsk) (rec : ℕ) (came : Arrival) → came.port ≡ a.peer_port → came.source.0 ≡ a.peer.0 → comes_from_peer a 1 (segment_said rec came) ≡ true
from_peer a rec came port source = rw (port, source, eq-eqb a.peer_port a.peer_port refl, eq-eqb a.peer.0 a.peer.0 refl) refl

pub segments : SegmentsCome
segments a start calls c g h rec now came s entry before after d called stands port source is short =
    let st = started c g h now _ d.ns stands.above stands.between stands.below called.was called.is called.hosted called.noded called.opened (d.kinds called.kinds) (tt, tt) stands.fetch stands.web stands.conn (d.own []) in
    segment_comes c called.opened.order g h now d.ns a start calls stands (segment_said rec came) s (from_peer a rec came port source) is short st

pub times : TimesComeToWeb
times a start calls c g h now entry before after d called stands =
    let st = started c g h now _ d.ns stands.above stands.between stands.below called.was called.is called.hosted called.noded called.opened (d.kinds called.kinds) (tt, tt) stands.fetch stands.web stands.conn (d.own []) in
    time_comes c called.opened.order g h now d.ns a start calls stands st

pub closes : ClosesCome
closes a start calls c g h cause ns own called kinds stands = closing_says c g h cause ns called.was called.is called.hosted called.noded called.opened kinds own a start calls stands

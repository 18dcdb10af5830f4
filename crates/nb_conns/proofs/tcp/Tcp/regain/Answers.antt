use Rattle.std.proofs.Common.{ap, sym, ◌∙◌, refl, Some}
use Rattle.nb_conns.specs.ConnLoads.{window_of_conn}
use Rattle.nb_conns.proofs.TalkLemmas.{back_on, other_on}
use Rattle.nb_conns.proofs.tcp.Tcp.regain.Goals as goal

pub returns-in-Some-Segments : goal.returns-in-Some-Segments
returns-in-Some-Segments g c = λ t s lacks. other_on g.L.CarriesConn.carrier c.args.self.now _ t c.args.load refl (ap window_of_conn (sym c.conn_load.ensures ∙ c.in-Some-Segments.is ∙ ap Some c.in-Some-Segments.field-0-is)) s

pub returns-in-Some-Window : goal.returns-in-Some-Window
returns-in-Some-Window g c = λ t s lacks. back_on g.L.CarriesConn.carrier c.args.self.now c.take_back.new.self t c.args.load c.in-Some-Window.lent.value c.take_back.ensures (ap window_of_conn (sym c.conn_load.ensures ∙ c.in-Some-Window.is ∙ ap Some c.in-Some-Window.field-0-is)) s lacks

pub returns-in-None : goal.returns-in-None
returns-in-None g c = λ t s lacks. other_on g.L.CarriesConn.carrier c.args.self.now _ t c.args.load refl (ap window_of_conn (sym c.conn_load.ensures ∙ c.in-None.is)) s

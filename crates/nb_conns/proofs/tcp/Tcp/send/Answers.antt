use Rattle.std.proofs.Common.{ℕ, List, ap, not, sym, subst, true}
use Rattle.nb_graph.specs.Trace.{down}
use Rattle.nb_streams.specs.Flows.{text_came}
use Rattle.nb_tcp.specs.ConnHistory.{calls_in}
use Rattle.nb_conns.specs.declared.stage.ConnStage.{ConnStage}
use Rattle.nb_conns.specs.Dialogues.{CallsConn, CarriesOn}
use Rattle.nb_conns.proofs.DialogueLemmas.{cuts_on}
use Rattle.nb_conns.proofs.TalkLemmas.{send_tag, text_on}
use Rattle.nb_conns.proofs.tcp.Tcp.send.Goals as goal

pub returns-in_default-take-clause-leads : goal.returns-in_default-take-clause-leads
returns-in_default-take-clause-leads g c = λ m asks w b. cuts_on _ _ _ _ c.give_up.ensures.over (λ d at. ap not c.give_up.ensures.err) tt

pub returns-in-Ok-clause-leads : goal.returns-in-Ok-clause-leads
returns-in-Ok-clause-leads g c = λ m asks w b.
    subst (λ (z : ConnStage). CarriesOn g.L.CarriesConn.carrier z c.carry_out.new.self.stage (down m c.args.now true c.carry_out.new.fx)) (sym c.in-Running.is)
    (text_on g.L.CarriesConn.carrier m c.args.now c.carry_out.new.fx c.send.new.acts c.in-Running.running c.send.new.self c.carry_out.new.self.stage (send_tag c.args.self.now.stage c.in-Running.running m c.in-Running.is asks) (c.carry_out.ensures.effects m) c.send.ensures.same c.send.ensures.held
    (subst (λ (z : List ℕ). CallsConn c.in-Running.running.conn c.send.new.self.conn (calls_in (text_came z c.args.now)) c.send.new.acts) (sym b) c.in-Ok.ensures.calls) c.carry_out.ensures.stage)

pub returns-in-Err-clause-leads : goal.returns-in-Err-clause-leads
returns-in-Err-clause-leads g c = λ m asks w b. cuts_on _ _ _ _ c.give_up-in-Err.ensures.over (λ d at. ap not c.give_up-in-Err.ensures.err) tt

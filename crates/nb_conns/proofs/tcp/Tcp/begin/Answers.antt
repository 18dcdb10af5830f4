use Rattle.std.proofs.Common.{ap, not, sym, ◌∙◌, subst, true}
use Rattle.nb_graph.specs.Trace.{down}
use Rattle.nb_conns.specs.declared.stage.ConnStage.{ConnStage}
use Rattle.nb_conns.specs.ConnAsks.{conn_ask_in}
use Rattle.nb_conns.specs.Dialogues.{CarriesOn}
use Rattle.nb_conns.proofs.DialogueLemmas.{rests_on, cuts_on, quiet_ask}
use Rattle.nb_conns.proofs.TalkLemmas.{begin_on}
use Rattle.nb_conns.proofs.tcp.Tcp.begin.Goals as goal

pub returns-in_default-clause-leads : goal.returns-in_default-clause-leads
returns-in_default-clause-leads g c = λ m tag b. rests_on g.L.CarriesConn.carrier _ _ (λ d at. quiet_ask g.L.CarriesConn.carrier _ m c.args.now c.args.fx.now d c.requires.waits (ap conn_ask_in b ∙ sym c.read.ensures ∙ c.in_default.is) at) c.requires.blank

pub returns-in_default-take-clause-leads : goal.returns-in_default-take-clause-leads
returns-in_default-take-clause-leads g c = λ m tag b. cuts_on _ _ _ _ c.give_up.ensures.over (λ d at. ap not c.give_up.ensures.err) tt

pub returns-in-Ok-clause-leads : goal.returns-in-Ok-clause-leads
returns-in-Ok-clause-leads g c = λ m tag b.
    subst (λ (z : ConnStage). CarriesOn g.L.CarriesConn.carrier z c.carry_out.new.self.stage (down m c.args.now true c.carry_out.new.fx)) (sym c.requires.waits)
    (begin_on _ c.in-Some.ask m c.args.now c.carry_out.new.fx c.in-Ok.running c.open.new.acts c.carry_out.new.self.stage tag (ap conn_ask_in b ∙ sym c.in-Some.ensures) c.in-Ok.ensures.syn (c.carry_out.ensures.effects m) c.in-Ok.ensures.talks c.carry_out.ensures.stage)

pub returns-in-Err-clause-leads : goal.returns-in-Err-clause-leads
returns-in-Err-clause-leads g c = λ m tag b. cuts_on _ _ _ _ c.give_up-in-Err.ensures.over (λ d at. ap not c.give_up-in-Err.ensures.err) tt

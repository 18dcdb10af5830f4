use Rattle.std.proofs.Common.{ap, not, sym, subst, true}
use Rattle.nb_graph.specs.Trace.{time, silence}
use Rattle.nb_conns.specs.declared.stage.ConnStage.{ConnStage}
use Rattle.nb_conns.specs.Dialogues.{CarriesOn}
use Rattle.nb_conns.proofs.DialogueLemmas.{rests_on, cuts_on, quiet_time, idle_within}
use Rattle.nb_conns.proofs.TalkLemmas.{tick_on}
use Rattle.nb_conns.proofs.tcp.Tcp.tick.Goals as goal

pub returns-in_default : goal.returns-in_default
returns-in_default g c = record { leads = rests_on g.L.CarriesConn.carrier _ _ (λ d at. quiet_time g.L.CarriesConn.carrier c.args.self.now.stage c.args.now c.args.fx.now d c.in_default.not-Running at) c.requires; within = λ len. idle_within len c.args.fx.now c.requires.0 c.requires.1 }

pub returns-in_default-take-clause-leads : goal.returns-in_default-take-clause-leads
returns-in_default-take-clause-leads g c = cuts_on _ _ _ _ c.give_up.ensures.over (λ d at. ap not c.give_up.ensures.err) tt

pub returns-clause-leads : goal.returns-clause-leads
returns-clause-leads g c =
    subst (λ (z : ConnStage). CarriesOn g.L.CarriesConn.carrier z c.carry_out.new.self.stage (time c.args.now true c.carry_out.new.fx)) (sym c.in-Running.is)
    (tick_on g.L.CarriesConn.carrier c.args.now c.carry_out.new.fx c.pass_time.new.acts c.in-Running.running c.pass_time.new.self c.carry_out.new.self.stage (c.carry_out.ensures.effects silence) c.pass_time.ensures.same c.pass_time.ensures.held c.pass_time.ensures.calls c.carry_out.ensures.stage)

use Rattle.std.proofs.Common.{ap, not, sym, subst, true}
use Rattle.nb_graph.specs.Trace.{time, silence}
use Rattle.nb_nodes.specs.declared.stage.Stage.{Stage}
use Rattle.nb_nodes.specs.Exchanges.{GoesOnAs, said_up}
use Rattle.nb_nodes.proofs.TftpLemmas.{asks_within}
use Rattle.nb_nodes.proofs.ExchangeLemmas.{idles, fails_now, idle_time_other, tick_on}
use Rattle.nb_nodes.proofs.asker.Asker.on_time.Goals as goal

pub returns-in_default : goal.returns-in_default
returns-in_default g c =
    let s = g.C.Core.service in
    record {
      leads = idles s _ _ (λ v at. idle_time_other s c.args.self.now.stage c.args.now c.args.fx.now v c.in_default.not-Running at) c.requires;
      within = asks_within _ _ c.requires;
    }

pub returns-in_default-take-clause-leads : goal.returns-in_default-take-clause-leads
returns-in_default-take-clause-leads g c = fails_now g.C.Core.service _ _ _ g.met.C.Core.meets c.give_up.ensures.over (λ v. ap not c.give_up.ensures.err) tt

pub carry_out-requires-clause-simple : goal.carry_out-requires-clause-simple
carry_out-requires-clause-simple g c = (0, c.pass_time-given.ensures.simple)

pub returns-clause-leads : goal.returns-clause-leads
returns-clause-leads g c =
    let s = g.C.Core.service in
    subst (λ (z : Stage _). GoesOnAs s z c.carry_out.new.self.stage (time c.args.now true c.carry_out.new.fx)) (sym c.in-Running.is)
    (tick_on s c.args.now c.carry_out.new.fx c.pass_time-given.new.acts (said_up silence c.pass_time-given.result) c.in-Running.core c.pass_time-given.new.self c.carry_out.new.self.stage g.met.C.Core.meets (c.carry_out.ensures.effects silence)
    c.pass_time-given.ensures.calls c.carry_out.ensures.stage)

pub returns-clause-within : goal.returns-clause-within
returns-clause-within g c = c.carry_out.ensures.within 0 c.pass_time-given.ensures.simple

use Rattle.std.proofs.Common.{ap, not, sym, subst, true}
use Rattle.nb_graph.specs.Trace.{time, silence}
use Rattle.nb_nodes.specs.declared.tftp.Work.{Work}
use Rattle.nb_nodes.specs.Conversations.{ContinuesAs}
use Rattle.nb_nodes.proofs.TftpLemmas.{rests_on, fails_on, idle_time_other, tick_on, asks_within}
use Rattle.nb_nodes.proofs.tftp.Tftp.on_time.Goals as goal

pub returns-in_default : goal.returns-in_default
returns-in_default c = record {
  leads = rests_on _ _ (λ v at. idle_time_other c.args.self.now.work c.args.now c.args.fx.now v c.in_default.not-Running at) c.requires;
  within = asks_within _ _ c.requires;
}

pub returns-in_default-take-clause-leads : goal.returns-in_default-take-clause-leads
returns-in_default-take-clause-leads c = fails_on _ _ _ c.give_up.ensures.over (λ v. ap not c.give_up.ensures.err) tt

pub returns-clause-leads : goal.returns-clause-leads
returns-clause-leads c =
    subst (λ (z : Work). ContinuesAs z c.carry_out.new.self.work (time c.args.now true c.carry_out.new.fx)) (sym c.in-Running.is)
    (tick_on c.args.now c.carry_out.new.fx c.time.new.acts c.in-Running.transfer c.time.new.self c.carry_out.new.self.work (c.carry_out.ensures.effects silence) (c.time.ensures.stands true) c.carry_out.ensures.work)

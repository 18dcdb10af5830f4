use Rattle.std.proofs.Common.{◌≡◌, ap, not, sym, ◌∙◌, subst, refl, true}
use Rattle.nb_graph.specs.Trace.{up}
use Rattle.nb_tftp.specs.Received.{Received, received}
use Rattle.nb_tftp.specs.History.{came}
use Rattle.nb_nodes.specs.declared.tftp.Work.{Work}
use Rattle.nb_nodes.specs.Conversations.{ContinuesAs}
use Rattle.nb_nodes.proofs.TftpLemmas.{rests_on, fails_on, idle_up_other, message_on, CallsOnce, asks_within}
use Rattle.nb_nodes.proofs.tftp.Tftp.message.Goals as goal

pub returns-in_default : goal.returns-in_default
returns-in_default c = record {
  leads = λ slot m d r p b took. rests_on _ _ (λ v at. idle_up_other c.args.self.now.work slot m c.args.now c.args.fx.now v c.in_default.not-Running at) (c.requires, took);
  within = asks_within _ _ c.requires;
  took = refl;
}

pub returns-in_default-take-clause-leads : goal.returns-in_default-take-clause-leads
returns-in_default-take-clause-leads c = λ slot m d r p b took. fails_on _ _ _ c.give_up.ensures.over (λ v. ap not c.give_up.ensures.err) tt

pub returns-clause-leads : goal.returns-clause-leads
returns-clause-leads c = λ slot m d r p b took.
    let same : received m.rec m.a m.bytes ≡ received c.args.rec c.args.port c.args.body.now = ap (λ z. received z m.a m.bytes) r ∙ ap (λ z. received c.args.rec z m.bytes) p ∙ ap (λ z. received c.args.rec c.args.port z) b in
    subst (λ (z : Work). ContinuesAs z c.carry_out.new.self.work (up slot m c.args.now true c.carry_out.new.fx)) (sym c.in-Running.is)
    (message_on slot m c.args.now c.carry_out.new.fx c.message.new.acts c.in-Running.transfer c.message.new.self c.carry_out.new.self.work d (c.carry_out.ensures.effects m) (c.carry_out.ensures.took ∙ took)
    (subst (λ (z : Received). CallsOnce c.in-Running.transfer c.message.new.self (came z c.args.now) c.message.new.acts) (sym same) (c.message.ensures.stands true)) c.carry_out.ensures.work)

use Rattle.std.proofs.Common.{◌≡◌, ap, not, sym, ◌∙◌, subst, if◌then◌else◌, true}
use Rattle.std.specs.Option.{is_some, option_map}
use Rattle.nb_graph.specs.Trace.{down, silence}
use Rattle.nb_nodes.specs.declared.tftp.Work.{Work}
use Rattle.nb_nodes.specs.declared.tftp.Work.TheVariants.{Waiting, Running, Over}
use Rattle.nb_nodes.specs.Asking.{ask_in, ask_value}
use Rattle.nb_nodes.specs.Conversations.{ContinuesAs}
use Rattle.nb_nodes.proofs.TftpLemmas.{rests_on, fails_on, idle_down, no_ask, begin_on}
use Rattle.nb_nodes.proofs.CarriedLemmas.{no_ups}
use Rattle.nb_nodes.proofs.tftp.Tftp.begin.Goals as goal

pub returns-in_default-clause-leads : goal.returns-in_default-clause-leads
returns-in_default-clause-leads c = λ m tag b.
    rests_on _ _ (λ v at. idle_down m c.args.now c.args.fx.now v (no_ask m (ap ask_in b ∙ sym c.read.ensures.value ∙ ap (option_map ask_value) c.in_default.is))) c.requires.blank

pub returns-in_default-take-clause-leads : goal.returns-in_default-take-clause-leads
returns-in_default-take-clause-leads c = λ m tag b. fails_on _ _ _ c.give_up.ensures.over (λ v. ap not c.give_up.ensures.err) tt

pub returns-clause-leads : goal.returns-clause-leads
returns-clause-leads c = λ m tag b.
    let runs : c.carry_out.new.self.work ≡ Running c.in-Ok.transfer = c.carry_out.ensures.work ∙ ap (λ z. if is_some z.over then Over else Running c.in-Ok.transfer) c.in-Ok.ensures.request in
    subst (λ (z : Work). ContinuesAs z c.carry_out.new.self.work (down m c.args.now true c.carry_out.new.fx)) (sym c.requires.waits)
    (subst (λ (z : Work). ContinuesAs Waiting z (down m c.args.now true c.carry_out.new.fx)) (sym runs)
    (begin_on (ask_value c.in-Some.wanted) m c.args.now c.carry_out.new.fx c.start.new.acts c.in-Ok.transfer tag (ap ask_in b ∙ sym c.in-Some.ensures.value) c.in-Ok.ensures.request (c.carry_out.ensures.effects m) c.in-Ok.ensures.stands))

pub returns-clause-ups : goal.returns-clause-ups
returns-clause-ups c = no_ups silence c.start.new.acts c.carry_out.new.fx (c.carry_out.ensures.effects silence) (ap (λ z. z.give) c.in-Ok.ensures.request)

use Rattle.std.proofs.Common.{ap, not, sym, ◌∙◌, subst, refl, true, length}
use Rattle.nb_graph.specs.Trace.{said, up}
use Rattle.nb_nodes.specs.declared.stage.Stage.{Stage}
use Rattle.nb_nodes.specs.Exchanges.{GoesOnAs, said_up}
use Rattle.nb_nodes.proofs.TftpLemmas.{asks_within}
use Rattle.nb_nodes.proofs.GivingLemmas.{gives_within_more}
use Rattle.nb_nodes.proofs.ExchangeLemmas.{idles, fails_now, idle_up_other, message_on}
use Rattle.nb_nodes.proofs.asker.Asker.receive.Goals as goal

pub returns-in_default : goal.returns-in_default
returns-in_default g c =
    let s = g.C.Core.service in
    record {
      leads = λ slot d took. idles s _ _ (λ v at. idle_up_other s c.args.self.now.stage slot (said c.args.msg.now) c.args.now c.args.fx.now v c.in_default.not-Running at) (c.requires.blank, took);
      within = λ len few. asks_within len _ c.requires.blank;
      took = refl;
    }

pub returns-in_default-take-clause-leads : goal.returns-in_default-take-clause-leads
returns-in_default-take-clause-leads g c = λ slot d took. fails_now g.C.Core.service _ _ _ g.met.C.Core.meets c.give_up.ensures.over (λ v. ap not c.give_up.ensures.err) tt

pub carry_out-requires-clause-simple : goal.carry_out-requires-clause-simple
carry_out-requires-clause-simple g c = (length c.args.body.now, c.receive-given.ensures.simple)

pub returns-clause-leads : goal.returns-clause-leads
returns-clause-leads g c = λ slot d took.
    let s = g.C.Core.service in
    let m = said c.args.msg.now in
    subst (λ (z : Stage _). GoesOnAs s z c.carry_out.new.self.stage (up slot m c.args.now true c.carry_out.new.fx)) (sym c.in-Running.is)
    (message_on s slot m c.args.now c.carry_out.new.fx c.receive-given.new.acts (said_up m c.receive-given.result) c.in-Running.core c.receive-given.new.self c.carry_out.new.self.stage g.met.C.Core.meets d (c.carry_out.ensures.effects m) (c.carry_out.ensures.took ∙ took)
    c.receive-given.ensures.calls c.carry_out.ensures.stage)

pub returns-clause-within : goal.returns-clause-within
returns-clause-within g c = λ len few. c.carry_out.ensures.within len (gives_within_more (length c.args.body.now) len c.receive-given.new.acts c.receive-given.result few c.receive-given.ensures.simple)

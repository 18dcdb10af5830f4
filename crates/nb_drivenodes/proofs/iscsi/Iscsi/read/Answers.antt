use Rattle.std.proofs.Common.{◌++◌, ap, not, sym, ◌∙◌, refl, subst, []}
use Rattle.nb_effects.specs.declared.effects.Fx.{Fx}
use Rattle.nb_graph.specs.Trace.{said}
use Rattle.nb_iscsipdu.specs.Streams.{pdu_of}
use Rattle.nb_conns.proofs.DialogueLemmas.{nothing_said}
use Rattle.nb_drivenodes.specs.StreamCuts.{CutOutcome, FeedsSo, outcome_gathered}
use Rattle.nb_drivenodes.proofs.DriveEffectLemmas.{closes-alone}
use Rattle.nb_drivenodes.proofs.StreamCutLemmas.{feeds-so, more-none, one-one, one-whole, broken-off}
use Rattle.nb_drivenodes.proofs.SessionLemmas.{session-cuts}
use Rattle.nb_drivenodes.proofs.LoginAnswerLemmas.{waits-on, nothing-emitted}
use Rattle.nb_drivenodes.proofs.iscsi.Iscsi.read.Goals as goal

pub returns-then-count-clause-leads : goal.returns-then-count-clause-leads
returns-then-count-clause-leads g c = λ slot now takes. session-cuts _ _ _ _ _ _ c.give_up.ensures.ended (λ d at. ap not c.give_up.ensures.err) tt

pub returns-then-count-gt0-clause-leads : goal.returns-then-count-gt0-clause-leads
returns-then-count-gt0-clause-leads g c = λ slot now takes. session-cuts _ _ _ _ _ _ c.give_up-then-count-gt0.ensures.ended (λ d at. ap not c.give_up-then-count-gt0.ensures.err) tt

pub returns-in-More-clause-leads : goal.returns-in-More-clause-leads
returns-in-More-clause-leads g c = λ slot now takes.
    let bytes = c.args.msg.now.first.now ++ c.args.msg.now.second.now in
    let fed : FeedsSo c.args.self.now.pdus c.feed-took.new.self bytes c.feed-took.result.0 (outcome_gathered c.feed-took.new.self) =
    feeds-so c.args.self.now.pdus c.feed-took.new.self bytes c.feed-took.result.0 c.feed-took.ensures.gathers c.feed-took.ensures.within c.feed-took.ensures.stands c.feed-took.ensures.least c.feed-took.ensures.all in
    let fx : Fx g.row.N.Denot g.row.L.Denot = record c.args.fx.now { took = c.feed-took.result.0 } in
    let idle = nothing_said c.args.fx.now c.requires in
    waits-on g.L.CarriesText.texts (said c.args.msg.now) slot now fx c.args.self.now.stage c.args.self.now.pdus c.feed-took.new.self takes
    (subst (λ (o : CutOutcome). FeedsSo c.args.self.now.pdus c.feed-took.new.self bytes c.feed-took.result.0 o) (more-none c.feed-took.new.self (sym c.in-More.is ∙ c.feed-took.ensures.state)) fed)
    (closes-alone g.L.CarriesText.texts (said c.args.msg.now) [] fx idle.0.no_make (nothing-emitted c.args.fx.now idle.0).0 (nothing-emitted c.args.fx.now idle.0).1 idle.1)

pub returns-in-One-clause-leads : goal.returns-in-One-clause-leads
returns-in-One-clause-leads g c = λ slot now takes.
    let bytes = c.args.msg.now.first.now ++ c.args.msg.now.second.now in
    let fed : FeedsSo c.args.self.now.pdus c.feed-took.new.self bytes c.feed-took.result.0 (outcome_gathered c.feed-took.new.self) =
    feeds-so c.args.self.now.pdus c.feed-took.new.self bytes c.feed-took.result.0 c.feed-took.ensures.gathers c.feed-took.ensures.within c.feed-took.ensures.stands c.feed-took.ensures.least c.feed-took.ensures.all in
    let is = sym c.in-One.is ∙ c.feed-took.ensures.state in
    c.receive.ensures.leads (said c.args.msg.now) slot now (pdu_of c.feed-took.new.self) c.args.self.now.pdus takes refl (one-whole c.feed-took.new.self is)
    (subst (λ (o : CutOutcome). FeedsSo c.args.self.now.pdus c.feed-took.new.self bytes c.feed-took.result.0 o) (one-one c.feed-took.new.self is) fed)

pub returns-in-One-clause-within : goal.returns-in-One-clause-within
returns-in-One-clause-within g c = c.receive.ensures.within _

pub returns-in-Broken-clause-leads : goal.returns-in-Broken-clause-leads
returns-in-Broken-clause-leads g c = λ slot now takes.
    let bytes = c.args.msg.now.first.now ++ c.args.msg.now.second.now in
    let fed : FeedsSo c.args.self.now.pdus c.feed-took.new.self bytes c.feed-took.result.0 (outcome_gathered c.feed-took.new.self) =
    feeds-so c.args.self.now.pdus c.feed-took.new.self bytes c.feed-took.result.0 c.feed-took.ensures.gathers c.feed-took.ensures.within c.feed-took.ensures.stands c.feed-took.ensures.least c.feed-took.ensures.all in
    c.finish.ensures.broken (said c.args.msg.now) slot now c.args.self.now.pdus takes refl
    (subst (λ (o : CutOutcome). FeedsSo c.args.self.now.pdus c.feed-took.new.self bytes c.feed-took.result.0 o) (broken-off c.feed-took.new.self (sym c.in-Broken.is ∙ c.feed-took.ensures.state)) fed)

pub returns-in-Broken-clause-within : goal.returns-in-Broken-clause-within
returns-in-Broken-clause-within g c = c.finish.ensures.within _

use Rattle.std.proofs.Common.{ap, not, sym, refl, subst, true, Some, ◌∙◌}
use Rattle.nb_effects.specs.declared.effects.Fx.{Fx}
use Rattle.nb_graph.specs.Trace.{up, said}
use Rattle.nb_conns.specs.ConnEffects.{closes_for}
use Rattle.nb_webnodes.specs.WebTalks.{FetchesOn}
use Rattle.nb_webnodes.proofs.WebLemmas.{cuts_on}
use Rattle.nb_webnodes.proofs.AnswerLemmas.{part_on, range_on}
use Rattle.nb_webnodes.proofs.web.Web.read.Goals as goal

pub returns-then-count-clause-leads : goal.returns-then-count-clause-leads
returns-then-count-clause-leads g c = λ slot now takes. cuts_on _ _ _ _ c.give_up.ensures.ended (λ d at. ap not c.give_up.ensures.err) tt

pub returns-in-Some-None-clause-leads : goal.returns-in-Some-None-clause-leads
returns-in-Some-None-clause-leads g c = λ slot now takes.
    range_on g.L.CarriesWeb.web (said c.args.msg.now) slot now _ c.args.self.now.stage c.bytes-fx.new.self c.bytes-fx.new.acts c.in-Fetching.http c.in-Some-None.from c.in-Some-None.to
    c.in-Fetching.is takes c.bytes-fx.ensures.stands c.bytes-fx.ensures.within c.bytes-fx.ensures.least c.bytes-fx.ensures.hands c.in-Some-None.is-0 c.in-Some-None.is-1
    (c.put.ensures ∙ ap Some c.body_up.ensures, c.requires.4) c.requires.0 c.requires.1 c.requires.2 c.requires.5

pub returns-in-Ok-clause-leads : goal.returns-in-Ok-clause-leads
returns-in-Ok-clause-leads g c = λ slot now takes.
    let fx : Fx g.row.N.Denot g.row.L.Denot = record c.args.fx.now { took = c.bytes-fx.result; ups = c.carry_out.new.fx.ups; closes = record { items = closes_for c.bytes-fx.new.acts.over } } in
    subst (λ (z : Fx g.row.N.Denot g.row.L.Denot). FetchesOn g.L.CarriesWeb.web c.args.self.now.stage c.carry_out.new.self.stage (up slot (said c.args.msg.now) now true z)) (sym c.carry_out.ensures.same)
    (part_on g.L.CarriesWeb.web (said c.args.msg.now) slot now fx c.args.self.now.stage c.bytes-fx.new.self c.bytes-fx.new.acts c.carry_out.new.self.stage c.in-Fetching.http c.in-Ok.given.body c.in-Ok.given.moved
    c.in-Fetching.is takes c.bytes-fx.ensures.stands c.bytes-fx.ensures.within c.bytes-fx.ensures.least c.bytes-fx.ensures.hands c.in-Ok.ensures.body c.in-Ok.ensures.moved c.carry_out.ensures.ups
    c.requires.0 c.requires.1 c.requires.2 refl c.carry_out.ensures.stage)

pub returns-in_default-gather_answer-clause-leads : goal.returns-in_default-gather_answer-clause-leads
returns-in_default-gather_answer-clause-leads g c = λ slot now takes. cuts_on _ _ _ _ c.give_up-in_default-gather_answer.ensures.ended (λ d at. ap not c.give_up-in_default-gather_answer.ensures.err) tt

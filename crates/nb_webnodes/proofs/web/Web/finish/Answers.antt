use Rattle.std.proofs.Common.{true, sym, refl, subst}
use Rattle.nb_webnodes.proofs.AnswerLemmas.{ended_on}
use Rattle.nb_effects.specs.declared.effects.Fx.{Fx}
use Rattle.nb_webnodes.specs.declared.stage.WebStage.TheVariants.{Ended}
use Rattle.nb_webnodes.specs.WebTalks.{FetchesOn}
use Rattle.nb_graph.specs.Trace.{up}
use Rattle.nb_conns.specs.ConnEffects.{closes_for}
use Rattle.nb_http.specs.Standing.{EndsStream}
use Rattle.nb_webnodes.proofs.web.Web.finish.Goals as goal

pub returns-clause-leads : goal.returns-clause-leads
returns-clause-leads g c = λ slot now m takes r all.
    let said = c.requires.0 in
    let fx : Fx g.row.N.Denot g.row.L.Denot = record c.args.fx.now { closes = record { items = closes_for c.finish.new.acts.over } } in
    subst (λ (z : Fx g.row.N.Denot g.row.L.Denot). FetchesOn g.L.CarriesWeb.web c.args.self.now.stage Ended (up slot m now true z)) (sym c.ask_close.ensures)
    (ended_on g.L.CarriesWeb.web m slot now fx c.args.self.now.stage Ended c.in-Fetching.http c.finish.new.self.core c.finish.new.acts.over c.in-Fetching.is refl takes
    (subst (λ z. EndsStream z c.in-Fetching.http.core c.finish.new.self.core c.finish.new.acts.over) (sym r) c.finish.ensures.ends) all said.no_make said.no_down said.no_downs said.no_up said.no_ups refl)

use Rattle.std.proofs.Common.{◌∙◌, ap, not, sym, length-append}
use Rattle.std.proofs.lemmas.Bool.{ne_eqb}
use Rattle.nb_effects.specs.declared.effects.Fx.{Fx}
use Rattle.nb_graph.specs.Trace.{said}
use Rattle.nb_conns.proofs.DialogueLemmas.{nothing_said}
use Rattle.nb_drivenodes.proofs.LoginAnswerLemmas.{nothing-emitted}
use Rattle.nb_drivenodes.proofs.UnitLemmas.{unit-rests, unit-cuts, quiet-down-unit}
use Rattle.nb_drivenodes.proofs.UnitTalkLemmas.{unit-begins-on}
use Rattle.nb_drivenodes.proofs.logical_unit.LogicalUnit.begin.Goals as goal

pub returns-then-msg-from-clause-leads : goal.returns-then-msg-from-clause-leads
returns-then-msg-from-clause-leads g c = λ now. unit-rests g.L.CarriesText.texts _ _
    (λ d at. quiet-down-unit c.args.self.now.stage (said c.args.msg.now) now c.args.fx.now d (λ e. ne_eqb c.args.msg.now.tag 1 (λ t. c.if-msg-from.true (t ∙ sym c.from.ensures))) (λ kk x o calls e st on. absurd (let z = e in let y = c.requires.unasked in cc)) at)
    (nothing_said c.args.fx.now c.requires.nothing)

pub returns-then-count-clause-leads : goal.returns-then-count-clause-leads
returns-then-count-clause-leads g c = λ now. unit-cuts _ _ _ _ c.give_up.ensures.ended (λ d at. ap not c.give_up.ensures.err) tt

pub returns-clause-leads : goal.returns-clause-leads
returns-clause-leads g c = λ now.
    let idle = nothing_said c.args.fx.now c.requires.nothing in
    let fx : Fx g.row.N.Denot g.row.L.Denot = record c.args.fx.now { downs = c.ask_session.new.downs } in
    unit-begins-on g.L.CarriesText.texts (said c.args.msg.now) now fx c.args.self.now.stage _ c.requires.unasked (c.if-msg-from.false ∙ c.from.ensures) (sym (length-append c.args.msg.now.first.now c.args.msg.now.second.now))
    idle.0.no_make c.ask_session.ensures (nothing-emitted c.args.fx.now idle.0).1 idle.1

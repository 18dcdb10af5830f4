use Rattle.std.proofs.Common.{ℕ, true, ap, sym, ◌∙◌, subst, refl, arith, if◌then◌else◌}
use Rattle.nb_effects.specs.declared.effects.Fx.{Fx}
use Rattle.nb_graph.specs.Trace.{up}
use Rattle.nb_conns.specs.ConnEffects.{closes_for}
use Rattle.nb_disk.specs.Histories.{stream_ended}
use Rattle.nb_drivenodes.specs.declared.unit_stage.UnitStage.TheVariants.{Working, Ended}
use Rattle.nb_drivenodes.specs.UnitAnswers.{AnswersUnit}
use Rattle.nb_drivenodes.specs.UnitTalks.{UnitOn}
use Rattle.nb_drivenodes.proofs.DriveEffectLemmas.{closes-alone}
use Rattle.nb_drivenodes.proofs.LoginAnswerLemmas.{nothing-emitted}
use Rattle.nb_drivenodes.proofs.UnitLemmas.{unit-rests, quiet-up-unit, off-tag, off-opened, tag-of, nothing-within}
use Rattle.nb_drivenodes.proofs.UnitTalkLemmas.{lacks-on}
use Rattle.nb_drivenodes.proofs.logical_unit.LogicalUnit.finish.Goals as goal

pub returns-in_default : goal.returns-in_default
returns-in_default g c = record {
  leads = λ m slot now tag r took. unit-rests g.L.CarriesText.texts _ _
      (λ d at. quiet-up-unit c.args.self.now.stage slot m now c.args.fx.now d (λ e. off-opened slot m (off-tag 11 slot m (λ t. absurd (let z = tag-of 8 slot m tag in omega (arith, t, z))))) (λ kk x e. absurd (c.in_default.not-Working kk x e)) at) (c.requires.0, c.requires.1, took);
  within = λ len. nothing-within len c.args.fx.now c.requires.0 c.requires.1;
  took = refl;
}

pub returns-clause-leads : goal.returns-clause-leads
returns-clause-leads g c = λ m slot now tag r took.
    let none = nothing-emitted c.args.fx.now c.requires.0 in
    let fx : Fx g.row.N.Denot g.row.L.Denot = record c.args.fx.now { closes = record { items = closes_for c.serve_end-answer.result.over } } in
    subst (λ (z : Fx g.row.N.Denot g.row.L.Denot). UnitOn g.L.CarriesText.texts c.args.self.now.stage c.end_if.new.self (up slot m now true z)) (sym c.ask_close.ensures)
    (lacks-on g.L.CarriesText.texts m slot now fx c.args.self.now.stage c.end_if.new.self c.in-Working.disk c.serve_end-answer.new.disk c.in-Working.field-1 c.serve_end-answer.result c.in-Working.is tag took
    (λ o calls st on. subst (λ (z : ℕ). AnswersUnit o calls (stream_ended z) c.serve_end-answer.new.disk c.serve_end-answer.result) (sym r) (c.serve_end-answer.ensures o calls st on))
    (closes-alone g.L.CarriesText.texts m (closes_for c.serve_end-answer.result.over) fx c.requires.0.no_make none.0 none.1 refl)
    (c.end_if.ensures ∙ ap (λ z. if z then Ended else Working c.serve_end-answer.new.disk c.in-Working.field-1) c.is_some.ensures))

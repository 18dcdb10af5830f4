use Rattle.std.proofs.Common.{ℕ, ◌&&◌, true, [], Some, ap, not, sym, ◌∙◌, subst}
use Rattle.std.specs.Option.{is_some}
use Rattle.nb_effects.specs.declared.effects.Fx.{Fx}
use Rattle.nb_graph.specs.Trace.{up}
use Rattle.nb_drivenodes.specs.declared.unit_stage.UnitStage.TheVariants.{Working}
use Rattle.nb_drivenodes.specs.DriveEffects.{DriveEffects, sends_says}
use Rattle.nb_drivenodes.specs.SessionNotes.{note_in}
use Rattle.nb_drivenodes.specs.UnitAnswers.{StartsUnit, unit_opened}
use Rattle.nb_drivenodes.specs.UnitTalks.{UnitOn, tagged_below}
use Rattle.nb_drivenodes.proofs.DriveEffectLemmas.{sends-alone}
use Rattle.nb_drivenodes.proofs.LoginAnswerLemmas.{nothing-emitted}
use Rattle.nb_drivenodes.proofs.UnitLemmas.{unit-rests, unit-cuts, quiet-up-unit, and-off}
use Rattle.nb_drivenodes.proofs.UnitTalkLemmas.{starts-on}
use Rattle.nb_drivenodes.proofs.logical_unit.LogicalUnit.open.Goals as goal

pub returns-in_default-clause-leads : goal.returns-in_default-clause-leads
returns-in_default-clause-leads g c = λ m slot now tag a b bytes took. unit-rests g.L.CarriesText.texts _ _
    (λ d at. quiet-up-unit c.args.self.now.stage slot m now c.args.fx.now d (λ e. ap (λ z. tagged_below 11 slot m && is_some z) (ap note_in bytes ∙ sym c.read.ensures ∙ c.in_default.is) ∙ and-off (tagged_below 11 slot m)) (λ kk x e. absurd (let z = e in let y = c.requires.waits in cc)) at)
    (c.requires.blank.0, c.requires.blank.1, took)

pub returns-in-Ok-clause-leads : goal.returns-in-Ok-clause-leads
returns-in-Ok-clause-leads g c = λ m slot now tag a b bytes took.
    let fx : Fx g.row.N.Denot g.row.L.Denot = record c.args.fx.now { downs = c.send.new.downs } in
    let starts : StartsUnit (unit_opened c.in-Some.note m.a) c.in-Ok.disk c.in-Ok.text = subst (λ (z : ℕ). StartsUnit (unit_opened c.in-Some.note z) c.in-Ok.disk c.in-Ok.text) (sym a) c.in-Ok.ensures in
    subst (λ (z : ℕ). UnitOn g.L.CarriesText.texts c.args.self.now.stage (Working c.in-Ok.disk z) (up slot m now true fx)) b
    (starts-on g.L.CarriesText.texts m slot now fx c.args.self.now.stage c.in-Ok.disk c.in-Some.note c.requires.waits tag (ap note_in bytes ∙ sym c.read.ensures ∙ c.in-Some.is) took starts.stands
    (subst (λ z. DriveEffects g.L.CarriesText.texts m (sends_says m.rec (Some z)) [] [] fx) starts.request
    (sends-alone g.L.CarriesText.texts m c.in-Ok.text fx c.requires.blank.0.no_make c.send.ensures (nothing-emitted c.args.fx.now c.requires.blank.0).1 c.requires.blank.1)))

pub returns-in-Err-clause-leads : goal.returns-in-Err-clause-leads
returns-in-Err-clause-leads g c = λ m slot now tag a b bytes took. unit-cuts _ _ _ _ c.give_up.ensures.ended (λ d at. ap not c.give_up.ensures.err) tt

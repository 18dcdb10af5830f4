use Rattle.std.proofs.Common.{◌-◌, ◌++◌, [], ◌∷◌, ap, sym, ◌∙◌, refl, arith}
use Rattle.nb_effects.specs.declared.effects.Fx.{Fx}
use Rattle.nb_graph.specs.Trace.{closed}
use Rattle.nb_drivenodes.specs.declared.unit_stage.UnitStage.TheVariants.{Ended}
use Rattle.nb_conns.proofs.DialogueLemmas.{nothing_said}
use Rattle.nb_drivenodes.proofs.UnitLemmas.{unit-rests, unit-cuts, quiet-slot-unit, quiet-ended-unit, cut-close-unit, unit-stands-on}
use Rattle.nb_drivenodes.proofs.logical_unit.LogicalUnit.on_close.Goals.{then-slot-gt-BELOW-via-then-slot-gt-BELOW, then-slot-gt-BELOW-via-else-slot-gt-BELOW+then-is_ended}
use Rattle.nb_drivenodes.proofs.logical_unit.LogicalUnit.on_close.Goals as goal

pub returns-then-slot-gt-BELOW-clause-stands : goal.returns-then-slot-gt-BELOW-clause-stands
returns-then-slot-gt-BELOW-clause-stands g c =
    elim c.then-slot-gt-BELOW.branch [
      | then-slot-gt-BELOW-via-then-slot-gt-BELOW w ↦ λ t now s. unit-stands-on g.L.CarriesText.texts c.args.self.now c.args.self.now t _ (unit-rests g.L.CarriesText.texts _ _ (λ d at. quiet-slot-unit c.args.slot c.args.cause.now now c.args.fx.now d (omega arith)) (nothing_said c.args.fx.now c.requires)) s
      | then-slot-gt-BELOW-via-else-slot-gt-BELOW+then-is_ended w ↦ λ t now s. unit-stands-on g.L.CarriesText.texts c.args.self.now c.args.self.now t _ (unit-rests g.L.CarriesText.texts _ _ (λ d at. quiet-ended-unit c.args.self.now.stage c.args.slot c.args.cause.now now c.args.fx.now d (sym w.is_ended.ensures ∙ w.if-is_ended.true) at) (nothing_said c.args.fx.now c.requires)) s
    ]

pub returns-clause-stands : goal.returns-clause-stands
returns-clause-stands g c = λ t now s.
    let said = nothing_said c.args.fx.now c.requires in
    let fx : Fx g.row.N.Denot g.row.L.Denot = record c.args.fx.now { closes = c.push.new.self } in
    unit-stands-on g.L.CarriesText.texts c.args.self.now (record c.args.self.now { stage = Ended }) t _
    (unit-cuts g.L.CarriesText.texts c.args.self.now.stage Ended (closed c.args.slot c.args.cause.now now fx) refl
    (λ d at. cut-close-unit c.args.self.now.stage c.args.slot c.args.cause.now now fx d (omega (arith, c.if-slot-gt-BELOW.false)) (sym c.is_ended.ensures ∙ c.if-is_ended.false) at)
    (record { no_make = said.0.no_make; no_down = said.0.no_down; no_downs = said.0.no_downs; no_up = said.0.no_up; no_ups = said.0.no_ups }, c.push.ensures.items ∙ ap (λ z. z ++ (1 - c.args.slot, c.args.cause.now) ∷ []) said.1)) s

use Rattle.std.proofs.Common.{ap, not, sym, ◌∙◌, length-append, min}
use Rattle.nb_effects.specs.declared.effects.Fx.{Fx}
use Rattle.nb_graph.specs.Trace.{said}
use Rattle.nb_conns.proofs.DialogueLemmas.{nothing_said}
use Rattle.nb_drivenodes.proofs.UnitLemmas.{unit-rests, unit-cuts, quiet-up-unit, off-slot, off-opened, off-served, unit-stands-on}
use Rattle.nb_drivenodes.proofs.logical_unit.LogicalUnit.on_up.Goals as goal

pub returns-then-slot-ne-BELOW-clause-stands : goal.returns-then-slot-ne-BELOW-clause-stands
returns-then-slot-ne-BELOW-clause-stands g c = λ t now s.
    let fx : Fx g.row.N.Denot g.row.L.Denot = record c.args.fx.now { took = c.all_of-fx.result } in
    let idle = nothing_said c.args.fx.now c.requires in
    let m = said c.args.msg.now in
    unit-stands-on g.L.CarriesText.texts c.args.self.now c.args.self.now t _ (unit-rests g.L.CarriesText.texts _ _
    (λ d at. quiet-up-unit c.args.self.now.stage c.args.slot m now fx d (λ e. off-opened c.args.slot m (off-slot 11 c.args.slot m c.if-slot-ne-BELOW.true)) (λ kk x e. off-served c.args.slot m (off-slot 12 c.args.slot m c.if-slot-ne-BELOW.true) (off-slot 8 c.args.slot m c.if-slot-ne-BELOW.true)) at)
    (record { no_make = idle.0.no_make; no_down = idle.0.no_down; no_downs = idle.0.no_downs; no_up = idle.0.no_up; no_ups = idle.0.no_ups }, idle.1, c.all_of-fx.ensures ∙ ap (λ z. min z 4294967295) (sym (length-append c.args.msg.now.first.now c.args.msg.now.second.now)))) s

pub returns-then-is_empty-clause-stands : goal.returns-then-is_empty-clause-stands
returns-then-is_empty-clause-stands g c = λ t now s. unit-stands-on g.L.CarriesText.texts c.args.self.now c.receive.new.self t _
    (c.receive.ensures.leads c.args.slot now c.if-slot-ne-BELOW.false (c.all_of-fx.ensures ∙ ap (λ z. min z 4294967295) (sym (length-append c.args.msg.now.first.now c.args.msg.now.second.now)))) s

pub returns-in-Ok-clause-stands : goal.returns-in-Ok-clause-stands
returns-in-Ok-clause-stands g c = λ t now s. unit-stands-on g.L.CarriesText.texts c.args.self.now c.receive-in-Ok.new.self t _
    (c.receive-in-Ok.ensures.leads c.args.slot now c.if-slot-ne-BELOW.false (c.all_of-fx.ensures ∙ ap (λ z. min z 4294967295) (sym (length-append c.args.msg.now.first.now c.args.msg.now.second.now)))) s

pub returns-in-Err-clause-stands : goal.returns-in-Err-clause-stands
returns-in-Err-clause-stands g c = λ t now s. unit-stands-on g.L.CarriesText.texts c.args.self.now c.give_up.new.self t _ (unit-cuts _ _ _ _ c.give_up.ensures.ended (λ d at. ap not c.give_up.ensures.err) tt) s

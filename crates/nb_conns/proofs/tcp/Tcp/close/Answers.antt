use Rattle.std.proofs.Common.{◌≡◌, ◌++◌, [], ◌∷◌, ap, sym, ◌∙◌, subst, refl, arith}
use Rattle.nb_graph.specs.Trace.{closed}
use Rattle.nb_conns.specs.declared.stage.ConnStage.TheVariants.{Over}
use Rattle.nb_conns.specs.Dialogues.{CarriesOn}
use Rattle.nb_conns.proofs.DialogueLemmas.{cuts_on, cut_close}
use Rattle.nb_effects.specs.declared.effects.Fx.{Fx}
use Rattle.nb_conns.proofs.tcp.Tcp.close.Goals as goal

pub returns-then-slot-eq-ABOVE-clause-leads : goal.returns-then-slot-eq-ABOVE-clause-leads
returns-then-slot-eq-ABOVE-clause-leads g c = λ now. subst (λ z. CarriesOn g.L.CarriesConn.carrier c.args.self.now.stage c.close_above.new.self.stage (closed z c.args.cause now c.close_above.new.fx)) (sym c.if-slot-eq-ABOVE.true) (c.close_above.ensures.leads now)

pub returns-else-slot-eq-ABOVE-clause-leads : goal.returns-else-slot-eq-ABOVE-clause-leads
returns-else-slot-eq-ABOVE-clause-leads g c = λ now.
    let fx : Fx g.row.N.Denot g.row.L.Denot = record c.args.fx.now { closes = c.push.new.self } in
    let one : c.args.slot ≡ 1 = omega (arith, c.requires.slot, c.if-slot-eq-ABOVE.false) in
    subst (λ z. CarriesOn g.L.CarriesConn.carrier c.args.self.now.stage Over (closed z c.args.cause now fx)) (sym one)
    (cuts_on g.L.CarriesConn.carrier c.args.self.now.stage Over (closed 1 c.args.cause now fx) refl (λ d at. cut_close c.args.self.now.stage 1 c.args.cause now fx d (omega arith) c.requires.live (λ r e. refl) at)
    (record { no_make = c.requires.blank.0.no_make; no_down = c.requires.blank.0.no_down; no_downs = c.requires.blank.0.no_downs; no_up = c.requires.blank.0.no_up; no_ups = c.requires.blank.0.no_ups }, c.push.ensures.items ∙ ap (λ z. z ++ (0, c.args.cause) ∷ []) c.requires.blank.1))

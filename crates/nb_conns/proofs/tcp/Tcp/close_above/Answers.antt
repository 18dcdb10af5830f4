use Rattle.std.proofs.Common.{◌++◌, [], ◌∷◌, ap, sym, ◌∙◌, subst, arith}
use Rattle.nb_graph.specs.Trace.{closed}
use Rattle.nb_conns.specs.declared.stage.ConnStage.{ConnStage}
use Rattle.nb_conns.specs.declared.stage.ConnStage.TheVariants.{Over}
use Rattle.nb_conns.specs.Dialogues.{CarriesOn}
use Rattle.nb_conns.proofs.DialogueLemmas.{cuts_on, cut_close}
use Rattle.nb_effects.specs.declared.effects.Fx.{Fx}
use Rattle.nb_conns.proofs.tcp.Tcp.close_above.Goals as goal

pub returns-in-Running-clause-leads : goal.returns-in-Running-clause-leads
returns-in-Running-clause-leads g c = λ now.
    subst (λ (z : ConnStage). CarriesOn g.L.CarriesConn.carrier c.args.self.now.stage z (closed 0 c.args.cause now c.shut.new.fx)) (sym c.replace.ensures.after)
    (subst (λ (z : ConnStage). CarriesOn g.L.CarriesConn.carrier z Over (closed 0 c.args.cause now c.shut.new.fx)) (sym (sym c.replace.ensures.value ∙ c.in-Running.is)) (c.shut.ensures.leads now))

pub returns-in_default-clause-leads : goal.returns-in_default-clause-leads
returns-in_default-clause-leads g c = λ now.
    let fx : Fx g.row.N.Denot g.row.L.Denot = record c.args.fx.now { closes = c.push.new.self } in
    cuts_on g.L.CarriesConn.carrier c.args.self.now.stage c.replace.new.dest (closed 0 c.args.cause now fx) c.replace.ensures.after (λ d at. cut_close c.args.self.now.stage 0 c.args.cause now fx d (omega arith) c.requires.live (λ r e. absurd (c.in_default.not-Running r (c.replace.ensures.value ∙ e))) at)
    (record { no_make = c.requires.blank.0.no_make; no_down = c.requires.blank.0.no_down; no_downs = c.requires.blank.0.no_downs; no_up = c.requires.blank.0.no_up; no_ups = c.requires.blank.0.no_ups }, c.push.ensures.items ∙ ap (λ z. z ++ (1, c.args.cause) ∷ []) c.requires.blank.1)

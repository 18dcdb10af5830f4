use Rattle.std.proofs.Common.{◌≡◌, ap, not, sym, ◌∙◌, subst, [], if◌then◌else◌, true}
use Rattle.nb_terms.specs.declared.acts.Acts.{Acts}
use Rattle.nb_graph.specs.Trace.{down}
use Rattle.nb_nodes.specs.declared.stage.Stage.{Stage}
use Rattle.nb_nodes.specs.declared.stage.Stage.TheVariants.{Waiting, Running, Over}
use Rattle.nb_nodes.specs.Exchanges.{GoesOnAs, AsksAndGives}
use Rattle.nb_nodes.proofs.ExchangeLemmas.{idles, fails_now, idle_down, asks_none, begin_on}
use Rattle.nb_nodes.proofs.asker.Asker.begin.Goals as goal

pub returns-in_default-clause-leads : goal.returns-in_default-clause-leads
returns-in_default-clause-leads g c = λ m tag b. fails_now g.C.Core.service _ _ _ g.met.C.Core.meets c.give_up.ensures.over (λ v. ap not c.give_up.ensures.err) tt

pub returns-in-None-clause-leads : goal.returns-in-None-clause-leads
returns-in-None-clause-leads g c = λ m tag b.
    let s = g.C.Core.service in
    idles s _ _ (λ v at. idle_down s m c.args.now c.args.fx.now v (asks_none s m (ap s.asked b ∙ c.in-None.ensures.none))) c.requires.blank

pub carry_out-requires-clause-simple : goal.carry_out-requires-clause-simple
carry_out-requires-clause-simple g c = (0, c.in-Some-begin.ensures.simple)

pub returns-in-Some-begin-clause-leads : goal.returns-in-Some-begin-clause-leads
returns-in-Some-begin-clause-leads g c = λ m tag b.
    let s = g.C.Core.service in
    let started = c.in-Some-begin.ensures.some in
    let runs : c.carry_out.new.self.stage ≡ Running c.in-Some-begin.core = c.carry_out.ensures.stage ∙ ap (λ z. if z then Over else Running c.in-Some-begin.core) started.goes_on in
    subst (λ (z : Stage _). GoesOnAs s z c.carry_out.new.self.stage (down m c.args.now true c.carry_out.new.fx)) (sym c.requires.waits)
    (subst (λ (z : Stage _). GoesOnAs s Waiting z (down m c.args.now true c.carry_out.new.fx)) (sym runs)
    (begin_on s started.asked m c.args.now c.carry_out.new.fx c.in-Some-begin.core tag (ap s.asked b ∙ started.asks)
    (subst (λ (z : Acts). AsksAndGives m z [] c.carry_out.new.fx) started.opening (c.carry_out.ensures.effects m)) started.stands started.opened))

pub returns-in-Some-begin-clause-within : goal.returns-in-Some-begin-clause-within
returns-in-Some-begin-clause-within g c = c.carry_out.ensures.within 0 c.in-Some-begin.ensures.simple

use Rattle.std.proofs.Common.{arith, subst}
use Rattle.nb_chains.specs.Ends.{HasNoLinks}
use Rattle.nb_chains.proofs.LettingGo.{released_alone, released_both}
use Rattle.nb_chains.proofs.chain.Chain.let_all_go.Goals as goal

pub returns-in-None : goal.returns-in-None
returns-in-None g c = λ unlinked.
    let l = subst (λ b. HasNoLinks b c.args.self.top.0 c.args.graph.now) c.in-None.is unlinked in
    released_alone c.args.self c.args.graph.now c.let_go.new.graph (g.O.Outside.events c.args.out.now) (g.O.Outside.events c.let_go.new.out) c.in-None.is l (c.let_go.ensures l.lives (omega (arith, l.held)) 0)

pub returns-in-Some : goal.returns-in-Some
returns-in-Some g c = λ unlinked.
    released_both c.args.self c.args.graph.now c.let_both_go.new.graph (g.O.Outside.events c.args.out.now) (g.O.Outside.events c.let_both_go.new.out) c.in-Some.below c.in-Some.is
    (c.let_both_go.ensures (subst (λ b. HasNoLinks b c.args.self.top.0 c.args.graph.now) c.in-Some.is unlinked))

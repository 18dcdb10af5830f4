use Rattle.std.proofs.Common.{arith}
use Rattle.nb_chains.proofs.LettingGo.{two, two_released}
use Rattle.nb_chains.proofs.chain.let_both_go.Goals as goal

pub returns : goal.returns
returns g c = λ both.
    let one = c.let_go.ensures both.first.lives (omega (arith, both.first.held)) 0 in
    let other = two c.args.graph.now c.let_go.new.graph c.let_go.new.graph (g.O.Outside.events c.args.out.now) (g.O.Outside.events c.let_go.new.out) (g.O.Outside.events c.let_go.new.out) c.args.top c.args.below both one in
    two_released c.args.graph.now c.let_go.new.graph c.let_go-2.new.graph (g.O.Outside.events c.args.out.now) (g.O.Outside.events c.let_go.new.out) (g.O.Outside.events c.let_go-2.new.out) c.args.top c.args.below both one
    (c.let_go-2.ensures other.lives (omega (arith, other.held)) 0)

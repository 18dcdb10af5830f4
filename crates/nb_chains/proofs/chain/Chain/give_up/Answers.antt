use Rattle.std.proofs.Common.{arith}
use Rattle.nb_chains.proofs.GivingUp.{fresh_loose}
use Rattle.nb_chains.proofs.LettingGo.{released_alone}
use Rattle.nb_chains.proofs.chain.Chain.give_up.Goals as goal

pub returns : goal.returns
returns g c =
    let l = fresh_loose c.args.graph.now c.args.self.top.0 _ _ c.requires.waits.fresh in
    released_alone c.args.self c.args.graph.now c.let_go.new.graph (g.O.Outside.events c.args.out.now) (g.O.Outside.events c.let_go.new.out) c.requires.waits.alone l (c.let_go.ensures l.lives (omega (arith, l.held)) 0)

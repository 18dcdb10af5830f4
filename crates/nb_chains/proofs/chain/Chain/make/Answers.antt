use Rattle.nb_chains.proofs.ChainsMade.{gives_all}
use Rattle.nb_chains.proofs.chain.Chain.make.Goals as goal

pub returns-clause-gives : goal.returns-clause-gives
returns-clause-gives g c =
    gives_all c.args.kind c.top_with-chain.result c.complete_with.result c.args.graph.now c.top_with-chain.new.graph c.complete_with.new.graph (g.O.Outside.events c.args.out.now) (g.O.Outside.events c.top_with-chain.new.out) (g.O.Outside.events c.complete_with.new.out)
    c.top_with-chain.ensures.waits c.complete_with.ensures.top c.top_with-chain.ensures.gives c.complete_with.ensures.gives

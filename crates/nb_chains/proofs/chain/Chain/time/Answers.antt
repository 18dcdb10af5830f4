use Rattle.nb_chains.proofs.ChainDoes.{ticked_last}
use Rattle.nb_chains.proofs.ChainReceives.{ticks_chain}
use Rattle.nb_chains.proofs.chain.Chain.time.Goals as goal

pub returns-clause-on : goal.returns-clause-on
returns-clause-on g c =
    (ticked_last c.args.self c.args.graph.now c.time-reach.new.self (g.O.Outside.events c.args.out.now) (g.O.Outside.events c.time-reach.new.out) c.args.now c.requires c.has_nodes.ensures c.has_nodes-2.ensures
    (rw c.last.ensures at c.time-reach.ensures.went)).on

pub returns-clause-ticks : goal.returns-clause-ticks
returns-clause-ticks g c =
    ticks_chain c.args.self c.args.graph.now c.time-reach.new.self (g.O.Outside.events c.args.out.now) (g.O.Outside.events c.time-reach.new.out) c.args.now
    (ticked_last c.args.self c.args.graph.now c.time-reach.new.self (g.O.Outside.events c.args.out.now) (g.O.Outside.events c.time-reach.new.out) c.args.now c.requires c.has_nodes.ensures c.has_nodes-2.ensures
    (rw c.last.ensures at c.time-reach.ensures.went))

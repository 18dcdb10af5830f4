use Rattle.std.proofs.Common.{arith}
use Rattle.std.proofs.lemmas.List.{append-nil}
use Rattle.nb_chains.proofs.ChainReceives.{message_on, receives_chain}
use Rattle.nb_chains.proofs.chain.Chain.message.Goals as goal

pub returns-clause-on : goal.returns-clause-on
returns-clause-on g c =
    (message_on c.args.self c.args.graph.now c.up-reach.new.self (g.O.Outside.events c.args.out.now) (g.O.Outside.events c.up-reach.new.out) c.args.now c.requires.chained c.has_nodes.ensures c.has_nodes-2.ensures
    c.args.rec c.args.arrival.now.port c.args.arrival.now.source.0 c.args.arrival.now.body.now (rw (c.network.ensures, c.source_for.ensures, c.from.ensures, c.from-2.ensures, append-nil) at c.up-reach.ensures.went)).on

pub returns-clause-receives : goal.returns-clause-receives
returns-clause-receives g c =
    receives_chain c.args.self c.args.graph.now c.up-reach.new.self (g.O.Outside.events c.args.out.now) (g.O.Outside.events c.up-reach.new.out) c.args.now
    c.args.rec c.args.arrival.now.port c.args.arrival.now.source.0 c.args.arrival.now.body.now (omega (arith, c.type_inv.arrival)) (omega (arith, c.requires.short))
    (message_on c.args.self c.args.graph.now c.up-reach.new.self (g.O.Outside.events c.args.out.now) (g.O.Outside.events c.up-reach.new.out) c.args.now c.requires.chained c.has_nodes.ensures c.has_nodes-2.ensures
    c.args.rec c.args.arrival.now.port c.args.arrival.now.source.0 c.args.arrival.now.body.now (rw (c.network.ensures, c.source_for.ensures, c.from.ensures, c.from-2.ensures, append-nil) at c.up-reach.ensures.went))

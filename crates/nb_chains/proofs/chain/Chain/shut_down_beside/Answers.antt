use Rattle.nb_chains.proofs.ShuttingBeside.{chained_beside, shuts_beside, waits_chained}
use Rattle.nb_chains.proofs.chain.Chain.shut_down_beside.Goals as goal

pub close_ports-requires : goal.close_ports-requires
close_ports-requires g c = waits_chained c.args.kind c.args.waits c.args.graph.now c.requires.waits

pub close_ports-requires-2 : goal.close_ports-requires-2
close_ports-requires-2 g c = chained_beside c.args.kind c.args.self c.args.waits c.args.graph.now c.close_ports.new.graph c.requires.chained c.requires.waits c.close_ports.ensures.on

pub returns : goal.returns
returns g c =
    shuts_beside c.args.kind c.args.self c.args.waits c.args.graph.now c.close_ports.new.graph c.close_ports-2.new.graph c.let_all_go.new.graph c.let_all_go-2.new.graph
    (g.O.Outside.events c.args.out.now) (g.O.Outside.events c.close_ports.new.out) (g.O.Outside.events c.close_ports-2.new.out) (g.O.Outside.events c.let_all_go.new.out) (g.O.Outside.events c.let_all_go-2.new.out)
    c.args.cause.now c.requires.chained c.requires.waits c.has_nodes.ensures c.has_nodes-2.ensures c.close_ports.ensures.on c.close_ports.ensures.closes
    c.close_ports-2.ensures.on c.close_ports-2.ensures.closes c.let_all_go.ensures c.let_all_go-2.ensures

use Rattle.nb_chains.proofs.ShuttingDown.{shuts_chain}
use Rattle.nb_chains.proofs.chain.Chain.shut_down.Goals as goal

pub returns : goal.returns
returns g c =
    shuts_chain c.args.self c.args.graph.now c.close_ports.new.graph c.let_all_go.new.graph (g.O.Outside.events c.args.out.now) (g.O.Outside.events c.close_ports.new.out) (g.O.Outside.events c.let_all_go.new.out)
    c.args.cause.now c.close_ports.ensures.on c.close_ports.ensures.closes c.let_all_go.ensures

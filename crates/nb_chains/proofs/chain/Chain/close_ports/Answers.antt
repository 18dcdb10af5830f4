use Rattle.nb_chains.proofs.PortsClosing.{ports_sole, ports_two, sole_goes, two_go}
use Rattle.nb_chains.proofs.chain.Chain.close_ports.Goals as goal

pub returns-in-None-clause-on : goal.returns-in-None-clause-on
returns-in-None-clause-on g c =
    sole_goes c.args.self c.args.graph.now c.close.new.graph c.close_free.new.graph (g.O.Outside.events c.args.out.now) (g.O.Outside.events c.close.new.out) (g.O.Outside.events c.close_free.new.out)
    c.args.cause.now c.has_nodes.ensures c.close.ensures.on c.close.ensures.closes c.close_free.ensures

pub returns-in-None-clause-closes : goal.returns-in-None-clause-closes
returns-in-None-clause-closes g c =
    ports_sole c.args.self c.args.graph.now c.close.new.graph c.close_free.new.graph (g.O.Outside.events c.args.out.now) (g.O.Outside.events c.close.new.out) (g.O.Outside.events c.close_free.new.out)
    c.args.cause.now c.has_nodes.ensures c.close.ensures.on c.close.ensures.closes c.close_free.ensures c.in-None.is

pub returns-in-Some-clause-on : goal.returns-in-Some-clause-on
returns-in-Some-clause-on g c =
    two_go c.args.self c.args.graph.now c.close.new.graph c.close_free.new.graph (g.O.Outside.events c.args.out.now) (g.O.Outside.events c.close.new.out) (g.O.Outside.events c.close_free.new.out)
    c.args.cause.now c.has_nodes.ensures c.close.ensures.on c.close.ensures.closes c.close_free.ensures c.in-Some.below c.in-Some.is c.close_free-in-Some.new.graph (g.O.Outside.events c.close_free-in-Some.new.out) c.close_free-in-Some.ensures

pub returns-in-Some-clause-closes : goal.returns-in-Some-clause-closes
returns-in-Some-clause-closes g c =
    ports_two c.args.self c.args.graph.now c.close.new.graph c.close_free.new.graph (g.O.Outside.events c.args.out.now) (g.O.Outside.events c.close.new.out) (g.O.Outside.events c.close_free.new.out)
    c.args.cause.now c.has_nodes.ensures c.close.ensures.on c.close.ensures.closes c.close_free.ensures c.in-Some.below c.in-Some.is c.close_free-in-Some.new.graph (g.O.Outside.events c.close_free-in-Some.new.out) c.close_free-in-Some.ensures

use Rattle.nb_webchains.proofs.WebDoes.{does_tick, tick_keeps, ticked_last}
use Rattle.nb_webchains.proofs.web_chain.WebChain.time.Goals as goal

pub returns-clause-on : goal.returns-clause-on
returns-clause-on g c =
    (ticked_last c.args.self c.args.now c.args.graph.now c.time-reach.new.self (g.O.Outside.events c.args.out.now) (g.O.Outside.events c.time-reach.new.out) c.requires c.has_nodes.ensures c.has_nodes-2.ensures c.time-reach.ensures.went).on

pub returns-clause-kinds : goal.returns-clause-kinds
returns-clause-kinds g c =
    tick_keeps c.args.self c.args.now c.args.graph.now c.time-reach.new.self (g.O.Outside.events c.args.out.now) (g.O.Outside.events c.time-reach.new.out) c.requires c.has_nodes.ensures c.has_nodes-2.ensures c.time-reach.ensures.went

pub returns-clause-does : goal.returns-clause-does
returns-clause-does g c =
    does_tick c.args.self c.args.now c.args.graph.now c.time-reach.new.self (g.O.Outside.events c.args.out.now) (g.O.Outside.events c.time-reach.new.out) c.requires c.has_nodes.ensures c.has_nodes-2.ensures c.has_links.ensures c.time-reach.ensures.went

use Rattle.nb_webchains.proofs.WebCloses.{close_keeps, close_on, closes_web}
use Rattle.nb_webchains.proofs.web_chain.WebChain.close.Goals as goal

pub returns-clause-on : goal.returns-clause-on
returns-clause-on g c =
    close_on c.args.self c.args.graph.now c.close.new.self c.close-2.new.self (g.O.Outside.events c.args.out.now) (g.O.Outside.events c.close.new.out) (g.O.Outside.events c.close-2.new.out) c.args.now c.args.cause.now
    c.requires c.has_nodes.ensures c.has_nodes-2.ensures c.has_nodes-3.ensures (rw c.user.ensures at c.close.ensures.went) c.close-2.ensures.went

pub returns-clause-kinds : goal.returns-clause-kinds
returns-clause-kinds g c =
    close_keeps c.args.self c.args.graph.now c.close.new.self c.close-2.new.self (g.O.Outside.events c.args.out.now) (g.O.Outside.events c.close.new.out) (g.O.Outside.events c.close-2.new.out) c.args.now c.args.cause.now
    c.requires c.has_nodes.ensures c.has_nodes-2.ensures c.has_nodes-3.ensures (rw c.user.ensures at c.close.ensures.went) c.close-2.ensures.went

pub returns-clause-closes : goal.returns-clause-closes
returns-clause-closes g c =
    closes_web c.args.self c.args.graph.now c.close.new.self c.close-2.new.self (g.O.Outside.events c.args.out.now) (g.O.Outside.events c.close.new.out) (g.O.Outside.events c.close-2.new.out) c.args.now c.args.cause.now
    c.requires c.has_nodes.ensures c.has_nodes-2.ensures c.has_nodes-3.ensures (rw c.user.ensures at c.close.ensures.went) c.close-2.ensures.went c.has_links.ensures

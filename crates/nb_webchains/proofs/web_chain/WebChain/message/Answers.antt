use Rattle.std.proofs.lemmas.List.{append-nil}
use Rattle.nb_webchains.specs.WebCalls.{segment_said}
use Rattle.nb_webchains.proofs.WebDoes.{does_last, last_keeps, offered_last}
use Rattle.nb_webchains.proofs.web_chain.WebChain.message.Goals as goal

pub returns-clause-on : goal.returns-clause-on
returns-clause-on g c =
    (offered_last c.args.self c.args.now c.args.graph.now c.up-reach.new.self (g.O.Outside.events c.args.out.now) (g.O.Outside.events c.up-reach.new.out) c.requires c.has_nodes.ensures c.has_nodes-2.ensures
    _ (rw c.network.ensures at c.up-reach.ensures.went)).on

pub returns-clause-kinds : goal.returns-clause-kinds
returns-clause-kinds g c =
    last_keeps c.args.self c.args.now c.args.graph.now c.up-reach.new.self (g.O.Outside.events c.args.out.now) (g.O.Outside.events c.up-reach.new.out) c.requires c.has_nodes.ensures c.has_nodes-2.ensures
    _ (rw c.network.ensures at c.up-reach.ensures.went)

pub returns-clause-does : goal.returns-clause-does
returns-clause-does g c =
    does_last c.args.self c.args.now c.args.graph.now c.up-reach.new.self (g.O.Outside.events c.args.out.now) (g.O.Outside.events c.up-reach.new.out) c.requires c.has_nodes.ensures c.has_nodes-2.ensures c.has_links.ensures
    (segment_said c.args.rec c.args.arrival.now) (rw (c.network.ensures, c.from.ensures, c.from-2.ensures, append-nil) at c.up-reach.ensures.went)

use Rattle.std.proofs.Common.{◌++◌}
use Rattle.nb_webchains.specs.WebCalls.{begin_said}
use Rattle.nb_webchains.proofs.WebDoes.{does_top, offered_top, top_keeps}
use Rattle.nb_webchains.proofs.web_chain.WebChain.begin.Goals as goal

pub returns-clause-on : goal.returns-clause-on
returns-clause-on g c =
    (offered_top c.args.self c.args.now c.args.graph.now c.down-reach.new.self (g.O.Outside.events c.args.out.now) (g.O.Outside.events c.down-reach.new.out) c.requires c.has_nodes.ensures c.has_nodes-2.ensures
    _ (rw c.user.ensures at c.down-reach.ensures.went)).on

pub returns-clause-kinds : goal.returns-clause-kinds
returns-clause-kinds g c =
    top_keeps c.args.self c.args.now c.args.graph.now c.down-reach.new.self (g.O.Outside.events c.args.out.now) (g.O.Outside.events c.down-reach.new.out) c.requires c.has_nodes.ensures c.has_nodes-2.ensures
    _ (rw c.user.ensures at c.down-reach.ensures.went)

pub returns-clause-does : goal.returns-clause-does
returns-clause-does g c =
    does_top c.args.self c.args.now c.args.graph.now c.down-reach.new.self (g.O.Outside.events c.args.out.now) (g.O.Outside.events c.down-reach.new.out) c.requires c.has_nodes.ensures c.has_nodes-2.ensures c.has_links.ensures
    (begin_said c.args.rec c.args.host (c.args.first.now ++ c.args.second.now)) (rw (c.user.ensures, c.from.ensures) at c.down-reach.ensures.went)

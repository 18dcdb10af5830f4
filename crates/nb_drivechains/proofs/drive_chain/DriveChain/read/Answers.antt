use Rattle.nb_drivechains.specs.DriveCalls.{read_said}
use Rattle.nb_drivechains.specs.DriveChains.{three_of}
use Rattle.nb_webchains.proofs.WebDoes.{does_top, offered_top, top_keeps}
use Rattle.nb_drivechains.proofs.BesideDrives.{drive_kinds}
use Rattle.nb_drivechains.proofs.drive_chain.DriveChain.read.Goals as goal

pub returns-clause-on : goal.returns-clause-on
returns-clause-on g c =
    (offered_top (three_of c.args.self) c.args.now c.args.graph.now c.down-reach.new.self (g.O.Outside.events c.args.out.now) (g.O.Outside.events c.down-reach.new.out) c.requires c.has_nodes.ensures c.has_nodes-2.ensures
    _ (rw c.user.ensures at c.down-reach.ensures.went)).on

pub returns-clause-does : goal.returns-clause-does
returns-clause-does g c =
    does_top (three_of c.args.self) c.args.now c.args.graph.now c.down-reach.new.self (g.O.Outside.events c.args.out.now) (g.O.Outside.events c.down-reach.new.out) c.requires c.has_nodes.ensures c.has_nodes-2.ensures c.has_links.ensures
    (read_said c.args.rec c.args.block c.args.count) (rw (c.user.ensures, c.from.ensures, c.from-2.ensures) at c.down-reach.ensures.went)

pub returns-clause-kinds : goal.returns-clause-kinds
returns-clause-kinds g c =
    drive_kinds c.args.self c.args.graph.now c.down-reach.new.self
    (top_keeps (three_of c.args.self) c.args.now c.args.graph.now c.down-reach.new.self (g.O.Outside.events c.args.out.now) (g.O.Outside.events c.down-reach.new.out) c.requires c.has_nodes.ensures c.has_nodes-2.ensures
    _ (rw c.user.ensures at c.down-reach.ensures.went))

use Rattle.nb_drivechains.proofs.MakingDrive.{gives_three, grows_three}
use Rattle.nb_drivechains.proofs.drive_chain.DriveChain.make.Goals as goal

pub returns-clause-grows : goal.returns-clause-grows
returns-clause-grows g c =
    grows_three c.in_ok-unit.unit c.complete_with.result c.args.graph.now c.wait.new.graph c.complete_with.new.graph (g.O.Outside.events c.args.out.now) (g.O.Outside.events c.wait.new.out) (g.O.Outside.events c.complete_with.new.out)
    c.complete_with.ensures.top c.in_ok-unit.ensures.grows c.complete_with.ensures.grows

pub returns-clause-gives : goal.returns-clause-gives
returns-clause-gives g c =
    gives_three c.in_ok-unit.unit c.complete_with.result c.args.graph.now c.wait.new.graph c.complete_with.new.graph (g.O.Outside.events c.args.out.now) (g.O.Outside.events c.wait.new.out) (g.O.Outside.events c.complete_with.new.out)
    c.complete_with.ensures.top c.in_ok-unit.ensures.gives c.complete_with.ensures.gives

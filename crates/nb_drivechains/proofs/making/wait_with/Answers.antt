use Rattle.nb_drivechains.proofs.MakingDrive.{unit_gives, unit_grows, unit_waits}
use Rattle.nb_drivechains.proofs.making.wait_with.Goals as goal

pub returns-clause-waits : goal.returns-clause-waits
returns-clause-waits g c =
    unit_waits c.args.graph.now c.make_object.new.graph (g.O.Outside.events c.args.out.now) (g.O.Outside.events c.make_object.new.out) c.make_object.result c.args.unit c.requires.unit c.make_object.ensures.made (c.make_object.ensures.went 0)

pub returns-clause-grows : goal.returns-clause-grows
returns-clause-grows g c =
    unit_grows c.args.graph.now c.make_object.new.graph (g.O.Outside.events c.args.out.now) (g.O.Outside.events c.make_object.new.out) c.make_object.result c.args.unit c.requires.unit c.make_object.ensures.made (c.make_object.ensures.went 0)

pub returns-clause-gives : goal.returns-clause-gives
returns-clause-gives g c =
    unit_gives c.args.graph.now c.make_object.new.graph (g.O.Outside.events c.args.out.now) (g.O.Outside.events c.make_object.new.out) c.make_object.result c.args.unit c.requires.unit c.make_object.ensures.made (c.make_object.ensures.went 0)

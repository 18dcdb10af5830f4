use Rattle.nb_chains.proofs.ChainsMade.{top_awaits, top_grows, top_gives}
use Rattle.nb_chains.proofs.making.top_with.Goals as goal

pub returns-clause-waits : goal.returns-clause-waits
returns-clause-waits g c =
    top_awaits c.args.graph.now c.make_object-top.new.graph (g.O.Outside.events c.args.out.now) (g.O.Outside.events c.make_object-top.new.out) c.args.kind c.make_object-top.result c.args.node
    c.requires.stands c.make_object-top.ensures.made (c.make_object-top.ensures.went 0) c.requires.rank c.requires.mark

pub returns-clause-grows : goal.returns-clause-grows
returns-clause-grows g c =
    top_grows c.args.graph.now c.make_object-top.new.graph (g.O.Outside.events c.args.out.now) (g.O.Outside.events c.make_object-top.new.out) c.args.kind c.make_object-top.result c.args.node
    c.requires.stands c.make_object-top.ensures.made (c.make_object-top.ensures.went 0)

pub returns-clause-gives : goal.returns-clause-gives
returns-clause-gives g c =
    top_gives c.args.graph.now c.make_object-top.new.graph (g.O.Outside.events c.args.out.now) (g.O.Outside.events c.make_object-top.new.out) c.args.kind c.make_object-top.result c.args.node
    c.requires.stands c.make_object-top.ensures.made (c.make_object-top.ensures.went 0) c.requires.number

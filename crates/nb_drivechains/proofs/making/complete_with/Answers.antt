use Rattle.std.proofs.Common.{[], ◌∷◌, refl, arith}
use Rattle.nb_webchains.proofs.MakingThree.{alone_ready}
use Rattle.nb_drivechains.proofs.MakingDrive.{gives_two, grows_two, ready_drive}
use Rattle.nb_drivechains.proofs.making.complete_with.Goals as goal

pub plug_next-lower-requires-clause-ranks : goal.plug_next-lower-requires-clause-ranks
plug_next-lower-requires-clause-ranks g c = let i = c.requires.session.ranked in let j = c.requires.waits.ranked in omega (arith, i, j)

pub plug_next-last-requires-clause-ranks : goal.plug_next-last-requires-clause-ranks
plug_next-last-requires-clause-ranks g c = let i = c.requires.conn.ranked in let j = c.requires.session.ranked in let k = c.plug_next-lower.ensures.ranked in omega (arith, i, j, k)

pub returns-clause-ready : goal.returns-clause-ready
returns-clause-ready g c =
    let first = c.plug_next-lower.ensures.extends c.args.unit.0 [] (alone_ready c.args.graph.now c.args.unit.0 5 9 c.requires.waits) refl in
    let other = c.plug_next-last.ensures.extends c.args.unit.0 (c.plug_next-lower.result.0 ∷ []) first.ready refl in
    ready_drive c.args.graph.now c.plug_next-lower.new.graph c.plug_next-last.new.graph (g.O.Outside.events c.args.out.now) (g.O.Outside.events c.plug_next-lower.new.out) (g.O.Outside.events c.plug_next-last.new.out)
    c.args.unit c.plug_next-lower.result c.plug_next-last.result c.args.session c.args.conn c.requires.waits c.requires.session c.requires.conn first other
    c.plug_next-lower.ensures.serial c.plug_next-last.ensures.serial c.plug_next-lower.ensures.kind c.plug_next-last.ensures.kind

pub returns-clause-grows : goal.returns-clause-grows
returns-clause-grows g c =
    let first = c.plug_next-lower.ensures.extends c.args.unit.0 [] (alone_ready c.args.graph.now c.args.unit.0 5 9 c.requires.waits) refl in
    let other = c.plug_next-last.ensures.extends c.args.unit.0 (c.plug_next-lower.result.0 ∷ []) first.ready refl in
    grows_two c.args.graph.now c.plug_next-lower.new.graph c.plug_next-last.new.graph (g.O.Outside.events c.args.out.now) (g.O.Outside.events c.plug_next-lower.new.out) (g.O.Outside.events c.plug_next-last.new.out)
    c.args.unit c.plug_next-lower.result c.plug_next-last.result c.args.session c.args.conn c.requires.waits c.requires.session c.requires.conn first other

pub returns-clause-gives : goal.returns-clause-gives
returns-clause-gives g c =
    let first = c.plug_next-lower.ensures.extends c.args.unit.0 [] (alone_ready c.args.graph.now c.args.unit.0 5 9 c.requires.waits) refl in
    let other = c.plug_next-last.ensures.extends c.args.unit.0 (c.plug_next-lower.result.0 ∷ []) first.ready refl in
    gives_two c.args.graph.now c.plug_next-lower.new.graph c.plug_next-last.new.graph (g.O.Outside.events c.args.out.now) (g.O.Outside.events c.plug_next-lower.new.out) (g.O.Outside.events c.plug_next-last.new.out)
    c.args.unit c.plug_next-lower.result c.plug_next-last.result c.args.session c.args.conn c.requires.waits c.requires.session c.requires.conn first other

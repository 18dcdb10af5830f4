use Rattle.std.proofs.Common.{[], ◌∷◌, refl, arith}
use Rattle.nb_webchains.proofs.MakingThree.{alone_ready, gives_two, grows_two, ready_web}
use Rattle.nb_webchains.proofs.making.complete_with.Goals as goal

pub plug_next-lower-requires-clause-ranks : goal.plug_next-lower-requires-clause-ranks
plug_next-lower-requires-clause-ranks g c = let i = c.requires.web.ranked in let j = c.requires.waits.fresh.ranked in omega (arith, i, j)

pub plug_next-last-requires-clause-ranks : goal.plug_next-last-requires-clause-ranks
plug_next-last-requires-clause-ranks g c = let i = c.requires.conn.ranked in let j = c.requires.web.ranked in let k = c.plug_next-lower.ensures.ranked in omega (arith, i, j, k)

pub returns-clause-ready : goal.returns-clause-ready
returns-clause-ready g c =
    let first = c.plug_next-lower.ensures.extends c.args.waits.top.0 [] (alone_ready c.args.graph.now c.args.waits.top.0 5 0 c.requires.waits.fresh) refl in
    let other = c.plug_next-last.ensures.extends c.args.waits.top.0 (c.plug_next-lower.result.0 ∷ []) first.ready refl in
    ready_web c.args.graph.now c.plug_next-lower.new.graph c.plug_next-last.new.graph (g.O.Outside.events c.args.out.now) (g.O.Outside.events c.plug_next-lower.new.out) (g.O.Outside.events c.plug_next-last.new.out)
    c.args.waits.top c.plug_next-lower.result c.plug_next-last.result c.args.web c.args.conn c.requires.waits.fresh c.requires.web c.requires.conn first other
    c.plug_next-lower.ensures.serial c.plug_next-last.ensures.serial c.plug_next-lower.ensures.kind c.plug_next-last.ensures.kind

pub returns-clause-grows : goal.returns-clause-grows
returns-clause-grows g c =
    let first = c.plug_next-lower.ensures.extends c.args.waits.top.0 [] (alone_ready c.args.graph.now c.args.waits.top.0 5 0 c.requires.waits.fresh) refl in
    let other = c.plug_next-last.ensures.extends c.args.waits.top.0 (c.plug_next-lower.result.0 ∷ []) first.ready refl in
    grows_two c.args.graph.now c.plug_next-lower.new.graph c.plug_next-last.new.graph (g.O.Outside.events c.args.out.now) (g.O.Outside.events c.plug_next-lower.new.out) (g.O.Outside.events c.plug_next-last.new.out)
    c.args.waits.top c.plug_next-lower.result c.plug_next-last.result c.args.web c.args.conn c.requires.waits.fresh c.requires.web c.requires.conn first other

pub returns-clause-gives : goal.returns-clause-gives
returns-clause-gives g c =
    let first = c.plug_next-lower.ensures.extends c.args.waits.top.0 [] (alone_ready c.args.graph.now c.args.waits.top.0 5 0 c.requires.waits.fresh) refl in
    let other = c.plug_next-last.ensures.extends c.args.waits.top.0 (c.plug_next-lower.result.0 ∷ []) first.ready refl in
    gives_two c.args.graph.now c.plug_next-lower.new.graph c.plug_next-last.new.graph (g.O.Outside.events c.args.out.now) (g.O.Outside.events c.plug_next-lower.new.out) (g.O.Outside.events c.plug_next-last.new.out)
    c.args.waits.top c.plug_next-lower.result c.plug_next-last.result c.args.web c.args.conn c.requires.waits.fresh c.requires.web c.requires.conn first other

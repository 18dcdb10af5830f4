use Rattle.std.proofs.Common.{Some, ℕ, subst}
use Rattle.nb_opens.specs.Notices.{completed_notices}
use Rattle.nb_opens.specs.Pairs.{AreMade}
use Rattle.nb_chains.specs.declared.chain.Chain.{Chain}
use Rattle.nb_chains.specs.Chains.{own_graph}
use Rattle.nb_chains.specs.Giving.{MakingGives}
use Rattle.nb_chains.proofs.ChainsMade.{ranks_fall, upper_open, lower_open, two_ready, two_give, two_grow}
use Rattle.nb_chains.proofs.chain.Chain.plug_below.Goals as goal

pub plug-requires-clause-ranks : goal.plug-requires-clause-ranks
plug-requires-clause-ranks g c =
    ranks_fall c.args.graph.now c.make_object-tftp.new.graph (g.O.Outside.events c.args.out.now) (g.O.Outside.events c.make_object-tftp.new.out) c.args.self.top.0 c.make_object-tftp.result c.args.node
    c.requires.fresh c.requires.stands c.requires.tftp c.make_object-tftp.ensures.made (c.make_object-tftp.ensures.went 0)

pub plug-requires-clause-upper : goal.plug-requires-clause-upper
plug-requires-clause-upper g c =
    upper_open c.args.graph.now c.make_object-tftp.new.graph (g.O.Outside.events c.args.out.now) (g.O.Outside.events c.make_object-tftp.new.out) c.args.self.top.0 c.make_object-tftp.result c.args.node
    c.requires.fresh c.requires.stands c.requires.tftp c.make_object-tftp.ensures.made (c.make_object-tftp.ensures.went 0)

pub plug-requires-clause-lower : goal.plug-requires-clause-lower
plug-requires-clause-lower g c =
    lower_open c.args.graph.now c.make_object-tftp.new.graph (g.O.Outside.events c.args.out.now) (g.O.Outside.events c.make_object-tftp.new.out) c.args.self.top.0 c.make_object-tftp.result c.args.node
    c.requires.fresh c.requires.stands c.requires.tftp c.make_object-tftp.ensures.made (c.make_object-tftp.ensures.went 0)

pub returns-clause-made : goal.returns-clause-made
returns-clause-made g c =
    let x = c.args.self.top.0 in
    let y = c.make_object-tftp.result in
    subst (λ (z : ℕ). AreMade (own_graph (record { top = c.args.self.top; below = Some y }) c.plug.new.graph) x z) c.make_object-tftp.ensures.made.serial
    (two_ready c.args.graph.now c.make_object-tftp.new.graph (g.O.Outside.events c.args.out.now) (g.O.Outside.events c.make_object-tftp.new.out) x y c.args.node
    c.requires.fresh c.requires.stands c.requires.tftp c.make_object-tftp.ensures.made (c.make_object-tftp.ensures.went 0) c.plug.new.graph (g.O.Outside.events c.plug.new.out) (c.plug.ensures 0) c.has_nodes.ensures)

pub returns-clause-grows : goal.returns-clause-grows
returns-clause-grows g c =
    two_grow c.args.graph.now c.make_object-tftp.new.graph (g.O.Outside.events c.args.out.now) (g.O.Outside.events c.make_object-tftp.new.out) c.args.self.top.0 c.make_object-tftp.result c.args.node
    c.requires.fresh c.requires.stands c.requires.tftp c.make_object-tftp.ensures.made (c.make_object-tftp.ensures.went 0) c.plug.new.graph (g.O.Outside.events c.plug.new.out) (c.plug.ensures 0)

pub returns-clause-gives : goal.returns-clause-gives
returns-clause-gives g c =
    let chain : Chain = record { top = c.args.self.top; below = Some c.make_object-tftp.result } in
    subst (λ (z : ℕ). MakingGives chain c.args.graph.now c.plug.new.graph (g.O.Outside.events c.args.out.now) (g.O.Outside.events c.plug.new.out) (completed_notices c.args.self.top.0 z)) c.make_object-tftp.ensures.made.serial
    (two_give c.args.graph.now c.make_object-tftp.new.graph (g.O.Outside.events c.args.out.now) (g.O.Outside.events c.make_object-tftp.new.out) c.args.self.top.0 c.make_object-tftp.result c.args.node
    c.requires.fresh c.requires.stands c.requires.tftp c.make_object-tftp.ensures.made (c.make_object-tftp.ensures.went 0) c.plug.new.graph (g.O.Outside.events c.plug.new.out) (c.plug.ensures 0))

use Rattle.nb_webchains.proofs.PluggingNext.{falls, upper_open, lower_open, next_made, next_number, next_room, next_open, next_ranked, next_kind, extends}
use Rattle.nb_webchains.proofs.plugging.plug_next.Goals as goal

pub plug-requires-clause-ranks : goal.plug-requires-clause-ranks
plug-requires-clause-ranks g c =
    falls c.args.graph.now c.make_object-id.new.graph (g.O.Outside.events c.args.out.now) (g.O.Outside.events c.make_object-id.new.out) c.args.above.0 c.requires.given c.make_object-id.result c.args.node
    c.requires.stands c.make_object-id.ensures.made (c.make_object-id.ensures.went 0) c.requires.ranks

pub plug-requires-clause-upper : goal.plug-requires-clause-upper
plug-requires-clause-upper g c =
    upper_open c.args.graph.now c.make_object-id.new.graph (g.O.Outside.events c.args.out.now) (g.O.Outside.events c.make_object-id.new.out) c.args.above.0 c.requires.given c.make_object-id.result c.args.node
    c.requires.stands c.make_object-id.ensures.made (c.make_object-id.ensures.went 0) c.requires.open

pub plug-requires-clause-lower : goal.plug-requires-clause-lower
plug-requires-clause-lower g c =
    lower_open c.args.graph.now c.make_object-id.new.graph (g.O.Outside.events c.args.out.now) (g.O.Outside.events c.make_object-id.new.out) c.args.above.0 c.requires.given c.make_object-id.result c.args.node
    c.requires.stands c.make_object-id.ensures.made (c.make_object-id.ensures.went 0)

pub returns-clause-number : goal.returns-clause-number
returns-clause-number g c =
    next_number c.args.graph.now c.make_object-id.new.graph (g.O.Outside.events c.args.out.now) (g.O.Outside.events c.make_object-id.new.out) c.args.above.0 c.requires.given c.make_object-id.result c.args.node
    c.requires.stands c.make_object-id.ensures.made (c.make_object-id.ensures.went 0) c.plug.new.graph (g.O.Outside.events c.plug.new.out) (c.plug.ensures 0)

pub returns-clause-room : goal.returns-clause-room
returns-clause-room g c =
    next_room c.args.graph.now c.make_object-id.new.graph (g.O.Outside.events c.args.out.now) (g.O.Outside.events c.make_object-id.new.out) c.args.above.0 c.requires.given c.make_object-id.result c.args.node
    c.requires.stands c.make_object-id.ensures.made (c.make_object-id.ensures.went 0) c.plug.new.graph (g.O.Outside.events c.plug.new.out) (c.plug.ensures 0)

pub returns-clause-made : goal.returns-clause-made
returns-clause-made g c =
    next_made c.args.graph.now c.make_object-id.new.graph (g.O.Outside.events c.args.out.now) (g.O.Outside.events c.make_object-id.new.out) c.args.above.0 c.requires.given c.make_object-id.result c.args.node
    c.requires.stands c.make_object-id.ensures.made (c.make_object-id.ensures.went 0) c.plug.new.graph (g.O.Outside.events c.plug.new.out) (c.plug.ensures 0)

pub returns-clause-open : goal.returns-clause-open
returns-clause-open g c =
    next_open c.args.graph.now c.make_object-id.new.graph (g.O.Outside.events c.args.out.now) (g.O.Outside.events c.make_object-id.new.out) c.args.above.0 c.requires.given c.make_object-id.result c.args.node
    c.requires.stands c.make_object-id.ensures.made (c.make_object-id.ensures.went 0) c.plug.new.graph (g.O.Outside.events c.plug.new.out) (c.plug.ensures 0)

pub returns-clause-ranked : goal.returns-clause-ranked
returns-clause-ranked g c =
    next_ranked c.args.graph.now c.make_object-id.new.graph (g.O.Outside.events c.args.out.now) (g.O.Outside.events c.make_object-id.new.out) c.args.above.0 c.requires.given c.make_object-id.result c.args.node
    c.requires.stands c.make_object-id.ensures.made (c.make_object-id.ensures.went 0) c.plug.new.graph (g.O.Outside.events c.plug.new.out) (c.plug.ensures 0)

pub returns-clause-kind : goal.returns-clause-kind
returns-clause-kind g c =
    next_kind c.args.graph.now c.make_object-id.new.graph (g.O.Outside.events c.args.out.now) (g.O.Outside.events c.make_object-id.new.out) c.args.above.0 c.requires.given c.make_object-id.result c.args.node
    c.requires.stands c.make_object-id.ensures.made (c.make_object-id.ensures.went 0) c.plug.new.graph (g.O.Outside.events c.plug.new.out) (c.plug.ensures 0)

pub returns-clause-extends : goal.returns-clause-extends
returns-clause-extends g c = λ x xs ready last.
    extends c.args.graph.now c.make_object-id.new.graph (g.O.Outside.events c.args.out.now) (g.O.Outside.events c.make_object-id.new.out) c.args.above.0 c.requires.given c.make_object-id.result c.args.node
    c.requires.stands c.make_object-id.ensures.made (c.make_object-id.ensures.went 0) c.plug.new.graph (g.O.Outside.events c.plug.new.out) (c.plug.ensures 0) x xs ready last c.requires.open

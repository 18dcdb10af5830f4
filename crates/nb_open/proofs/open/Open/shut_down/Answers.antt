use Rattle.nb_open.proofs.ShuttingSo.{shuts_so}
use Rattle.nb_open.proofs.open.Open.shut_down.Goals as goal

pub returns : goal.returns
returns c =
    shuts_so c.args.kind c.args.self.now c.args.waits c.args.cause.now c.args.net.now c.args.graph.now c.shut.new.graph c.over-out.result c.shut.new.out c.in_ok-told.told.value
    c.has_nodes.ensures c.over-out.ensures.net c.over-out.ensures.who c.over-out.ensures.blank c.in_ok-told.ensures.told c.in_ok-told.ensures.whole c.requires.waits c.requires.beside c.shut.ensures

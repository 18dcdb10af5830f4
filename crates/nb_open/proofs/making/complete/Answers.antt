use Rattle.nb_open.specs.Settling.{told_so_far}
use Rattle.nb_open.proofs.Newest.{newest_completed}
use Rattle.nb_open.proofs.making.complete.Goals as goal

pub returns : goal.returns
returns c =
    let k = c.in_ok-chain.ensures in
    record {
      ready = k.ready;
      chained = k.grows.chained;
      gives = k.gives;
      top = k.top;
      made = k.grows.made;
      number = k.grows.number;
      same_room = k.grows.same_room;
      others = k.grows.others;
      noded = c.has_nodes.ensures;
      newest = newest_completed c.in_ok-chain.chain c.args.graph.now c.complete.new.graph (told_so_far c.args.out.now) (told_so_far c.complete.new.out) c.args.kind c.args.waits c.ids-later.result k.top k.ready k.gives k.grows.made
          (rw c.last.ensures at c.ids-later.ensures.none) (rw c.last.ensures at c.ids-later.ensures.some);
    }

use Rattle.nb_open.specs.Settling.{told_so_far}
use Rattle.nb_open.proofs.Newest.{newest_drive}
use Rattle.nb_open.proofs.making.make_drive.Goals as goal

pub returns : goal.returns
returns c = record {
  made = c.in_ok-chain.ensures;
  noded = c.has_nodes.ensures;
  newest = λ latest. newest_drive c.args.waits c.in_ok-chain.chain c.args.graph.now c.make_or_complete_drive.new.graph (told_so_far c.args.out.now) (told_so_far c.make_or_complete_drive.new.out) c.in_ok-chain.ensures c.ids-later.result
      c.ids-later.ensures.none c.ids-later.ensures.some;
}

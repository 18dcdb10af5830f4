use Rattle.nb_open.specs.Settling.{told_so_far}
use Rattle.nb_open.proofs.Closing.{closed_shut, closes_so}
use Rattle.nb_open.proofs.Receiving.{lives_open}
use Rattle.nb_open.proofs.open.Open.close.Goals as goal

pub release-requires-clause-shut : goal.release-requires-clause-shut
release-requires-clause-shut c =
    closed_shut c.args.self.now.objects c.args.graph.now c.close.new.graph (told_so_far c.over-out.result) (told_so_far c.close.new.out) c.args.cause.now (lives_open c.args.graph.now c.args.self.now c.requires.open) c.close.ensures.closes

pub returns : goal.returns
returns c =
    closes_so c.args.self.now c.args.cause.now c.args.net.now c.args.graph.now c.close.new.graph c.release.new.graph c.over-out.result c.close.new.out c.release.new.out c.in_ok-told.told.value
    c.requires.open c.over-out.ensures.net c.over-out.ensures.who c.over-out.ensures.blank c.close.ensures.on c.close.ensures.closes c.release.ensures c.in_ok-told.ensures.told c.in_ok-told.ensures.whole

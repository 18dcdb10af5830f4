use Rattle.std.proofs.Common.{ap, ◌∙◌}
use Rattle.std.specs.List.{remove}
use Rattle.nb_graph.proofs.SeatLemmas.{Loses-remove}
use Rattle.std.proofs.Common.{arith}
use Rattle.nb_effects.proofs.MannedLemmas.{manned-place, IsManned-remove}
use Rattle.nb_graph.proofs.inner.Inner.free.Goals as goal

pub remove-node-requires : goal.remove-node-requires
remove-node-requires g c =
    let h = manned-place c.args.id.0 c.requires.manned c.requires.lives in
    omega (arith, h, c.place-place.ensures, c.args.self.now.nodes.ok.0)

pub returns-clause-manned : goal.returns-clause-manned
returns-clause-manned g c =
    rw (c.remove-node.ensures.items, c.place-place.ensures, c.remove-node.ensures.capacity) (IsManned-remove c.free.ensures.removes c.requires.manned)

pub returns-clause-loses : goal.returns-clause-loses
returns-clause-loses g c =
    Loses-remove c.requires.lives c.free.ensures.removes (c.remove-node.ensures.items ∙ ap (remove c.args.self.now.nodes.items) c.place-place.ensures) c.requires.manned (returns-clause-manned g c)

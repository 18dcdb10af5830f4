use Rattle.std.proofs.Common.{[]}
use Rattle.nb_graph.proofs.SeatLemmas.{Keeps-set}
use Rattle.std.proofs.Common.{arith}
use Rattle.nb_effects.proofs.MannedLemmas.{manned-place, IsManned-node}
use Rattle.nb_graph.proofs.HarvestLemmas.{Harvests-set, others-set}
use Rattle.nb_graph.proofs.inner.Inner.harvest.Goals as goal

pub index_mut-requires : goal.index_mut-requires
index_mut-requires g c =
    let h = manned-place c.args.id.0 c.requires.manned c.requires.lives in
    omega (arith, h, c.place-place.ensures, c.args.self.now.nodes.ok.0)

pub returns-clause-manned : goal.returns-clause-manned
returns-clause-manned g c =
    let h = manned-place c.args.id.0 c.requires.manned c.requires.lives in
    IsManned-node c.place-place.result c.harvest.new.self c.index_mut.result.now (omega (arith, h, c.place-place.ensures)) c.index_mut.ensures.value c.harvest.ensures.rank c.requires.manned

pub returns-clause-gives : goal.returns-clause-gives
returns-clause-gives g c =
    let h = manned-place c.args.id.0 c.requires.manned c.requires.lives in
    rw c.place-place.ensures (Harvests-set g.N.Node.harvests c.args.self.now.nodes.items c.args.id c.index_mut.result.now c.harvest.new.self c.harvest.result h (rw c.place-place.ensures at c.index_mut.ensures.value) c.harvest.ensures.gives)

pub returns-clause-keeps : goal.returns-clause-keeps
returns-clause-keeps g c = λ x t.
    Keeps-set g.N.Node.stands c.args.id.0 c.place-place.result c.index_mut.result.now c.harvest.new.self c.requires.manned c.requires.lives c.place-place.ensures c.index_mut.ensures.value c.harvest.ensures.stands x t []

pub returns-clause-others : goal.returns-clause-others
returns-clause-others g c = λ x n.
    rw c.place-place.ensures (others-set c.args.self.now.book c.args.self.now.nodes.items c.args.id.0 c.harvest.new.self c.requires.lives x n)

use Rattle.nb_graph.proofs.LivedLemmas.{Lived-make}
use Rattle.std.proofs.Common.{arith}
use Rattle.nb_graph.proofs.SeatLemmas.{made-seat, other-seat}
use Rattle.nb_effects.proofs.GraphLemmas.{IsGraph-make, IsMade-make, KeepsRanks-make}
use Rattle.nb_graph.proofs.inner.Inner.make.Goals as goal

pub returns-clause-made : goal.returns-clause-made
returns-clause-made g c =
    rw c.add-id.ensures.nodes (IsMade-make c.args.node c.add-id.ensures.adds c.add-id.ensures.serial c.hold.ensures.sets c.add-id.ensures.place)

pub returns-clause-ranks : goal.returns-clause-ranks
returns-clause-ranks g c = KeepsRanks-make c.add-id.ensures.adds c.add-id.ensures.fresh c.hold.ensures.sets.objects

pub returns-clause-graph : goal.returns-clause-graph
returns-clause-graph g c =
    IsGraph-make c.add-id.ensures.adds c.add-id.ensures.fresh c.hold.ensures.sets (omega arith) c.add-id.ensures.small c.add-id.ensures.manned c.requires.graph

pub returns-clause-lived : goal.returns-clause-lived
returns-clause-lived g c = λ now.
    let manned = rw c.add-id.ensures.nodes at c.add-id.ensures.manned in
    Lived-make g.N.Node.stands _ now c.args.self.now.nodes.items _ _ _ _ c.add-id.result c.args.node c.requires.stands c.requires.room c.requires.serial c.add-id.ensures.serial c.add-id.ensures.fresh c.add-id.ensures.len c.add-id.ensures.adds c.hold.ensures.sets c.add-id.ensures.told c.hold.ensures.told c.add-id.ensures.step c.hold.ensures.step c.add-id.ensures.given c.hold.ensures.given
    (λ n h. made-seat c.hold.new.self c.args.node c.requires.graph.manned c.add-id.ensures.adds manned c.add-id.ensures.place c.hold.ensures.sets.objects.same_place n (rw c.add-id.ensures.nodes at h))
    (λ x n ne h. other-seat c.hold.new.self c.args.node c.requires.graph.manned c.add-id.ensures.adds manned c.add-id.ensures.place c.hold.ensures.sets.objects.same_place x n ne (rw c.add-id.ensures.nodes at h))

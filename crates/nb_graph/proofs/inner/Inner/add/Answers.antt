use Rattle.std.proofs.Common.{arith, sym, ◌∙◌}
use Rattle.nb_effects.proofs.MannedLemmas.{manned-length, IsManned-add}
use Rattle.nb_graph.proofs.inner.Inner.add.Goals as goal

pub push_last-requires : goal.push_last-requires
push_last-requires g c =
    let h = manned-length c.requires.manned in
    let r = c.requires.manned.room in
    let s = c.requires.room in
    omega (arith, h, r, s, c.args.self.now.nodes.ok.0)

pub returns-clause-place : goal.returns-clause-place
returns-clause-place g c = c.make-id.ensures.place ∙ sym (manned-length c.requires.manned)

pub returns-clause-manned : goal.returns-clause-manned
returns-clause-manned g c =
    rw c.push_last.ensures.items (IsManned-add c.args.node (rw c.rank.ensures at c.make-id.ensures.adds) c.push_last.ensures.capacity c.requires.room c.requires.manned)

use Rattle.std.proofs.Common.{arith, sym, ◌∙◌}
use Rattle.nb_graph.proofs.LivedLemmas.{Lived-hold}
use Rattle.nb_graph.proofs.WentLemmas.{Went-one}
use Rattle.nb_effects.proofs.GraphLemmas.{IsGraph-hold}
use Rattle.nb_graph.proofs.graph.Graph.hold.Goals as goal

pub invariant_of-self : goal.invariant_of-self
invariant_of-self g c = IsGraph-hold c.hold.ensures.sets (omega arith) c.self.invariant

pub returns-then-holds-lt4294967295-clause-went : goal.returns-then-holds-lt4294967295-clause-went
returns-then-holds-lt4294967295-clause-went g c = λ now.
    rw (← c.self.view_is) (Went-one (Lived-hold g.N.Node.stands _ now c.self.inside.inner.nodes.items _ _ c.args.id (sym c.is_live.ensures ∙ c.if-is_live.true) c.hold.ensures.sets c.hold.ensures.told c.hold.ensures.step c.hold.ensures.given))

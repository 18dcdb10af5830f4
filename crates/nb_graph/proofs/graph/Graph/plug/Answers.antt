use Rattle.nb_graph.proofs.LivedLemmas.{Lived-plug}
use Rattle.nb_graph.proofs.WentLemmas.{Went-one}
use Rattle.std.proofs.Common.{◌≡◌}
use Rattle.nb_ledger.specs.declared.port.PortState.TheVariants.{Open}
use Rattle.nb_ledger.specs.Ledger.{port}
use Rattle.nb_effects.proofs.GraphLemmas.{IsGraph-plug}
use Rattle.nb_ledger.proofs.PortLemmas.{live_by}
use Rattle.nb_graph.proofs.graph.Graph.plug.Goals as goal

pub invariant_of-self : goal.invariant_of-self
invariant_of-self g c =
    let s = c.plug.ensures.sets in
    let b = c.self.inside.inner.book in
    let p = c.args.upper in
    let q = c.args.lower in
    let op : port b p.obj.0 p.slot ≡ Open = c.is_free.ensures.0 c.if-not-is_free.false in
    let oq : port b q.obj.0 q.slot ≡ Open = c.is_free-2.ensures.0 c.if-not-is_free-2.false in
    let ranks = rw (← c.self.view_is) at c.requires.ranks in
    IsGraph-plug s.1 s.2 op oq c.requires.upper.0 c.requires.lower (ranks (live_by b _ _ _ tt op).0 (live_by b _ _ _ tt oq).0) c.self.invariant

pub returns-clause-went : goal.returns-clause-went
returns-clause-went g c = λ now.
    let s = c.plug.ensures.sets in
    let made = c.plug.ensures.made in
    rw (← c.self.view_is) (Went-one (Lived-plug g.N.Node.stands _ now c.self.inside.inner.nodes.items _ _ s.1 s.2 (c.is_free.ensures.0 c.if-not-is_free.false) (c.is_free-2.ensures.0 c.if-not-is_free-2.false) c.requires.upper.0 c.requires.lower made.0 made.1 c.plug.ensures.told c.plug.ensures.step c.plug.ensures.given))

-- The ports of an open that was made or is under way are open.
use Rattle.std.proofs.Common.{inl, inr, ◌≡◌, Option, Some, None, sym, subst}
use Rattle.nb_ledger.specs.declared.port.ObjId.{ObjId}
use Rattle.nb_graph.specs.Whole.{Objects}
use Rattle.nb_nodes.specs.declared.obj.Obj.{Obj}
use Rattle.nb_opens.specs.Alones.{IsOpenLone}
use Rattle.nb_opens.specs.Pairs.{AreGoing}
use Rattle.nb_chains.specs.declared.chain.Chain.{Chain}
use Rattle.nb_chains.specs.declared.kind.ChainKind.{ChainKind}
use Rattle.nb_chains.specs.declared.kind.ChainKind.TheVariants.{File, Name, Lease, Echo, Drive}
use Rattle.nb_chains.specs.Calls.{IsChainUnderWay, IsOpenBy, IsOpenChain}
use Rattle.nb_chains.specs.Chains.{IsReadyChain, own_graph}

module _ (c : Chain) (g : Objects Obj) where
  one_open : c.below ≡ None → IsOpenLone (own_graph c g) c.top.0 → IsOpenChain c g
  one_open e l = subst (λ (b : Option ObjId). IsOpenBy b c.top.0 (own_graph c g)) (sym e) l

  two_open : (t : ObjId) → c.below ≡ Some t → AreGoing (own_graph c g) c.top.0 t.0 → IsOpenChain c g
  two_open t e l = subst (λ (b : Option ObjId). IsOpenBy b c.top.0 (own_graph c g)) (sym e) l

pub ready_open : (kind : ChainKind) (c : Chain) (g : Objects Obj) → IsReadyChain kind c g → IsOpenChain c g
ready_open File c g r = two_open c g r.0 r.1 (inl r.2)
ready_open Name c g r = one_open c g r.0 r.1.lone
ready_open Lease c g r = one_open c g r.0 r.1.lone
ready_open Echo c g r = one_open c g r.0 r.1.lone
ready_open Drive c g r = one_open c g r.0 r.1.lone

pub under_way_open : (kind : ChainKind) (c : Chain) (g : Objects Obj) → IsChainUnderWay kind c g → IsOpenChain c g
under_way_open File c g r = two_open c g r.0 r.1 (inr r.2)
under_way_open Name c g (e, (b, start, calls, d)) = one_open c g e d.lone
under_way_open Lease c g (e, (b, start, calls, d)) = one_open c g e d.lone
under_way_open Echo c g (e, (b, start, calls, d)) = one_open c g e d.lone
under_way_open Drive c g r = absurd r

-- What waits is no object of an open that is under way.
use Rattle.std.proofs.Common.{inl, inr, ◌≡◌, ℕ, ◌≤◌, Bool, true, false, List, [], ◌∷◌, Option, Some, None, refl, sym, ap, ◌∙◌, subst, arith, if◌then◌else◌}
use Rattle.nb_ledger.specs.declared.port.ObjId.{ObjId}
use Rattle.nb_ledger.specs.GraphRun.{link_count}
use Rattle.nb_ledger.specs.Ledger.{port as port_in}
use Rattle.nb_graph.specs.Noded.{AreNoded}
use Rattle.nb_graph.specs.Trace.{NodeEntry}
use Rattle.nb_graph.specs.Whole.{Objects, node_at}
use Rattle.nb_frames.specs.Frames.{graph_of, is_one_of}
use Rattle.nb_frames.proofs.OwnLemmas.{AreThere, are_there}
use Rattle.nb_frames.proofs.OwnCallLemmas.{either_way, node_own, port_own}
use Rattle.nb_nodes.specs.declared.load.Load.{Load}
use Rattle.nb_nodes.specs.declared.obj.Obj.{Obj}
use Rattle.nb_nodes.specs.declared.obj.Obj.TheVariants as obj
use Rattle.nb_nodes.specs.EchoExchanges.{ping_service}
use Rattle.nb_nodes.specs.Exchanges.{AskerLeadsTo, Service, asking, not_begun}
use Rattle.nb_nodes.specs.LeaseExchanges.{lease_service}
use Rattle.nb_nodes.specs.LookupExchanges.{lookup_service}
use Rattle.nb_nodes.specs.Objects.{is_handed, mark_of_obj, rank_of_obj}
use Rattle.nb_nodes.specs.Standing.{ObjStands}
use Rattle.nb_opens.specs.Pairs.{IsDownloading}
use Rattle.nb_chains.specs.declared.chain.Chain.{Chain}
use Rattle.nb_chains.specs.declared.kind.ChainKind.{ChainKind}
use Rattle.nb_chains.specs.declared.kind.ChainKind.TheVariants.{File, Name, Lease, Echo, Drive}
use Rattle.nb_chains.specs.Calls.{IsChainUnderWay, IsTalking}
use Rattle.nb_chains.specs.Chains.{AreChained, AreOthers, Awaits, IsFresh, below_ids, chain_ids, own_graph}
use Rattle.nb_chains.specs.Ends.{LivesUnlinked}
use Rattle.nb_chains.specs.Kinds.{top_mark, top_rank}
use Rattle.nb_chains.proofs.FreshOnes.{sole_in, sole_is}
use Rattle.nb_chains.proofs.GivingUp.{fresh_loose}
use Rattle.nb_chains.proofs.NotBegun.{idle_asks_not}
use Rattle.nb_chains.proofs.OfTwo.{first_in, of_two, other_in}

-- an object of this kind that stands for no entry asks nothing
abbrev AsksNot : {S B C : Type 0} → Service S B C → ℕ → Type 0
AsksNot {S} {B} {C} s kind =
    (n : Obj) (t : List (NodeEntry Obj Load)) (b : B) (start : ℕ) (calls : List C) → mark_of_obj n ≡ kind → ObjStands n [] → ObjStands n t → AskerLeadsTo s not_begun t (asking b start calls) → ⊥

low_mark : (handed : Bool) (k : ℕ) → (if handed then 1 else 0) ≡ k → 2 ≤ k → ⊥
low_mark true k e le = omega (arith, e, le)
low_mark false k e le = omega (arith, e, le)

lookup_not : AsksNot lookup_service 5
lookup_not (obj.Fetch f) t b start calls e fresh stands run = low_mark (is_handed f) 5 e (omega arith)
lookup_not (obj.Tftp p) t b start calls e fresh stands run = omega (arith, e)
lookup_not (obj.Resolver r) t b start calls e fresh stands run = idle_asks_not lookup_service r.value.stage t b start calls fresh stands run
lookup_not (obj.Dhcp d) t b start calls e fresh stands run = omega (arith, e)
lookup_not (obj.Ping p) t b start calls e fresh stands run = omega (arith, e)
lookup_not (obj.Http p) t b start calls e fresh stands run = omega (arith, e)
lookup_not (obj.Tcp p) t b start calls e fresh stands run = omega (arith, e)
lookup_not (obj.Iscsi p) t b start calls e fresh stands run = omega (arith, e)
lookup_not (obj.Disk p) t b start calls e fresh stands run = omega (arith, e)

lease_not : AsksNot lease_service 6
lease_not (obj.Fetch f) t b start calls e fresh stands run = low_mark (is_handed f) 6 e (omega arith)
lease_not (obj.Tftp p) t b start calls e fresh stands run = omega (arith, e)
lease_not (obj.Resolver r) t b start calls e fresh stands run = omega (arith, e)
lease_not (obj.Dhcp d) t b start calls e fresh stands run = idle_asks_not lease_service d.value.stage t b start calls fresh stands run
lease_not (obj.Ping p) t b start calls e fresh stands run = omega (arith, e)
lease_not (obj.Http p) t b start calls e fresh stands run = omega (arith, e)
lease_not (obj.Tcp p) t b start calls e fresh stands run = omega (arith, e)
lease_not (obj.Iscsi p) t b start calls e fresh stands run = omega (arith, e)
lease_not (obj.Disk p) t b start calls e fresh stands run = omega (arith, e)

ping_not : AsksNot ping_service 7
ping_not (obj.Fetch f) t b start calls e fresh stands run = low_mark (is_handed f) 7 e (omega arith)
ping_not (obj.Tftp p) t b start calls e fresh stands run = omega (arith, e)
ping_not (obj.Resolver r) t b start calls e fresh stands run = omega (arith, e)
ping_not (obj.Dhcp d) t b start calls e fresh stands run = omega (arith, e)
ping_not (obj.Ping p) t b start calls e fresh stands run = idle_asks_not ping_service p.value.stage t b start calls fresh stands run
ping_not (obj.Http p) t b start calls e fresh stands run = omega (arith, e)
ping_not (obj.Tcp p) t b start calls e fresh stands run = omega (arith, e)
ping_not (obj.Iscsi p) t b start calls e fresh stands run = omega (arith, e)
ping_not (obj.Disk p) t b start calls e fresh stands run = omega (arith, e)

module _ (g : Objects Obj) (noded : AreNoded rank_of_obj g) (v r m : ℕ) (fresh : IsFresh g v r m) where
  all_there : (ids : List ℕ) → AreChained g ids → AreThere ids g
  all_there ids chained = are_there ids g chained.lives (λ y i. let k = noded y (chained.lives y i) in (k.node, k.is_node))

  -- so it isn't one that asks by itself
  talks_not : {S B C : Type 0} (s : Service S B C) (kind : ℕ) → AsksNot s kind → (x : ℕ) → AreChained g (x ∷ []) → IsTalking s kind (graph_of (x ∷ []) g) x → is_one_of (x ∷ []) v ≡ true → ⊥
  talks_not s kind asks_not x chained (b, start, calls, d) o =
      let same : v ≡ x = sole_is x v o in
      let n = noded v fresh.lives in
      let here : node_at g x ≡ Some n.node = ap (node_at g) (sym same) ∙ n.is_node in
      let at : node_at (graph_of (x ∷ []) g) x ≡ Some n.node = node_own (x ∷ []) g (all_there (x ∷ []) chained) x (sole_in x) ∙ here in
      asks_not n.node d.trace b start calls (d.of_kind n.node at) (fresh.stands n.node n.is_node).0 (d.stands n.node at).0 d.run

  -- and none of two that are plugged
  linked_not : (f t : ℕ) → AreChained g (f ∷ t ∷ []) → IsDownloading (graph_of (f ∷ t ∷ []) g) f t → is_one_of (f ∷ t ∷ []) v ≡ true → ⊥
  linked_not f t chained (b, start, calls, body, d) o =
      let ids : List ℕ = f ∷ t ∷ [] in
      let there = all_there ids chained in
      let loose : LivesUnlinked g v = fresh_loose g v r m fresh in
      let upper : link_count (port_in g.book f 1) ≡ 1 = ap link_count (sym (port_own ids g there f 1 (first_in f t)) ∙ d.joined.link) in
      let lower : link_count (port_in g.book t 0) ≡ 1 = ap link_count (sym (port_own ids g there t 0 (other_in f t)) ∙ d.joined.back) in
      of_two f t (λ (x : ℕ). v ≡ x → ⊥)
      (λ e. let z = ap (λ (x : ℕ). link_count (port_in g.book x 1)) e in let y = loose.unlinked 1 (omega arith) in omega (arith, upper, z, y))
      (λ e. let z = ap (λ (x : ℕ). link_count (port_in g.book x 0)) e in let y = loose.unlinked 0 (omega arith) in omega (arith, lower, z, y)) v o refl

  module _ (c : Chain) (chained : AreChained g (chain_ids c)) where
    -- by what it has below its top object
    abbrev Apart : Option ObjId → Type 0
    Apart w = AreChained g (c.top.0 ∷ below_ids w) → is_one_of (c.top.0 ∷ below_ids w) v ≡ true → ⊥

    one_apart : {S B C : Type 0} (s : Service S B C) (kind : ℕ) → AsksNot s kind → c.below ≡ None → IsTalking s kind (own_graph c g) c.top.0 → is_one_of (chain_ids c) v ≡ true → ⊥
    one_apart s kind asks_not e is =
        subst (λ (w : Option ObjId). IsTalking s kind (graph_of (c.top.0 ∷ below_ids w) g) c.top.0 → Apart w) (sym e) (λ i j. talks_not s kind asks_not c.top.0 j i) is chained

    two_apart : (t : ObjId) → c.below ≡ Some t → IsDownloading (own_graph c g) c.top.0 t.0 → is_one_of (chain_ids c) v ≡ true → ⊥
    two_apart t e is = subst (λ (w : Option ObjId). IsDownloading (graph_of (c.top.0 ∷ below_ids w) g) c.top.0 t.0 → Apart w) (sym e) (λ i j. linked_not c.top.0 t.0 j i) is chained

    under_way_apart : (of : ChainKind) → IsChainUnderWay of c g → is_one_of (chain_ids c) v ≡ true → ⊥
    under_way_apart File (t, e, is) = two_apart t e is
    under_way_apart Name (e, is) = one_apart lookup_service 5 lookup_not e is
    under_way_apart Lease (e, is) = one_apart lease_service 6 lease_not e is
    under_way_apart Echo (e, is) = one_apart ping_service 7 ping_not e is
    under_way_apart Drive u = absurd u

pub waiting_apart : (kind of : ChainKind) (w c : Chain) (g : Objects Obj) → AreNoded rank_of_obj g → Awaits kind w g → AreChained g (chain_ids c) → IsChainUnderWay of c g → AreOthers (chain_ids c) (chain_ids w)
waiting_apart kind of w c g noded waits chained is x o =
    let same : x ≡ w.top.0 = sole_is w.top.0 x (subst (λ (b : Option ObjId). is_one_of (w.top.0 ∷ below_ids b) x ≡ true) waits.alone o) in
    elim (either_way (is_one_of (chain_ids c) x)) [
      | inl i ↦ absurd (under_way_apart g noded w.top.0 (top_rank kind) (top_mark kind) waits.fresh c chained of is (ap (is_one_of (chain_ids c)) (sym same) ∙ i))
      | inr i ↦ i
    ]

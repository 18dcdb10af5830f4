-- All ports of a chain are closed: those that are plugged, and then the free ones.
use Rattle.std.proofs.Common.{◌≡◌, ℕ, true, List, [], ◌∷◌, ◌++◌, Option, Some, None, sym, ap, ◌∙◌, subst}
use Rattle.nb_terms.specs.declared.cause.Cause.{Cause}
use Rattle.nb_ledger.specs.declared.port.ObjId.{ObjId}
use Rattle.nb_ledger.specs.Flat.{Heard}
use Rattle.nb_ledger.specs.GraphRun.{link_count}
use Rattle.nb_ledger.specs.Ledger.{port as port_in}
use Rattle.nb_graph.specs.Noded.{AreNoded}
use Rattle.nb_graph.specs.Whole.{Objects}
use Rattle.nb_frames.specs.Frames.{is_one_of, graph_of}
use Rattle.nb_frames.specs.Within.{IsEventWithin}
use Rattle.nb_frames.proofs.OwnLemmas.{AreThere, are_there}
use Rattle.nb_frames.proofs.OwnCallLemmas.{port_own}
use Rattle.nb_nodes.specs.declared.obj.Obj.{Obj}
use Rattle.nb_nodes.specs.Objects.{rank_of_obj}
use Rattle.nb_opens.specs.AloneNotices.{alone_closed}
use Rattle.nb_opens.specs.Alones.{IsShutLone}
use Rattle.nb_opens.specs.Notices.{closed_notices}
use Rattle.nb_opens.specs.Pairs.{AreShut}
use Rattle.nb_chains.specs.declared.chain.Chain.{Chain}
use Rattle.nb_chains.specs.Calls.{ClosesChain, ClosesPorts, IsOpenChain, closing_notices}
use Rattle.nb_chains.specs.Chains.{AreChained, AreStillChained, IsShutBy, below_ids, chain_ids}
use Rattle.nb_chains.specs.Ends.{FreesSlots, HasFreeSlots, LivesUnlinked, free_slot_notices}
use Rattle.nb_chains.specs.Giving.{ChainGives}
use Rattle.nb_chains.proofs.ChainDoes.{top_in}
use Rattle.nb_chains.proofs.FreshOnes.{sole_in}
use Rattle.nb_chains.proofs.GivingLemmas.{gives_both}
use Rattle.nb_chains.proofs.GoingOn.{goes_both}
use Rattle.nb_chains.proofs.LettingGo.{both_loose}
use Rattle.nb_chains.proofs.LettingOneGo.{sole_loose}
use Rattle.nb_chains.proofs.OfTwo.{first_in, other_in}

-- one of a chain without a link
loose_of : (g : Objects Obj) (ids : List ℕ) (x : ℕ) → AreChained g ids → is_one_of ids x ≡ true → LivesUnlinked g x → (h : Objects Obj) → AreStillChained ids g h → ((k : ℕ) → link_count (port_in g.book x k) ≡ 0 → link_count (port_in h.book x k) ≡ 0) → LivesUnlinked h x
loose_of g ids x chained is l h on kept = record {
  given = on.chained.given x is;
  lives = on.chained.lives x is;
  held = on.chained.held x is;
  unlinked = λ k i. kept k (l.unlinked k i);
  stands = on.chained.stands x is;
}

-- one alone
module _ (g b d : Objects Obj) (l m n : Heard) (x : ObjId) (z : Cause) (noded : AreNoded rank_of_obj b) (on : AreStillChained (x.0 ∷ []) g b)
    (more : (ids : List ℕ) → AreChained b ids → is_one_of ids x.0 ≡ true → FreesSlots ids b d m n x.0 z) where
  abbrev sole : List ℕ
  sole = x.0 ∷ []

  abbrev chain : Chain
  chain = record { top = x; below = None }

  freed : FreesSlots sole b d m n x.0 z
  freed = more sole on.chained (sole_in x.0)

  sole_there : AreThere sole b
  sole_there = are_there sole b on.chained.lives (λ y i. let e = noded y (on.chained.lives y i) in (e.node, e.is_node))

  sole_free : IsShutLone (graph_of sole b) x.0 → HasFreeSlots b x.0
  sole_free s = (sym (port_own sole b sole_there x.0 2 (sole_in x.0)) ∙ s.ports 2, sym (port_own sole b sole_there x.0 3 (sole_in x.0)) ∙ s.ports 3)

  pub sole_ports : IsShutLone (graph_of sole b) x.0 → ChainGives chain g b l m (alone_closed x.0 z) → ClosesPorts chain g d z l n
  sole_ports s closed =
      let f = freed.free (sole_free s) in
      record {
        gives = gives_both (IsEventWithin (is_one_of sole)) g b d l m n (alone_closed x.0 z) (free_slot_notices x.0 z) closed f.gives;
        unlinked = loose_of b sole x.0 on.chained (sole_in x.0) (sole_loose b x.0 noded on.chained s) d freed.on f.unlinked;
      }

-- two: the free ports of each
module _ (g b d e : Objects Obj) (l m n o : Heard) (f t : ObjId) (z : Cause) (noded : AreNoded rank_of_obj b) (on : AreStillChained (f.0 ∷ t.0 ∷ []) g b)
    (top_more : (ids : List ℕ) → AreChained b ids → is_one_of ids f.0 ≡ true → FreesSlots ids b d m n f.0 z) (low_more : (ids : List ℕ) → AreChained d ids → is_one_of ids t.0 ≡ true → FreesSlots ids d e n o t.0 z) where
  abbrev ids : List ℕ
  ids = f.0 ∷ t.0 ∷ []

  abbrev chain_of_two : Chain
  chain_of_two = record { top = f; below = Some t }

  top_freed : FreesSlots ids b d m n f.0 z
  top_freed = top_more ids on.chained (first_in f.0 t.0)

  low_freed : FreesSlots ids d e n o t.0 z
  low_freed = low_more ids top_freed.on.chained (other_in f.0 t.0)

  there : AreThere ids b
  there = are_there ids b on.chained.lives (λ y i. let k = noded y (on.chained.lives y i) in (k.node, k.is_node))

  at_first : (k : ℕ) → port_in b.book f.0 k ≡ port_in (graph_of ids b).book f.0 k
  at_first k = sym (port_own ids b there f.0 k (first_in f.0 t.0))

  at_other : (k : ℕ) → port_in b.book t.0 k ≡ port_in (graph_of ids b).book t.0 k
  at_other k = sym (port_own ids b there t.0 k (other_in f.0 t.0))

  pub two_ports_closed : AreShut (graph_of ids b) f.0 t.0 → ChainGives chain_of_two g b l m (closed_notices f.0 t.0 z) → ClosesPorts chain_of_two g e z l o
  two_ports_closed s closed =
      let both = both_loose b f.0 t.0 noded on.chained s in
      let i = top_freed.free (at_first 2 ∙ s.two.fetch_2, at_first 3 ∙ s.two.fetch_3) in
      let apart : f.0 ≡ t.0 → ⊥ = λ same. both.different (sym same) in
      let j = low_freed.free (i.others t.0 2 both.different ∙ (at_other 2 ∙ s.two.tftp_2), i.others t.0 3 both.different ∙ (at_other 3 ∙ s.two.tftp_3)) in
      let first = loose_of b ids f.0 on.chained (first_in f.0 t.0) both.first d top_freed.on i.unlinked in
      let other = loose_of b ids t.0 on.chained (other_in f.0 t.0) both.other d top_freed.on (λ k z. ap link_count (i.others t.0 k both.different) ∙ z) in
      let own = IsEventWithin (is_one_of ids) in
      record {
        gives = gives_both own g b e l m o (closed_notices f.0 t.0 z) (free_slot_notices f.0 z ++ free_slot_notices t.0 z) closed
            (gives_both own b d e m n o (free_slot_notices f.0 z) (free_slot_notices t.0 z) i.gives j.gives);
        unlinked = record {
          different = both.different;
          first = loose_of d ids f.0 top_freed.on.chained (first_in f.0 t.0) first e low_freed.on (λ k z. ap link_count (j.others f.0 k apart) ∙ z);
          other = loose_of d ids t.0 top_freed.on.chained (other_in f.0 t.0) other e low_freed.on j.unlinked;
        };
      }

-- by what a chain has below its top object
module _ (c : Chain) (g b d : Objects Obj) (l m n : Heard) (z : Cause) (noded : AreNoded rank_of_obj b) (on : AreStillChained (chain_ids c) g b) (closes : ClosesChain c g b z l m)
    (top_more : (ids : List ℕ) → AreChained b ids → is_one_of ids c.top.0 ≡ true → FreesSlots ids b d m n c.top.0 z) where
  -- those that are plugged were closed
  record WereShut (w : Option ObjId) : Type 0 where
    pub goes : AreStillChained (c.top.0 ∷ below_ids w) g b
    pub shut : IsShutBy w c.top.0 (graph_of (c.top.0 ∷ below_ids w) b)
    pub gives : ChainGives (record { top = c.top; below = w }) g b l m (closing_notices c.top.0 w z)

  were_shut : IsOpenChain c g → WereShut c.below
  were_shut is = record { goes = on; shut = closes.shut is; gives = subst (ChainGives c g b l m) (closes.are is) closes.gives }

  top_on : AreStillChained (chain_ids c) b d
  top_on = (top_more (chain_ids c) on.chained (top_in c)).on

  pub sole_goes : AreStillChained (chain_ids c) g d
  sole_goes = goes_both (chain_ids c) g b d on top_on

  pub ports_sole : c.below ≡ None → IsOpenChain c g → ClosesPorts c g d z l n
  ports_sole e is =
      let P : Option ObjId → Type 0 = λ w. WereShut w → ClosesPorts (record { top = c.top; below = w }) g d z l n in
      subst P (sym e) (λ k. sole_ports g b d l m n c.top z noded k.goes top_more k.shut k.gives) (were_shut is)

  module _ (t : ObjId) (same : c.below ≡ Some t) (e : Objects Obj) (o : Heard) (low_more : (ids : List ℕ) → AreChained d ids → is_one_of ids t.0 ≡ true → FreesSlots ids d e n o t.0 z) where
    lower_in : is_one_of (chain_ids c) t.0 ≡ true
    lower_in = subst (λ (w : Option ObjId). is_one_of (c.top.0 ∷ below_ids w) t.0 ≡ true) (sym same) (other_in c.top.0 t.0)

    pub two_go : AreStillChained (chain_ids c) g e
    two_go = goes_both (chain_ids c) g d e sole_goes (low_more (chain_ids c) top_on.chained lower_in).on

    pub ports_two : IsOpenChain c g → ClosesPorts c g e z l o
    ports_two is =
        let P : Option ObjId → Type 0 = λ w. WereShut w → ClosesPorts (record { top = c.top; below = w }) g e z l o in
        subst P (sym same) (λ k. two_ports_closed g b d e l m n o c.top t z noded k.goes top_more low_more k.shut k.gives) (were_shut is)

-- What a chain does where the user closes both ports of its top object.
use Rattle.std.proofs.Common.{◌≡◌, ℕ, List, [], ◌∷◌, ◌++◌, Option, Some, None, sym, subst}
use Rattle.nb_terms.specs.declared.cause.Cause.{Cause}
use Rattle.nb_ledger.specs.declared.port.ObjId.{ObjId}
use Rattle.nb_ledger.specs.Flat.{Heard, Notice, all}
use Rattle.nb_graph.specs.Deeds.{Closes}
use Rattle.nb_graph.specs.Noded.{AreNoded}
use Rattle.nb_graph.specs.Went.{WentOne}
use Rattle.nb_graph.specs.Whole.{Objects, port_at}
use Rattle.nb_frames.specs.Frames.{is_one_of}
use Rattle.nb_frames.specs.Within.{IsEventWithin}
use Rattle.nb_nodes.specs.declared.obj.Obj.{Obj}
use Rattle.nb_nodes.specs.Objects.{obj_nature, rank_of_obj}
use Rattle.nb_nodes.specs.Standing.{ObjStands}
use Rattle.nb_opens.specs.AloneNotices.{alone_closed}
use Rattle.nb_opens.specs.Alones.{IsOpenLone, IsShutLone}
use Rattle.nb_opens.specs.Notices.{closed_notices}
use Rattle.nb_opens.specs.Pairs.{AreGoing, HasHandedOut}
use Rattle.nb_opens.proofs.Closing.{close_does}
use Rattle.nb_opens.proofs.LoneCloses.{both_slots}
use Rattle.nb_chains.specs.declared.chain.Chain.{Chain}
use Rattle.nb_chains.specs.Calls.{ClosesChain, IsOpenBy, closing_notices}
use Rattle.nb_chains.specs.Chains.{AreChained, AreStillChained, IsShutBy, chain_ids, last_below, last_serial, own_graph}
use Rattle.nb_chains.specs.Shapes.{SendsNone}
use Rattle.nb_chains.proofs.ChainCalls.{ChainCalled}
use Rattle.nb_chains.proofs.ChainDoes.{closed_top}
use Rattle.nb_chains.proofs.GivingLemmas.{gives_both, known_notices}
use Rattle.nb_chains.proofs.GoingOn.{goes_both}
use Rattle.nb_chains.proofs.ShapesOf.{alone_closed_stays, closed_stays}

-- nothing goes down where it is closed
pub close_stays : (x : ℕ) (b : Option ObjId) (z : Cause) → SendsNone (last_below x b) (closing_notices x b z)
close_stays x None z = alone_closed_stays x z
close_stays x (Some t) z = closed_stays x t.0 z

-- what closing does to one and to two
record IsClosed (x : ℕ) (b : Option ObjId) (z : Cause) (h : Objects Obj) (ns : List Notice) : Type 0 where
  pub are : ns ≡ closing_notices x b z
  pub shut : IsShutBy b x h

module _ (c : Chain) (g a h : Objects Obj) (m n o : Heard) (now : ℕ) (cause : Cause) (chained : AreChained g (chain_ids c)) (first : AreNoded rank_of_obj g) (mid : AreNoded rank_of_obj a) (end : AreNoded rank_of_obj h)
    (one : WentOne ObjStands obj_nature now (Closes (port_at c.top.0 0) cause ∷ []) g a m n) (two : WentOne ObjStands obj_nature now (Closes (port_at c.top.0 1) cause ∷ []) a h n o) where
  one_called : ChainCalled (chain_ids c) now (Closes (port_at c.top.0 0) cause ∷ []) g a m n
  one_called = closed_top c g a m n now chained first mid 0 cause one

  two_called : ChainCalled (chain_ids c) now (Closes (port_at c.top.0 1) cause ∷ []) a h n o
  two_called = closed_top c a h n o now one_called.on.chained mid end 1 cause two

  pub close_on : AreStillChained (chain_ids c) g h
  close_on = goes_both (chain_ids c) g a h one_called.on two_called.on

  abbrev ns : List Notice
  ns = one_called.ns ++ two_called.ns

  -- what they do to two, whatever the outside knew
  two_ended : (t : ObjId) → AreGoing (own_graph c g) c.top.0 t.0 → HasHandedOut (own_graph c h) c.top.0 t.0 None × (closed_notices c.top.0 t.0 cause ≡ ns)
  two_ended t going =
      let d = close_does (own_graph c g) (own_graph c a) (own_graph c h) (all []) (all one_called.ns) (all ns) now c.top.0 t.0 cause going one_called.noded two_called.noded (one_called.alone []) (two_called.alone one_called.ns) in
      (d.0, known_notices ns (closed_notices c.top.0 t.0 cause) d.1)

  sole_ended : IsOpenLone (own_graph c g) c.top.0 → IsShutLone (own_graph c h) c.top.0 × (alone_closed c.top.0 cause ≡ ns)
  sole_ended ready =
      let d = both_slots (own_graph c g) (own_graph c a) (own_graph c h) (all []) (all one_called.ns) (all ns) now c.top.0 cause ready (one_called.alone []) (two_called.alone one_called.ns) in
      (d.0, known_notices ns (alone_closed c.top.0 cause) d.1)

  closes_as : (b : Option ObjId) → IsOpenBy b c.top.0 (own_graph c g) → IsClosed c.top.0 b cause (own_graph c h) ns
  closes_as None ready = let d = sole_ended ready in record { are = sym d.1; shut = d.0 }
  closes_as (Some t) going = let d = two_ended t going in record { are = sym d.1; shut = d.0.shut }

  pub closes_chain : ClosesChain c g h cause m o
  closes_chain = record {
    ns = ns;
    gives = gives_both (IsEventWithin (is_one_of (chain_ids c))) g a h m n o one_called.ns two_called.ns one_called.gives two_called.gives;
    are = λ is. (closes_as c.below is).are;
    shut = λ is. (closes_as c.below is).shut;
    file = λ t e going. (two_ended t going).0;
    one = λ e ready. (sole_ended ready).0;
    shape = λ is. subst (SendsNone (last_serial c)) (sym (closes_as c.below is).are) (close_stays c.top.0 c.below cause);
  }

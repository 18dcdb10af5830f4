-- The slots of an object that nothing is plugged to are closed.
use Rattle.std.proofs.Common.{◌≡◌, ℕ, Bool, true, false, cond, eqb, List, [], ◌∷◌, refl, sym, ap, ◌∙◌, subst}
use Rattle.std.proofs.lemmas.Bool.{eq-eqb, ne_eqb}
use Rattle.nb_terms.specs.declared.cause.Cause.{Cause}
use Rattle.nb_ledger.specs.declared.port.Port.{Port}
use Rattle.nb_ledger.specs.declared.port.PortState.{PortState}
use Rattle.nb_ledger.specs.declared.port.PortState.TheVariants as port
use Rattle.nb_ledger.specs.declared.event.GraphEvent.TheVariants.{Closed}
use Rattle.nb_ledger.specs.Flat.{Heard, all}
use Rattle.nb_ledger.specs.GraphRun.{link_count, port_but}
use Rattle.nb_ledger.specs.Ledger.{port as port_in}
use Rattle.nb_graph.specs.Deeds.{Closes}
use Rattle.nb_graph.specs.Noded.{AreNoded}
use Rattle.nb_graph.specs.Went.{WentOne}
use Rattle.nb_graph.specs.Whole.{Objects, port_at}
use Rattle.nb_frames.specs.Frames.{is_one_of}
use Rattle.nb_frames.specs.Within.{IsEventWithin}
use Rattle.nb_nodes.specs.declared.obj.Obj.{Obj}
use Rattle.nb_nodes.specs.Objects.{obj_nature, rank_of_obj}
use Rattle.nb_nodes.specs.Standing.{ObjStands}
use Rattle.nb_opens.specs.Notices.{tells}
use Rattle.nb_opens.proofs.Shutting.{closes_alone}
use Rattle.nb_chains.specs.Chains.{AreChained}
use Rattle.nb_chains.specs.Ends.{ClosesFreeSlots, FreesSlots, HasFreeSlots}
use Rattle.nb_chains.specs.Giving.{CallGives}
use Rattle.nb_chains.proofs.ChainCalls.{ChainCalled, chain_call}
use Rattle.nb_chains.proofs.GivingLemmas.{gives_both, known_notices}
use Rattle.nb_chains.proofs.GoingOn.{goes_both}

-- no link comes where a port is closed
no_link : (p : Port) (f : ℕ → ℕ → PortState) (y k : ℕ) → link_count (f y k) ≡ 0 → link_count (port_but p port.Closed f y k) ≡ 0
no_link p f y k h = by_tests (eqb y p.obj.0) (eqb k p.slot)
  where
    by_tests : (a b : Bool) → link_count (cond a (cond b port.Closed (f y k)) (f y k)) ≡ 0
    by_tests true true = refl
    by_tests true false = h
    by_tests false b = h

other_port : (x i y k : ℕ) (f : ℕ → ℕ → PortState) → (y ≡ x → ⊥) → port_but (port_at x i) port.Closed f y k ≡ f y k
other_port x i y k f h = rw (ne_eqb y x h) refl

beside : (x : ℕ) (f : ℕ → ℕ → PortState) → port_but (port_at x 2) port.Closed f x 3 ≡ f x 3
beside x f = rw (eq-eqb x x refl) refl

-- the slots of x, one of these, that nothing is plugged to are closed
module _ (g a h : Objects Obj) (m n o : Heard) (now x : ℕ) (z : Cause)
    (one : WentOne ObjStands obj_nature now (Closes (port_at x 2) z ∷ []) g a m n) (two : WentOne ObjStands obj_nature now (Closes (port_at x 3) z ∷ []) a h n o) where
  module _ (first : AreNoded rank_of_obj g) (mid : AreNoded rank_of_obj a) (end : AreNoded rank_of_obj h) (ids : List ℕ) (chained : AreChained g ids) (is : is_one_of ids x ≡ true) where
    one_called : ChainCalled ids now (Closes (port_at x 2) z ∷ []) g a m n
    one_called = chain_call ids now (Closes (port_at x 2) z ∷ []) g a m n chained (is, tt) (tt, tt) (tt, tt) first mid one

    two_called : ChainCalled ids now (Closes (port_at x 3) z ∷ []) a h n o
    two_called = chain_call ids now (Closes (port_at x 3) z ∷ []) a h n o one_called.on.chained (is, tt) (tt, tt) (tt, tt) mid end two

    closes_slots : HasFreeSlots g x → ClosesFreeSlots ids g h m o x z
    closes_slots free =
        let i = closes_alone g a (all []) (all one_called.ns) now (port_at x 2) z free.0 (one_called.whole []) in
        let j = closes_alone a h (all []) (all two_called.ns) now (port_at x 3) z (i.ports x 3 ∙ (beside x (port_in g.book) ∙ free.1)) (two_called.whole []) in
        let own = IsEventWithin (is_one_of ids) in
        record {
          unlinked = λ k e. ap link_count (j.ports x k) ∙ no_link (port_at x 3) (port_in a.book) x k (ap link_count (i.ports x k) ∙ no_link (port_at x 2) (port_in g.book) x k e);
          others = λ y k far. j.ports y k ∙ (other_port x 3 y k (port_in a.book) far ∙ (i.ports y k ∙ other_port x 2 y k (port_in g.book) far));
          gives = gives_both own g a h m n o (tells (Closed (port_at x 2) z) ∷ []) (tells (Closed (port_at x 3) z) ∷ [])
              (subst (CallGives own g a m n) (sym (known_notices one_called.ns (tells (Closed (port_at x 2) z) ∷ []) i.told)) one_called.gives)
              (subst (CallGives own a h n o) (sym (known_notices two_called.ns (tells (Closed (port_at x 3) z) ∷ []) j.told)) two_called.gives);
        }

    pub frees_slots : FreesSlots ids g h m o x z
    frees_slots = record { on = goes_both ids g a h one_called.on two_called.on; free = closes_slots }

-- A call on a chain's top object or its last one is one on the graph of its objects.
use Rattle.std.proofs.Common.{◌≡◌, ℕ, ◌==◌, ◌||◌, Bool, true, false, List, [], ◌∷◌, Option, Some, None, refl, sym, subst}
use Rattle.std.proofs.lemmas.Bool.{eq-eqb}
use Rattle.nb_terms.specs.declared.cause.Cause.{Cause}
use Rattle.nb_ledger.specs.declared.event.GraphEvent.{GraphEvent}
use Rattle.nb_ledger.specs.declared.port.ObjId.{ObjId}
use Rattle.nb_ledger.specs.Flat.{Heard, Notice}
use Rattle.nb_graph.specs.Deeds.{Closes, Offers, Stage, Ticks}
use Rattle.nb_graph.specs.Noded.{AreNoded}
use Rattle.nb_graph.specs.Trace.{Said}
use Rattle.nb_graph.specs.Went.{WentOne}
use Rattle.nb_graph.specs.Whole.{Objects, port_at}
use Rattle.nb_frames.specs.Frames.{is_one_of}
use Rattle.nb_nodes.specs.declared.load.Load.{Load}
use Rattle.nb_nodes.specs.declared.obj.Obj.{Obj}
use Rattle.nb_nodes.specs.Objects.{obj_nature, rank_of_obj}
use Rattle.nb_nodes.specs.Standing.{ObjStands}
use Rattle.nb_chains.specs.declared.chain.Chain.{Chain}
use Rattle.nb_chains.specs.Chains.{AreChained, below_ids, chain_ids, last_below, last_serial}
use Rattle.nb_chains.specs.Shapes.{HasShapeOrFails}
use Rattle.nb_chains.proofs.ChainCalls.{ChainCalled, chain_call}

or_true : (b d : Bool) → d ≡ true → (b || d) ≡ true
or_true true d e = refl
or_true false d e = e

-- the top one is one of its objects, and so is the last
pub top_in : (c : Chain) → is_one_of (chain_ids c) c.top.0 ≡ true
top_in c = rw (eq-eqb c.top.0 c.top.0 refl) refl

below_in : (x : ℕ) (b : Option ObjId) → is_one_of (x ∷ below_ids b) (last_below x b) ≡ true
below_in x None = rw (eq-eqb x x refl) refl
below_in x (Some y) = or_true (y.0 == x) (is_one_of (y.0 ∷ []) y.0) (rw (eq-eqb y.0 y.0 refl) refl)

pub last_in : (c : Chain) → is_one_of (chain_ids c) (last_serial c) ≡ true
last_in c = below_in c.top.0 c.below

module _ (c : Chain) (g h : Objects Obj) (m n : Heard) (now : ℕ) (chained : AreChained g (chain_ids c)) (before : AreNoded rank_of_obj g) (after : AreNoded rank_of_obj h) where
  abbrev Went : List (Stage Obj Load) → Type 0
  Went asks = WentOne ObjStands obj_nature now asks g h m n

  pub offered_top : (m2 : Said) → Went (Offers (port_at c.top.0 0) m2 ∷ []) → ChainCalled (chain_ids c) now (Offers (port_at c.top.0 0) m2 ∷ []) g h m n
  offered_top m2 k = chain_call (chain_ids c) now (Offers (port_at c.top.0 0) m2 ∷ []) g h m n chained (top_in c, tt) (tt, tt) (tt, tt) before after k

  pub offered_last : (m2 : Said) → Went (Offers (port_at (last_serial c) 1) m2 ∷ []) → ChainCalled (chain_ids c) now (Offers (port_at (last_serial c) 1) m2 ∷ []) g h m n
  offered_last m2 k = chain_call (chain_ids c) now (Offers (port_at (last_serial c) 1) m2 ∷ []) g h m n chained (last_in c, tt) (tt, tt) (tt, tt) before after k

  pub ticked_last : Went (Ticks (last_serial c) ∷ []) → ChainCalled (chain_ids c) now (Ticks (last_serial c) ∷ []) g h m n
  ticked_last k = chain_call (chain_ids c) now (Ticks (last_serial c) ∷ []) g h m n chained (last_in c, tt) (tt, tt) (tt, tt) before after k

  pub closed_top : (slot : ℕ) (z : Cause) → Went (Closes (port_at c.top.0 slot) z ∷ []) → ChainCalled (chain_ids c) now (Closes (port_at c.top.0 slot) z ∷ []) g h m n
  closed_top slot z k = chain_call (chain_ids c) now (Closes (port_at c.top.0 slot) z ∷ []) g h m n chained (top_in c, tt) (tt, tt) (tt, tt) before after k

-- the order of its notices by its last object, which of one alone is the top one
pub at_top : (c : Chain) (entry : ℕ → Option GraphEvent) (ns : List Notice) → c.below ≡ None → HasShapeOrFails c.top.0 (entry c.top.0) ns → HasShapeOrFails (last_serial c) (entry (last_serial c)) ns
at_top c entry ns e h = subst (λ (b : Option ObjId). HasShapeOrFails (last_below c.top.0 b) (entry (last_below c.top.0 b)) ns) (sym e) h

pub at_lower : (c : Chain) (t : ObjId) (entry : ℕ → Option GraphEvent) (ns : List Notice) → c.below ≡ Some t → HasShapeOrFails t.0 (entry t.0) ns → HasShapeOrFails (last_serial c) (entry (last_serial c)) ns
at_lower c t entry ns e h = subst (λ (b : Option ObjId). HasShapeOrFails (last_below c.top.0 b) (entry (last_below c.top.0 b)) ns) (sym e) h

-- The slots of an object that nothing is plugged to are closed, and objects that have no link have none then.
use Rattle.std.proofs.Common.{inl, inr, ◌≡◌, ℕ, ◌≤◌, ◌<◌, Bool, true, false, cond, eqb, List, [], ◌∷◌, ◌++◌, refl, sym, ap, ◌∙◌, subst, arith}
use Rattle.std.proofs.lemmas.Bool.{cases_eq}
use Rattle.std.proofs.lemmas.List.{append-nil}
use Rattle.nb_terms.specs.declared.cause.Cause.{Cause}
use Rattle.nb_ledger.specs.declared.port.Port.{Port}
use Rattle.nb_ledger.specs.declared.port.PortState.{PortState}
use Rattle.nb_ledger.specs.declared.port.PortState.TheVariants as port
use Rattle.nb_ledger.specs.declared.event.GraphEvent.TheVariants.{Closed}
use Rattle.nb_ledger.specs.Flat.{Heard, Notice, all, event, message}
use Rattle.nb_ledger.specs.GraphRun.{link_count, port_but}
use Rattle.nb_ledger.specs.Ledger.{open_count, port as port_in}
use Rattle.nb_graph.specs.Deeds.{Closes, turns, is_shut, told_of}
use Rattle.nb_graph.specs.Noded.{AreNoded}
use Rattle.nb_graph.specs.Scene.{scene_of}
use Rattle.nb_graph.specs.Went.{WentOne, all_of}
use Rattle.nb_graph.specs.Whole.{Objects, port_at}
use Rattle.nb_graph.proofs.Laws.{only_call, close_shut, nothing}
use Rattle.nb_frames.specs.Frames.{is_one_of}
use Rattle.nb_frames.specs.Within.{IsEventWithin}
use Rattle.nb_nodes.specs.declared.obj.Obj.{Obj}
use Rattle.nb_nodes.specs.Objects.{obj_nature, rank_of_obj}
use Rattle.nb_nodes.specs.Standing.{ObjStands}
use Rattle.nb_opens.specs.Notices.{tells}
use Rattle.nb_opens.proofs.Shutting.{closes_alone}
use Rattle.nb_chains.specs.Chains.{AreChained}
use Rattle.nb_chains.proofs.ChainCalls.{ChainCalled, chain_call}
use Rattle.nb_chains.proofs.GivingLemmas.{gives_both, known_notices}
use Rattle.nb_chains.proofs.GoingOn.{goes_both}
use Rattle.nb_webchains.specs.Releases.{AreCloses, AreLoose, GoesLoose, StayLoose}

-- what counts nothing at a port counts nothing where one is closed
none_counted : (m : PortState → ℕ) → m port.Closed ≡ 0 → (p : Port) (f : ℕ → ℕ → PortState) (y k : ℕ) → m (f y k) ≡ 0 → m (port_but p port.Closed f y k) ≡ 0
none_counted m zero p f y k h = by_tests (eqb y p.obj.0) (eqb k p.slot)
  where
    by_tests : (a b : Bool) → m (cond a (cond b port.Closed (f y k)) (f y k)) ≡ 0
    by_tests true true = zero
    by_tests true false = h
    by_tests false b = h

pub both_close : (xs ys : List Notice) → AreCloses xs → AreCloses ys → AreCloses (xs ++ ys)
both_close [] ys p q = q
both_close (event e ∷ xs) ys p q = (p.0, both_close xs ys p.1 q)
both_close (message from tag rec a b bytes ∷ xs) ys p q = absurd p

-- what is told where a port is closed that isn't linked
slot_closes : (ids : List ℕ) (g h : Objects Obj) (m n : Heard) (now x slot : ℕ) (z : Cause) (k : ChainCalled ids now (Closes (port_at x slot) z ∷ []) g h m n) → link_count (port_in g.book x slot) ≡ 0 → AreCloses k.ns
slot_closes ids g h m n now x slot z k none = by (port_in g.book x slot) refl none
  where
    by : (v : PortState) → port_in g.book x slot ≡ v → link_count v ≡ 0 → AreCloses k.ns
    by port.Open e none =
        let one = closes_alone g h (all []) (all k.ns) now (port_at x slot) z e (k.whole []) in
        subst AreCloses (known_notices k.ns (tells (Closed (port_at x slot) z) ∷ []) one.told) ((port_at x slot, z, refl), tt)
    by (port.Linked q) e none = absurd (omega (arith, none))
    by (port.Leaving q) e none = absurd (omega (arith, none))
    by port.Closed e none =
        let known = k.whole [] in
        let call = only_call obj_nature (scene_of g.book) (scene_of h.book) (record { now = now; asks = Closes (port_at x slot) z ∷ [] }) known.deeds known.each in
        let did = close_shut obj_nature now (scene_of g.book) (scene_of h.book) (port_at x slot) z [] call.0 (ap open_count e) call.2 in
        let more = nothing obj_nature now (scene_of g.book) (scene_of h.book) did.0 did.2 in
        let all_deeds = ap all_of call.1 ∙ append-nil call.0 ∙ did.1 ∙ ap (λ ds. turns (is_shut (port_at x slot)) ∷ ds) more.0 in
        subst AreCloses (known_notices k.ns (told_of (all_of known.deeds)) known.tells) (subst (λ ds. AreCloses (told_of ds)) (sym all_deeds) tt)

module _ (ids : List ℕ) (g h : Objects Obj) (m n : Heard) (now x slot : ℕ) (z : Cause) (low : slot < 4) (chained : AreChained g ids) (is : is_one_of ids x ≡ true) (before : AreNoded rank_of_obj g) (after : AreNoded rank_of_obj h)
    (k : WentOne ObjStands obj_nature now (Closes (port_at x slot) z ∷ []) g h m n) (shut : open_count (port_in g.book x slot) ≡ 0 → h ≡ g) where
  pub slot_called : ChainCalled ids now (Closes (port_at x slot) z ∷ []) g h m n
  slot_called = chain_call ids now (Closes (port_at x slot) z ∷ []) g h m n chained (is, tt) (tt, tt) (tt, tt) before after k

  -- what counts nothing at a port, which isn't linked, still does
  count_stays : (m : PortState → ℕ) → m port.Closed ≡ 0 → (v : PortState) → port_in g.book x slot ≡ v → link_count v ≡ 0 → (y i : ℕ) → m (port_in g.book y i) ≡ 0 → m (port_in h.book y i) ≡ 0
  count_stays m zero port.Open e none y i was =
      let one = closes_alone g h (all []) (all slot_called.ns) now (port_at x slot) z e (slot_called.whole []) in
      ap m (one.ports y i) ∙ none_counted m zero (port_at x slot) (port_in g.book) y i was
  count_stays m zero (port.Linked q) e none y i was = absurd (omega (arith, none))
  count_stays m zero (port.Leaving q) e none y i was = absurd (omega (arith, none))
  count_stays m zero port.Closed e none y i was = ap (λ (w : Objects Obj). m (port_in w.book y i)) (shut (ap open_count e)) ∙ was

  pub slot_loose : AreLoose ids g → AreLoose ids h
  slot_loose l y o = record {
    given = slot_called.on.chained.given y o;
    lives = slot_called.on.chained.lives y o;
    held = slot_called.on.chained.held y o;
    unlinked = λ i lt. count_stays link_count refl (port_in g.book x slot) refl ((l x is).unlinked slot low) y i ((l y o).unlinked i lt);
    stands = slot_called.on.chained.stands y o;
  }

  pub still_shut : AreLoose ids g → (y i : ℕ) → open_count (port_in g.book y i) ≡ 0 → open_count (port_in h.book y i) ≡ 0
  still_shut l y i = count_stays open_count refl (port_in g.book x slot) refl ((l x is).unlinked slot low) y i

-- both of them are closed
module _ (g a h : Objects Obj) (m n o : Heard) (now x : ℕ) (z : Cause) (one : WentOne ObjStands obj_nature now (Closes (port_at x 2) z ∷ []) g a m n) (two : WentOne ObjStands obj_nature now (Closes (port_at x 3) z ∷ []) a h n o)
    (one_shut : open_count (port_in g.book x 2) ≡ 0 → a ≡ g) (two_shut : open_count (port_in a.book x 3) ≡ 0 → h ≡ a) (one_closed : open_count (port_in a.book x 2) ≡ 0) (two_closed : open_count (port_in h.book x 3) ≡ 0)
    (first : AreNoded rank_of_obj g) (mid : AreNoded rank_of_obj a) (end : AreNoded rank_of_obj h) (ids : List ℕ) (chained : AreChained g ids) (is : is_one_of ids x ≡ true) where
  one_called : ChainCalled ids now (Closes (port_at x 2) z ∷ []) g a m n
  one_called = slot_called ids g a m n now x 2 z (omega arith) chained is first mid one one_shut

  two_called : ChainCalled ids now (Closes (port_at x 3) z ∷ []) a h n o
  two_called = slot_called ids a h n o now x 3 z (omega arith) one_called.on.chained is mid end two two_shut

  module _ (l : AreLoose ids g) where
    mid_loose : AreLoose ids a
    mid_loose = slot_loose ids g a m n now x 2 z (omega arith) chained is first mid one one_shut l

    still : (y i : ℕ) → open_count (port_in a.book y i) ≡ 0 → open_count (port_in h.book y i) ≡ 0
    still = still_shut ids a h n o now x 3 z (omega arith) one_called.on.chained is mid end two two_shut mid_loose

    both_slots : (k : ℕ) → 2 ≤ k → k < 4 → open_count (port_in h.book x k) ≡ 0
    both_slots k low high = elim (cases_eq k 2) [
      | inl e ↦ ap (λ i. open_count (port_in h.book x i)) e ∙ still x 2 one_closed
      | inr ne ↦ ap (λ i. open_count (port_in h.book x i)) (omega (arith, ne, low, high)) ∙ two_closed
    ]

    stay_loose : StayLoose ids x g h
    stay_loose = record {
      loose = slot_loose ids a h n o now x 3 z (omega arith) one_called.on.chained is mid end two two_shut mid_loose;
      slots = both_slots;
      still = λ y i own was. still y i (still_shut ids g a m n now x 2 z (omega arith) chained is first mid one one_shut l y i was);
    }

  pub goes_loose : GoesLoose ids x g h m o
  goes_loose = record {
    ns = one_called.ns ++ two_called.ns;
    on = goes_both ids g a h one_called.on two_called.on;
    gives = gives_both (IsEventWithin (is_one_of ids)) g a h m n o one_called.ns two_called.ns one_called.gives two_called.gives;
    closes = λ l. both_close one_called.ns two_called.ns (slot_closes ids g a m n now x 2 z one_called ((l x is).unlinked 2 (omega arith)))
        (slot_closes ids a h n o now x 3 z two_called ((mid_loose l x is).unlinked 3 (omega arith)));
    loose = stay_loose;
  }

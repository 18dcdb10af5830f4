-- One object of a chain that has no link is let go.
use Rattle.std.proofs.Common.{◌≡◌, ℕ, ◌+◌, ◌<◌, ◌≤◌, Bool, true, false, List, [], ◌∷◌, length, None, is_some, nat_lt, refl, sym, ap, ◌∙◌, subst, arith}
use Rattle.std.proofs.lemmas.Bool.{eq-eqb, ltb-true, ltb-false, false≢true}
use Rattle.nb_ledger.specs.declared.object.Object.{Object}
use Rattle.nb_ledger.specs.declared.port.ObjId.{ObjId}
use Rattle.nb_ledger.specs.declared.port.PortState.{PortState}
use Rattle.nb_ledger.specs.declared.port.PortState.TheVariants as port
use Rattle.nb_ledger.specs.declared.event.GraphEvent.TheVariants.{LetGo}
use Rattle.nb_ledger.specs.Flat.{Heard, all}
use Rattle.nb_ledger.specs.GraphRun.{link_count}
use Rattle.nb_ledger.specs.Ledger.{Ledger, found, object_lives, port as port_in}
use Rattle.nb_graph.specs.Deeds.{Wants, told_of}
use Rattle.nb_graph.specs.Noded.{AreNoded}
use Rattle.nb_graph.specs.Went.{WentOne, all_of}
use Rattle.nb_graph.specs.Whole.{Objects, node_at}
use Rattle.nb_graph.proofs.HostLemmas.{stood}
use Rattle.nb_frames.specs.Frames.{is_one_of, graph_of, KeepsOthers}
use Rattle.nb_frames.specs.Within.{AreLinkedWithin, IsEventWithin, LeadsWithin, MakesNone}
use Rattle.nb_frames.proofs.FrameLemmas.{deeds_within, others_stay}
use Rattle.nb_frames.proofs.OwnLemmas.{AreThere, are_there, no_port}
use Rattle.nb_frames.proofs.OwnCallLemmas.{port_own}
use Rattle.nb_nodes.specs.declared.obj.Obj.{Obj}
use Rattle.nb_nodes.specs.Objects.{obj_nature, rank_of_obj}
use Rattle.nb_nodes.specs.Standing.{ObjStands}
use Rattle.nb_opens.specs.AloneNotices.{alone_freed}
use Rattle.nb_opens.specs.Alones.{IsShutLone}
use Rattle.nb_chains.specs.Calls.{ReleasesChain}
use Rattle.nb_chains.specs.Chains.{AreChained}
use Rattle.nb_chains.specs.Ends.{LivesUnlinked}
use Rattle.nb_chains.specs.Giving.{CallGives}
use Rattle.nb_chains.proofs.FreshOnes.{sole_in, sole_is}
use Rattle.nb_chains.proofs.GivingLemmas.{call_gives, events_within, known_call, known_notices}
use Rattle.nb_chains.proofs.NoMakes.{makes_none}
use Rattle.nb_chains.proofs.Releasing.{LetsGo, lets_one_go, no_links, four}
use Rattle.nb_chains.proofs.ShapesOf.{alone_freed_stays}

no_link : (own : ℕ → Bool) (v : PortState) → link_count v ≡ 0 → LeadsWithin own v
no_link own port.Open e = tt
no_link own (port.Linked q) e = absurd (omega (arith, e))
no_link own (port.Leaving q) e = absurd (omega (arith, e))
no_link own port.Closed e = tt

loose_port : (g : Objects Obj) (x k : ℕ) → ((k : ℕ) → k < 4 → link_count (port_in g.book x k) ≡ 0) → (j : Bool) → nat_lt k 4 ≡ j → link_count (port_in g.book x k) ≡ 0
loose_port g x k h true e = h k (ltb-true k 4 e)
loose_port g x k h false e = ap link_count (no_port g.book x k (ltb-false k 4 e))

loose_links : (g : Objects Obj) (x : ℕ) → LivesUnlinked g x → AreLinkedWithin (is_one_of (x ∷ [])) (port_in g.book)
loose_links g x l y k o =
    subst (λ (z : ℕ). LeadsWithin (is_one_of (x ∷ [])) (port_in g.book z k)) (sym (sole_is x y o)) (no_link (is_one_of (x ∷ [])) (port_in g.book x k) (loose_port g x k l.unlinked (nat_lt k 4) refl))

some_there : (os : List Object) (x : ℕ) → is_some (found os x) ≡ true → 1 ≤ length os
some_there [] x e = absurd (false≢true e)
some_there (o ∷ os) x e = omega arith

one_lives : (l : Ledger) (x : ℕ) → object_lives l x ≡ true → 1 ≤ length l.objects
unfolding object_lives
one_lives l x e = some_there l.objects x e

-- it is let go
module _ (g h : Objects Obj) (m n : Heard) (x : ObjId) (l : LivesUnlinked g x.0) (k : WentOne ObjStands obj_nature 0 (Wants (LetGo x) ∷ []) g h m n) where
  pub goes : LetsGo g h m n x.0
  goes = lets_one_go g h m n 0 x l.held (no_links g x.0 l.unlinked) k

  pub goes_others : KeepsOthers (is_one_of (x.0 ∷ [])) g h
  goes_others =
      let t = l.stands in
      others_stay obj_nature ObjStands 0 (Wants (LetGo x) ∷ []) g h m n (is_one_of (x.0 ∷ [])) (sole_in x.0, tt) (loose_links g x.0 l) k
      (λ y o. subst (λ (z : ℕ). MakesNone z (all_of k.deeds)) (sym (sole_is x.0 y o)) (makes_none x.0 t.0 (all_of k.deeds) (stood obj_nature ObjStands (node_at g) (node_at h) x.0 t.0 (all_of k.deeds) (λ i e. (t.1 i e).0) k.hosts (k.suits x.0 t.0 t.1))))

  pub goes_number : length h.book.objects + 1 ≡ length g.book.objects
  goes_number = let e = goes.number in let i = one_lives g.book x.0 l.lives in omega (arith, e, i)

  -- and what it gives
  pub goes_gives : CallGives (IsEventWithin (is_one_of (x.0 ∷ []))) g h m n (alone_freed x.0)
  goes_gives =
      let t = l.stands in
      let ds = all_of k.deeds in
      let w = deeds_within obj_nature ObjStands 0 (Wants (LetGo x) ∷ []) g h m n (is_one_of (x.0 ∷ [])) (sole_in x.0, tt) (loose_links g x.0 l) k
      (λ y o. subst (λ (z : ℕ). MakesNone z ds) (sym (sole_is x.0 y o)) (makes_none x.0 t.0 ds (stood obj_nature ObjStands (node_at g) (node_at h) x.0 t.0 ds (λ i e. (t.1 i e).0) k.hosts (k.suits x.0 t.0 t.1)))) in
      let known = known_call ObjStands obj_nature 0 (Wants (LetGo x) ∷ []) g h m n k [] (told_of ds) refl in
      let are : alone_freed x.0 ≡ told_of ds = known_notices (told_of ds) (alone_freed x.0) (lets_one_go g h (all []) (all (told_of ds)) 0 x l.held (no_links g x.0 l.unlinked) known).told in
      subst (CallGives (IsEventWithin (is_one_of (x.0 ∷ []))) g h m n) (sym are) (call_gives g h m n 0 (Wants (LetGo x) ∷ []) k (IsEventWithin (is_one_of (x.0 ∷ []))) (events_within (is_one_of (x.0 ∷ [])) ds w.0))

  pub is_gone : object_lives h.book x.0 ≡ false
  is_gone = goes.live x.0 ∙ rw (eq-eqb x.0 x.0 refl) refl

-- one alone
pub sole_loose : (g : Objects Obj) (x : ℕ) → AreNoded rank_of_obj g → AreChained g (x ∷ []) → IsShutLone (graph_of (x ∷ []) g) x → LivesUnlinked g x
sole_loose g x noded c s =
    let there : AreThere (x ∷ []) g = are_there (x ∷ []) g c.lives (λ y o. let i = noded y (c.lives y o) in (i.node, i.is_node)) in
    let at : (k : ℕ) → port_in g.book x k ≡ port_in (graph_of (x ∷ []) g).book x k = λ k. sym (port_own (x ∷ []) g there x k (sole_in x)) in
    record {
      given = c.given x (sole_in x);
      lives = c.lives x (sole_in x);
      held = c.held x (sole_in x);
      unlinked = four (λ k. link_count (port_in g.book x k) ≡ 0) (ap link_count (at 0 ∙ s.ports 0)) (ap link_count (at 1 ∙ s.ports 1)) (ap link_count (at 2 ∙ s.ports 2)) (ap link_count (at 3 ∙ s.ports 3));
      stands = c.stands x (sole_in x);
    }

pub sole_released : (g h : Objects Obj) (m n : Heard) (x : ObjId) → LivesUnlinked g x.0 → WentOne ObjStands obj_nature 0 (Wants (LetGo x) ∷ []) g h m n
    → ReleasesChain (record { top = x; below = None }) g h m n
sole_released g h m n x l k = record {
  gives = goes_gives g h m n x l k;
  released = record {
    gone = λ y o. ap (object_lives h.book) (sole_is x.0 y o) ∙ is_gone g h m n x l k;
    others = goes_others g h m n x l k;
    number = goes_number g h m n x l k;
    same_room = (goes g h m n x l k).room;
  };
  shape = alone_freed_stays x.0 x.0;
}

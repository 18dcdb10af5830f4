-- The objects of a chain are let go.
use Rattle.std.proofs.Common.{inl, inr, ◌≡◌, ℕ, ◌<◌, true, false, [], ◌∷◌, Option, Some, None, refl, sym, ap, ◌∙◌, subst, arith}
use Rattle.std.proofs.lemmas.Bool.{cases_eq, ne_eqb, false≢true}
use Rattle.nb_ledger.specs.declared.port.ObjId.{ObjId}
use Rattle.nb_ledger.specs.declared.event.GraphEvent.{GraphEvent}
use Rattle.nb_ledger.specs.declared.event.GraphEvent.TheVariants.{LetGo}
use Rattle.nb_ledger.specs.Flat.{Heard}
use Rattle.nb_ledger.specs.GraphRun.{link_count}
use Rattle.nb_ledger.specs.Ledger.{object_lives, port as port_in}
use Rattle.nb_graph.specs.Deeds.{Wants}
use Rattle.nb_graph.specs.Noded.{AreNoded}
use Rattle.nb_graph.specs.Went.{WentOne}
use Rattle.nb_graph.specs.Whole.{Objects}
use Rattle.nb_frames.specs.Frames.{is_one_of, graph_of, KeepsObject, KeepsOthers}
use Rattle.nb_frames.specs.Within.{IsEventWithin}
use Rattle.nb_frames.proofs.OwnLemmas.{AreThere, are_there}
use Rattle.nb_frames.proofs.OwnCallLemmas.{port_own}
use Rattle.nb_nodes.specs.declared.obj.Obj.{Obj}
use Rattle.nb_nodes.specs.Objects.{obj_nature, rank_of_obj}
use Rattle.nb_nodes.specs.Standing.{ObjStands}
use Rattle.nb_opens.specs.AloneNotices.{alone_freed}
use Rattle.nb_opens.specs.Pairs.{AreShut}
use Rattle.nb_chains.specs.declared.chain.Chain.{Chain}
use Rattle.nb_chains.specs.Calls.{ReleasesChain}
use Rattle.nb_chains.specs.Chains.{AreChained, IsReleased, IsShutBy, IsShutChain, below_ids, chain_ids}
use Rattle.nb_chains.specs.Ends.{AreUnlinked, HasNoLinks, LivesUnlinked}
use Rattle.nb_chains.proofs.FreshOnes.{sole_is}
use Rattle.nb_chains.proofs.GivingLemmas.{gives_both, gives_more, more_within}
use Rattle.nb_chains.proofs.GoingOn.{keeps_both}
use Rattle.nb_chains.proofs.OfTwo.{first_in, other_in, of_two}
use Rattle.nb_chains.proofs.ShapesOf.{freed_stays}
use Rattle.nb_chains.proofs.Releasing.{four}
use Rattle.nb_chains.proofs.LettingOneGo.{goes, goes_gives, goes_number, goes_others, is_gone, sole_loose, sole_released}

-- two
module _ (g : Objects Obj) (f t : ℕ) (noded : AreNoded rank_of_obj g) (c : AreChained g (f ∷ t ∷ [])) (s : AreShut (graph_of (f ∷ t ∷ []) g) f t) where
  there : AreThere (f ∷ t ∷ []) g
  there = are_there (f ∷ t ∷ []) g c.lives (λ y o. let i = noded y (c.lives y o) in (i.node, i.is_node))

  loose_at : (x : ℕ) → is_one_of (f ∷ t ∷ []) x ≡ true → ((k : ℕ) → k < 4 → link_count (port_in (graph_of (f ∷ t ∷ []) g).book x k) ≡ 0) → LivesUnlinked g x
  loose_at x o h = record {
    given = c.given x o;
    lives = c.lives x o;
    held = c.held x o;
    unlinked = λ k i. ap link_count (sym (port_own (f ∷ t ∷ []) g there x k o)) ∙ h k i;
    stands = c.stands x o;
  }

  pub first_loose : LivesUnlinked g f
  first_loose = loose_at f (first_in f t) (four (λ k. link_count (port_in (graph_of (f ∷ t ∷ []) g).book f k) ≡ 0) (ap link_count s.user) (ap link_count s.link) (ap link_count s.two.fetch_2) (ap link_count s.two.fetch_3))

  pub other_loose : LivesUnlinked g t
  other_loose = loose_at t (other_in f t) (four (λ k. link_count (port_in (graph_of (f ∷ t ∷ []) g).book t k) ≡ 0) (ap link_count s.back) (ap link_count s.below) (ap link_count s.two.tftp_2) (ap link_count s.two.tftp_3))

  pub both_loose : AreUnlinked g f t
  both_loose = record { different = λ e. let lt = s.two.older in omega (arith, e, lt); first = first_loose; other = other_loose }

-- what stays as it is stays loose
pub loose_kept : (g a : Objects Obj) (x : ℕ) → LivesUnlinked g x → KeepsObject g a x → a.book.made ≡ g.book.made → LivesUnlinked a x
loose_kept g a x l k e = record {
  given = let i = l.given in omega (arith, i, e);
  lives = k.live ∙ l.lives;
  held = k.held ∙ l.held;
  unlinked = λ j i. ap link_count (k.ports j) ∙ l.unlinked j i;
  stands = (l.stands.0, λ n i. l.stands.1 n (k.node n i));
}

module _ (g a h : Objects Obj) (m n o : Heard) (f t : ObjId) (both : AreUnlinked g f.0 t.0) (j : WentOne ObjStands obj_nature 0 (Wants (LetGo f) ∷ []) g a m n) where
  not_first : (y : ℕ) → (y ≡ f.0 → ⊥) → is_one_of (f.0 ∷ []) y ≡ false
  not_first y i = rw (ne_eqb y f.0 i) refl

  others_one : KeepsOthers (is_one_of (f.0 ∷ [])) g a
  others_one = goes_others g a m n f both.first j

  pub two : LivesUnlinked a t.0
  two = loose_kept g a t.0 both.other (others_one.others t.0 both.other.given (not_first t.0 both.different)) others_one.same_made

  -- the other one too
  module _ (k : WentOne ObjStands obj_nature 0 (Wants (LetGo t) ∷ []) a h n o) where
    others_two : KeepsOthers (is_one_of (t.0 ∷ [])) a h
    others_two = goes_others a h n o t two k

    apart_from : (y : ℕ) → is_one_of (f.0 ∷ t.0 ∷ []) y ≡ false → (is_one_of (f.0 ∷ []) y ≡ false) × (is_one_of (t.0 ∷ []) y ≡ false)
    apart_from y far = elim (cases_eq y f.0) [
      | inl e ↦ absurd (false≢true (sym far ∙ (ap (is_one_of (f.0 ∷ t.0 ∷ [])) e ∙ first_in f.0 t.0)))
      | inr i ↦ elim (cases_eq y t.0) [
        | inl e ↦ absurd (false≢true (sym far ∙ (ap (is_one_of (f.0 ∷ t.0 ∷ [])) e ∙ other_in f.0 t.0)))
        | inr j ↦ (rw (ne_eqb y f.0 i) refl, rw (ne_eqb y t.0 j) refl)
      ]
    ]

    released_two : IsReleased (record { top = f; below = Some t }) g h
    released_two = record {
      gone = of_two f.0 t.0 (λ (z : ℕ). object_lives h.book z ≡ false) ((goes a h n o t two k).live f.0 ∙ rw (ne_eqb f.0 t.0 (λ e. both.different (sym e))) (is_gone g a m n f both.first j)) (is_gone a h n o t two k);
      others = record {
        same_made = others_two.same_made ∙ others_one.same_made;
        others = λ y low far.
            let z = apart_from y far in
            keeps_both g a h y (others_one.others y low z.0) (others_two.others y (let e = others_one.same_made in omega (arith, low, e)) z.1);
      };
      number = let i = goes_number g a m n f both.first j in let l = goes_number a h n o t two k in omega (arith, i, l);
      same_room = (goes a h n o t two k).room ∙ (goes g a m n f both.first j).room;
    }

    in_both : (x : ℕ) → is_one_of (f.0 ∷ t.0 ∷ []) x ≡ true → (y : ℕ) → is_one_of (x ∷ []) y ≡ true → is_one_of (f.0 ∷ t.0 ∷ []) y ≡ true
    in_both x i y o = ap (is_one_of (f.0 ∷ t.0 ∷ [])) (sole_is x y o) ∙ i

    of_one : (x : ℕ) → is_one_of (f.0 ∷ t.0 ∷ []) x ≡ true → (e : GraphEvent) → IsEventWithin (is_one_of (x ∷ [])) e → IsEventWithin (is_one_of (f.0 ∷ t.0 ∷ [])) e
    of_one x i e q = more_within (is_one_of (x ∷ [])) (is_one_of (f.0 ∷ t.0 ∷ [])) (in_both x i) e q

    pub two_released : ReleasesChain (record { top = f; below = Some t }) g h m o
    two_released =
        let own = IsEventWithin (is_one_of (f.0 ∷ t.0 ∷ [])) in
        let one = gives_more (IsEventWithin (is_one_of (f.0 ∷ []))) own (of_one f.0 (first_in f.0 t.0)) g a m n (alone_freed f.0) (goes_gives g a m n f both.first j) in
        let other = gives_more (IsEventWithin (is_one_of (t.0 ∷ []))) own (of_one t.0 (other_in f.0 t.0)) a h n o (alone_freed t.0) (goes_gives a h n o t two k) in
        record { gives = gives_both own g a h m n o (alone_freed f.0) (alone_freed t.0) one other; released = released_two; shape = freed_stays f.0 t.0 }

-- no object of a chain that is shut has a link
pub shut_loose : (c : Chain) (g : Objects Obj) → AreNoded rank_of_obj g → AreChained g (chain_ids c) → IsShutChain c g → HasNoLinks c.below c.top.0 g
shut_loose c g noded = by c.below
  where
    by : (b : Option ObjId) → AreChained g (c.top.0 ∷ below_ids b) → IsShutBy b c.top.0 (graph_of (c.top.0 ∷ below_ids b) g) → HasNoLinks b c.top.0 g
    by None i s = sole_loose g c.top.0 noded i s
    by (Some t) i s = both_loose g c.top.0 t.0 noded i s

-- so its objects are let go: of one that has nothing below its top object
pub released_alone : (c : Chain) (g h : Objects Obj) (m n : Heard) → c.below ≡ None → LivesUnlinked g c.top.0 → WentOne ObjStands obj_nature 0 (Wants (LetGo c.top) ∷ []) g h m n
    → ReleasesChain c g h m n
released_alone c g h m n e l k =
    let goes : Option ObjId → Type 0 = λ b. ReleasesChain (record { top = c.top; below = b }) g h m n in
    subst goes (sym e) (sole_released g h m n c.top l k)

-- and of one that has
pub released_both : (c : Chain) (g h : Objects Obj) (m n : Heard) (t : ObjId) → c.below ≡ Some t → ReleasesChain (record { top = c.top; below = Some t }) g h m n → ReleasesChain c g h m n
released_both c g h m n t e k =
    let goes : Option ObjId → Type 0 = λ b. ReleasesChain (record { top = c.top; below = b }) g h m n in
    subst goes (sym e) k

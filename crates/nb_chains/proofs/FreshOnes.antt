-- An object that was just made, alone and as a graph of its own.
use Rattle.std.proofs.Common.{inl, inr, ◌≡◌, ℕ, ◌≤◌, Bool, true, false, List, [], ◌∷◌, None, refl, sym, ap, ◌∙◌, subst, arith, nat_lt, if◌then◌else◌}
use Rattle.std.specs.List.{AllByRecursion}
use Rattle.std.proofs.lemmas.Bool.{cases_eq, eq-eqb, ne_eqb, false≢true}
use Rattle.nb_ledger.specs.declared.port.ObjId.{ObjId}
use Rattle.nb_ledger.specs.declared.port.PortState.TheVariants as port
use Rattle.nb_ledger.specs.declared.event.GraphEvent.TheVariants.{Held}
use Rattle.nb_ledger.specs.Flat.{Heard}
use Rattle.nb_ledger.specs.GraphRun.{new_ports}
use Rattle.nb_ledger.specs.Ledger.{object_lives, holds, port as port_in}
use Rattle.nb_graph.specs.Deeds.{MustMake, Stage, Wants, events_of, told_of}
use Rattle.nb_graph.specs.Lived.{ObjectStands}
use Rattle.nb_graph.specs.Noded.{AreNoded}
use Rattle.nb_graph.specs.Went.{WentOne}
use Rattle.nb_graph.specs.Whole.{Objects, IsMade}
use Rattle.nb_frames.specs.Frames.{is_one_of, graph_of, KeepsObject}
use Rattle.nb_frames.specs.Within.{AreLinkedWithin, LeadsWithin}
use Rattle.nb_frames.proofs.MadeLemmas.{made_keeps}
use Rattle.nb_frames.proofs.OwnLemmas.{AreThere, own_lives, own_holds}
use Rattle.nb_frames.proofs.OwnCallLemmas.{port_own, node_back}
use Rattle.nb_nodes.specs.declared.load.Load.{Load}
use Rattle.nb_nodes.specs.declared.obj.Obj.{Obj}
use Rattle.nb_nodes.specs.Objects.{kind_of_obj, obj_nature, rank_of_obj, mark_of_obj}
use Rattle.nb_nodes.specs.Standing.{ObjStands}
use Rattle.nb_opens.specs.AloneNotices.{alone_made}
use Rattle.nb_opens.specs.Alones.{IsUnasked}
use Rattle.nb_chains.specs.Chains.{AreChained, GrowsBy, IsFresh}
use Rattle.nb_chains.specs.Giving.{CallGives, IsMakeWithin}
use Rattle.nb_chains.proofs.GivingLemmas.{call_gives}
use Rattle.nb_chains.proofs.MakingOne.{OneMade, made_all}

-- x is one of x alone, and only x is
pub sole_in : (x : ℕ) → is_one_of (x ∷ []) x ≡ true
sole_in x = rw (eq-eqb x x refl) refl

pub sole_is : (x y : ℕ) → is_one_of (x ∷ []) y ≡ true → y ≡ x
sole_is x y o = elim (cases_eq y x) [ inl e ↦ e | inr n ↦ absurd (false≢true (sym (rw (ne_eqb y x n) refl) ∙ o)) ]

-- no link leaves an open port, or a closed one
pub open_within : (own : ℕ → Bool) (k : ℕ) → LeadsWithin own (new_ports k)
open_within own k = pick (nat_lt k 4)
  where
    pick : (b : Bool) → LeadsWithin own (if b then port.Open else port.Closed)
    pick true = tt
    pick false = tt

pub fresh_links : (g : Objects Obj) (x r kind : ℕ) → IsFresh g x r kind → AreLinkedWithin (is_one_of (x ∷ [])) (port_in g.book)
fresh_links g x r kind f y k o =
    let e = sole_is x y o in
    subst (λ (z : ℕ). LeadsWithin (is_one_of (x ∷ [])) (port_in g.book z k)) (sym e) (subst (LeadsWithin (is_one_of (x ∷ []))) (sym (f.ports k)) (open_within (is_one_of (x ∷ [])) k))

pub fresh_chained : (g : Objects Obj) (x r kind : ℕ) → IsFresh g x r kind → AreChained g (x ∷ [])
fresh_chained g x r kind f = record {
  given = λ y o. subst (λ (z : ℕ). z ≤ g.book.made) (sym (sole_is x y o)) f.given;
  lives = λ y o. ap (object_lives g.book) (sole_is x y o) ∙ f.lives;
  held = λ y o. ap (holds g.book) (sole_is x y o) ∙ f.held;
  stands = λ y o. ([], subst (λ (z : ℕ). ObjectStands ObjStands g z []) (sym (sole_is x y o)) f.stands);
  links = fresh_links g x r kind f;
}

-- as a graph of its own it is ready
module _ (g : Objects Obj) (noded : AreNoded rank_of_obj g) (x r kind : ℕ) (f : IsFresh g x r kind) where
  sole_there : AreThere (x ∷ []) g
  sole_there = let n = noded x f.lives in (n.node, f.lives, n.is_node, tt)

  sole_others : (y : ℕ) → (y ≡ x → ⊥) → object_lives (graph_of (x ∷ []) g).book y ≡ false
  sole_others y n = own_lives g (x ∷ []) sole_there y ∙ rw (ne_eqb y x n) refl

  pub fresh_ready : IsUnasked (graph_of (x ∷ []) g) x kind
  fresh_ready = record {
    lone = record {
      last = refl;
      lives = own_lives g (x ∷ []) sole_there x ∙ rw (sole_in x) f.lives;
      others = sole_others;
      held = own_holds g (x ∷ []) sole_there x ∙ rw (sole_in x) f.held;
      ports = λ k. port_own (x ∷ []) g sole_there x k (sole_in x) ∙ f.ports k;
    };
    stands = λ n e. f.stands n (node_back (x ∷ []) g sole_there x n e).1;
    of_kind = λ n e. f.of_kind n (node_back (x ∷ []) g sole_there x n e).1;
  }

-- what was fresh stays fresh where it is as it was
pub fresh_kept : (g h : Objects Obj) (x r kind : ℕ) → IsFresh g x r kind → KeepsObject g h x → g.book.made ≤ h.book.made → IsFresh h x r kind
fresh_kept g h x r kind f k later = record {
  given = let low = f.given in omega (arith, low, later);
  lives = k.live ∙ f.lives;
  held = k.held ∙ f.held;
  ports = λ i. k.ports i ∙ f.ports i;
  ranked = k.ranked ∙ f.ranked;
  stands = λ n e. f.stands n (k.node n e);
  of_kind = λ n e. f.of_kind n (k.node n e);
}

-- one was made
module _ (g h : Objects Obj) (m n : Heard) (x : ObjId) (node : Obj) where
  pub made_fresh : OneMade g h x.0 node → IsFresh h x.0 (rank_of_obj node) (mark_of_obj node)
  made_fresh one = record {
    given = let e = one.made in omega (arith, e);
    lives = one.live x.0 ∙ rw (eq-eqb x.0 x.0 refl) refl;
    held = one.own;
    ports = λ k. one.ports x.0 k ∙ rw (eq-eqb x.0 x.0 refl) refl;
    ranked = one.at_rank;
    stands = one.begins;
    of_kind = one.own_mark;
  }

  pub one_grows : ObjStands node [] → IsMade g h node (rank_of_obj node) x → WentOne ObjStands obj_nature 0 (MustMake x node ∷ Wants (Held x) ∷ []) g h m n → (one : OneMade g h x.0 node) → GrowsBy 1 (record { top = x; below = None }) g h
  one_grows stands is k one = record {
    chained = fresh_chained h x.0 (rank_of_obj node) (mark_of_obj node) (made_fresh one);
    made = one.made ∙ is.serial;
    number = one.number;
    same_room = one.room;
    others = λ y low far. made_keeps obj_nature ObjStands 0 x node g h m n k y low;
  }

-- what the outside is given
module _ (g h : Objects Obj) (m n : Heard) (x : ObjId) (node : Obj) (k : WentOne ObjStands obj_nature 0 (MustMake x node ∷ Wants (Held x) ∷ []) g h m n) where
  pub made_gives : (own : ℕ → Bool) → own x.0 ≡ true → CallGives (IsMakeWithin own) g h m n (alone_made x.0 (kind_of_obj node))
  made_gives own o =
      let asks : List (Stage Obj Load) = MustMake x node ∷ Wants (Held x) ∷ [] in
      let all = made_all g h m n 0 x node k in
      subst (λ e. CallGives (IsMakeWithin own) g h m n (told_of e)) all (call_gives g h m n 0 asks k (IsMakeWithin own) (subst (λ e. AllByRecursion (IsMakeWithin own) (events_of e)) (sym all) (o, (o, tt))))

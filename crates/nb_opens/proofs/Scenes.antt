-- What is seen of the two objects of an open, and what closes leave of that.
use Rattle.std.proofs.Common.{◌≡◌, ℕ, ◌<◌, true, false, refl, ◌∙◌, subst, arith}
use Rattle.std.proofs.lemmas.Bool.{eq-eqb, ne_eqb}
use Rattle.nb_terms.specs.declared.cause.Cause.{Cause}
use Rattle.nb_ledger.specs.declared.port.PortState.{PortState}
use Rattle.nb_ledger.specs.declared.port.PortState.TheVariants.{Open, Linked, Closed as Shut}
use Rattle.nb_ledger.specs.declared.event.GraphEvent.TheVariants.{Closed, Unplugged}
use Rattle.nb_ledger.specs.GraphRun.{port_but}
use Rattle.nb_ledger.specs.Ledger.{holds, rank}
use Rattle.nb_graph.specs.Whole.{Objects, port_at}
use Rattle.nb_graph.specs.Scene.{Scene, scene_of, shut_of, after_noted}
use Rattle.nb_nodes.specs.declared.obj.Obj.{Obj}
use Rattle.nb_opens.specs.Pairs.{AreTwo, ArePlugged, AreShut}

-- Both live and nothing else does, their slots 2 and 3 are open, and the slots 0 and 1 of the Fetch and of the Tftp are so.
pub record Sees (s : Scene) (f t : ℕ) (user link back below : PortState) : Type 0 where
  pub older : f < t
  pub last : s.made ≡ t
  pub fetch_lives : s.live f ≡ true
  pub tftp_lives : s.live t ≡ true
  pub alone : (x : ℕ) → (x ≡ f → ⊥) → (x ≡ t → ⊥) → s.live x ≡ false
  pub fetch_0 : s.port f 0 ≡ user
  pub fetch_1 : s.port f 1 ≡ link
  pub fetch_2 : s.port f 2 ≡ Open
  pub fetch_3 : s.port f 3 ≡ Open
  pub tftp_0 : s.port t 0 ≡ back
  pub tftp_1 : s.port t 1 ≡ below
  pub tftp_2 : s.port t 2 ≡ Open
  pub tftp_3 : s.port t 3 ≡ Open

-- a port that was given a state, another slot of its object, and another object
here : (x k : ℕ) (v : PortState) (p : ℕ → ℕ → PortState) → port_but (port_at x k) v p x k ≡ v
here x k v p = rw (eq-eqb x x refl, eq-eqb k k refl) refl

beside : (x j k : ℕ) (v : PortState) (p : ℕ → ℕ → PortState) → (k ≡ j → ⊥) → port_but (port_at x j) v p x k ≡ p x k
beside x j k v p h = rw (eq-eqb x x refl, ne_eqb k j h) refl

away : (x y j k : ℕ) (v : PortState) (p : ℕ → ℕ → PortState) → (y ≡ x → ⊥) → port_but (port_at x j) v p y k ≡ p y k
away x y j k v p h = rw (ne_eqb y x h) refl

module _ (s : Scene) (f t : ℕ) (user link back below : PortState) (h : Sees s f t user link back below) where
  over-t : t ≡ f → ⊥
  over-t e = omega (arith, e, h.older)

  over-f : f ≡ t → ⊥
  over-f e = omega (arith, e, h.older)

  -- a port of the Fetch is given a state
  pub user_so : (v : PortState) → Sees (record s { port = port_but (port_at f 0) v s.port }) f t v link back below
  user_so v = record {
    older = h.older;
    last = h.last;
    fetch_lives = h.fetch_lives;
    tftp_lives = h.tftp_lives;
    alone = h.alone;
    fetch_0 = here f 0 v s.port;
    fetch_1 = beside f 0 1 v s.port (λ e. omega (arith, e)) ∙ h.fetch_1;
    fetch_2 = beside f 0 2 v s.port (λ e. omega (arith, e)) ∙ h.fetch_2;
    fetch_3 = beside f 0 3 v s.port (λ e. omega (arith, e)) ∙ h.fetch_3;
    tftp_0 = away f t 0 0 v s.port over-t ∙ h.tftp_0;
    tftp_1 = away f t 0 1 v s.port over-t ∙ h.tftp_1;
    tftp_2 = away f t 0 2 v s.port over-t ∙ h.tftp_2;
    tftp_3 = away f t 0 3 v s.port over-t ∙ h.tftp_3;
  }

  pub link_so : (v : PortState) → Sees (record s { port = port_but (port_at f 1) v s.port }) f t user v back below
  link_so v = record {
    older = h.older;
    last = h.last;
    fetch_lives = h.fetch_lives;
    tftp_lives = h.tftp_lives;
    alone = h.alone;
    fetch_0 = beside f 1 0 v s.port (λ e. omega (arith, e)) ∙ h.fetch_0;
    fetch_1 = here f 1 v s.port;
    fetch_2 = beside f 1 2 v s.port (λ e. omega (arith, e)) ∙ h.fetch_2;
    fetch_3 = beside f 1 3 v s.port (λ e. omega (arith, e)) ∙ h.fetch_3;
    tftp_0 = away f t 1 0 v s.port over-t ∙ h.tftp_0;
    tftp_1 = away f t 1 1 v s.port over-t ∙ h.tftp_1;
    tftp_2 = away f t 1 2 v s.port over-t ∙ h.tftp_2;
    tftp_3 = away f t 1 3 v s.port over-t ∙ h.tftp_3;
  }

  -- or one of the Tftp
  pub back_so : (v : PortState) → Sees (record s { port = port_but (port_at t 0) v s.port }) f t user link v below
  back_so v = record {
    older = h.older;
    last = h.last;
    fetch_lives = h.fetch_lives;
    tftp_lives = h.tftp_lives;
    alone = h.alone;
    fetch_0 = away t f 0 0 v s.port over-f ∙ h.fetch_0;
    fetch_1 = away t f 0 1 v s.port over-f ∙ h.fetch_1;
    fetch_2 = away t f 0 2 v s.port over-f ∙ h.fetch_2;
    fetch_3 = away t f 0 3 v s.port over-f ∙ h.fetch_3;
    tftp_0 = here t 0 v s.port;
    tftp_1 = beside t 0 1 v s.port (λ e. omega (arith, e)) ∙ h.tftp_1;
    tftp_2 = beside t 0 2 v s.port (λ e. omega (arith, e)) ∙ h.tftp_2;
    tftp_3 = beside t 0 3 v s.port (λ e. omega (arith, e)) ∙ h.tftp_3;
  }

  pub below_so : (v : PortState) → Sees (record s { port = port_but (port_at t 1) v s.port }) f t user link back v
  below_so v = record {
    older = h.older;
    last = h.last;
    fetch_lives = h.fetch_lives;
    tftp_lives = h.tftp_lives;
    alone = h.alone;
    fetch_0 = away t f 1 0 v s.port over-f ∙ h.fetch_0;
    fetch_1 = away t f 1 1 v s.port over-f ∙ h.fetch_1;
    fetch_2 = away t f 1 2 v s.port over-f ∙ h.fetch_2;
    fetch_3 = away t f 1 3 v s.port over-f ∙ h.fetch_3;
    tftp_0 = beside t 1 0 v s.port (λ e. omega (arith, e)) ∙ h.tftp_0;
    tftp_1 = here t 1 v s.port;
    tftp_2 = beside t 1 2 v s.port (λ e. omega (arith, e)) ∙ h.tftp_2;
    tftp_3 = beside t 1 3 v s.port (λ e. omega (arith, e)) ∙ h.tftp_3;
  }

  -- and so where it is closed
  pub user_closed : (c : Cause) → Sees (after_noted (Closed (port_at f 0) c) s) f t (shut_of user) link back below
  user_closed c = subst (λ z. Sees (after_noted (Closed (port_at f 0) c) s) f t (shut_of z) link back below) h.fetch_0 (user_so (shut_of (s.port f 0)))

  pub link_closed : (c : Cause) → Sees (after_noted (Closed (port_at f 1) c) s) f t user (shut_of link) back below
  link_closed c = subst (λ z. Sees (after_noted (Closed (port_at f 1) c) s) f t user (shut_of z) back below) h.fetch_1 (link_so (shut_of (s.port f 1)))

  pub back_closed : (c : Cause) → Sees (after_noted (Closed (port_at t 0) c) s) f t user link (shut_of back) below
  back_closed c = subst (λ z. Sees (after_noted (Closed (port_at t 0) c) s) f t user link (shut_of z) below) h.tftp_0 (back_so (shut_of (s.port t 0)))

  pub below_closed : (c : Cause) → Sees (after_noted (Closed (port_at t 1) c) s) f t user link back (shut_of below)
  below_closed c = subst (λ z. Sees (after_noted (Closed (port_at t 1) c) s) f t user link back (shut_of z)) h.tftp_1 (below_so (shut_of (s.port t 1)))

-- the link is unplugged, from its end below or above
pub up_unplugged : (s : Scene) (f t : ℕ) (user link back below : PortState) → Sees s f t user link back below → Sees (after_noted (Unplugged (port_at t 0) (port_at f 1)) s) f t user Shut Shut below
up_unplugged s f t user link back below h =
    link_so (record s { port = port_but (port_at t 0) Shut s.port }) f t user link Shut below (back_so s f t user link back below h Shut) Shut

pub down_unplugged : (s : Scene) (f t : ℕ) (user link back below : PortState) → Sees s f t user link back below → Sees (after_noted (Unplugged (port_at f 1) (port_at t 0)) s) f t user Shut Shut below
down_unplugged s f t user link back below h =
    back_so (record s { port = port_but (port_at f 1) Shut s.port }) f t user Shut back below (link_so s f t user link back below h Shut) Shut

-- what is seen of two that are joined
pub sees_joined : (g : Objects Obj) (f t : ℕ) → ArePlugged g f t → Sees (scene_of g.book) f t Open (Linked (port_at t 0)) (Linked (port_at f 1)) Open
sees_joined g f t j = record {
  older = j.two.older;
  last = j.two.last;
  fetch_lives = j.two.fetch_lives;
  tftp_lives = j.two.tftp_lives;
  alone = j.two.alone;
  fetch_0 = j.user;
  fetch_1 = j.link;
  fetch_2 = j.two.fetch_2;
  fetch_3 = j.two.fetch_3;
  tftp_0 = j.back;
  tftp_1 = j.below;
  tftp_2 = j.two.tftp_2;
  tftp_3 = j.two.tftp_3;
}

-- and of which two that is seen
pub two_seen : (h : Objects Obj) (f t : ℕ) (user link back below : PortState) → Sees (scene_of h.book) f t user link back below
    → holds h.book f ≡ 1 → holds h.book t ≡ 1 → rank h.book f ≡ 5 → rank h.book t ≡ 2 → AreTwo h f t
two_seen h f t user link back below s fh th fr tr = record {
  older = s.older;
  last = s.last;
  fetch_lives = s.fetch_lives;
  tftp_lives = s.tftp_lives;
  alone = s.alone;
  fetch_held = fh;
  tftp_held = th;
  fetch_rank = fr;
  tftp_rank = tr;
  fetch_2 = s.fetch_2;
  fetch_3 = s.fetch_3;
  tftp_2 = s.tftp_2;
  tftp_3 = s.tftp_3;
}

pub joined_seen : (h : Objects Obj) (f t : ℕ) → Sees (scene_of h.book) f t Open (Linked (port_at t 0)) (Linked (port_at f 1)) Open
    → holds h.book f ≡ 1 → holds h.book t ≡ 1 → rank h.book f ≡ 5 → rank h.book t ≡ 2 → ArePlugged h f t
joined_seen h f t s fh th fr tr = record {
  two = two_seen h f t Open (Linked (port_at t 0)) (Linked (port_at f 1)) Open s fh th fr tr;
  user = s.fetch_0;
  link = s.fetch_1;
  back = s.tftp_0;
  below = s.tftp_1;
}

pub shut_seen : (h : Objects Obj) (f t : ℕ) → Sees (scene_of h.book) f t Shut Shut Shut Shut
    → holds h.book f ≡ 1 → holds h.book t ≡ 1 → rank h.book f ≡ 5 → rank h.book t ≡ 2 → AreShut h f t
shut_seen h f t s fh th fr tr = record {
  two = two_seen h f t Shut Shut Shut Shut s fh th fr tr;
  user = s.fetch_0;
  link = s.fetch_1;
  back = s.tftp_0;
  below = s.tftp_1;
}

-- What is seen of the ports of the three objects of an open by HTTP, and what closes leave of that.
use Rattle.std.proofs.Common.{◌≡◌, ℕ, Bool, true, false, ap, ◌∙◌, arith}
use Rattle.nb_terms.specs.declared.cause.Cause.{Cause}
use Rattle.nb_ledger.specs.declared.port.Port.{Port}
use Rattle.nb_ledger.specs.declared.port.PortState.{PortState}
use Rattle.nb_ledger.specs.declared.port.PortState.TheVariants as port
use Rattle.nb_ledger.specs.declared.event.GraphEvent.TheVariants.{Closed, Unplugged}
use Rattle.nb_ledger.specs.GraphRun.{port_but}
use Rattle.nb_ledger.specs.Ledger.{open_count}
use Rattle.nb_graph.specs.Whole.{port_at}
use Rattle.nb_graph.specs.Scene.{Scene, shut_of, state_at, after_noted}
use Rattle.nb_closings.proofs.Keeping.{IsClosedAt}
use Rattle.nb_closings.proofs.PlanLemmas.{at_it, elsewhere, is_but}
use Rattle.nb_closings.proofs.PortSteps.{closes_there, stays_closed}

-- which are still open: the port to the user, the two links, and the port to the network
pub record View : Type 0 where
  pub user : Bool
  pub upper : Bool
  pub lower : Bool
  pub network : Bool

-- where nothing was closed
abbrev pub all_open : View
all_open = record { user = true; upper = true; lower = true; network = true }

-- a port is in this state, or is closed
abbrev pub OpenOr : Bool → PortState → Scene → Port → Type 0
OpenOr true v s p = state_at s p ≡ v
OpenOr false v s p = IsClosedAt s p

pub is_shut : (b : Bool) (u : PortState) (t : Scene) (r : Port) → b ≡ false → OpenOr b u t r → IsClosedAt t r
is_shut true u t r e o = absurd (let z = e in cc)
is_shut false u t r e o = o

as_shut : (b : Bool) (u : PortState) (t : Scene) (r : Port) → b ≡ false → IsClosedAt t r → OpenOr b u t r
as_shut true u t r e o = absurd (let z = e in cc)
as_shut false u t r e o = o

pub close_keeps : (b : Bool) (v : PortState) (s : Scene) (p q : Port) (c : Cause) → (q ≡ p → ⊥) → OpenOr b v s q → OpenOr b v (after_noted (Closed p c) s) q
close_keeps true v s p q c apart o = elim (is_but p (shut_of (state_at s p)) s.port q) [ at_it e i ↦ absurd (apart e) | elsewhere i ↦ i ∙ o ]
close_keeps false v s p q c apart o = stays_closed s p c q o

unplug_one : (b : Bool) (v : PortState) (s : Scene) (f : ℕ → ℕ → PortState) (p q : Port) → (q ≡ p → ⊥) → OpenOr b v (record s { port = f }) q → OpenOr b v (record s { port = port_but p port.Closed f }) q
unplug_one true v s f p q apart o = elim (is_but p port.Closed f q) [ at_it e i ↦ absurd (apart e) | elsewhere i ↦ i ∙ o ]
unplug_one false v s f p q apart o = elim (is_but p port.Closed f q) [ at_it e i ↦ ap open_count i | elsewhere i ↦ ap open_count i ∙ o ]

closed_one : (s : Scene) (f : ℕ → ℕ → PortState) (p q : Port) → IsClosedAt (record s { port = f }) q → IsClosedAt (record s { port = port_but p port.Closed f }) q
closed_one s f p q o = elim (is_but p port.Closed f q) [ at_it e i ↦ ap open_count i | elsewhere i ↦ ap open_count i ∙ o ]

pub unplug_keeps : (b : Bool) (v : PortState) (s : Scene) (p q r : Port) → (r ≡ p → ⊥) → (r ≡ q → ⊥) → OpenOr b v s r → OpenOr b v (after_noted (Unplugged p q) s) r
unplug_keeps b v s p q r one other o = unplug_one b v s (port_but p port.Closed s.port) q r other (unplug_one b v s s.port p r one o)

pub unplug_shut : (s : Scene) (p q r : Port) → IsClosedAt s r → IsClosedAt (after_noted (Unplugged p q) s) r
unplug_shut s p q r o = closed_one s (port_but p port.Closed s.port) q r (closed_one s s.port p r o)

pub other_slot : (y z j k : ℕ) → (j ≡ k → ⊥) → port_at y j ≡ port_at z k → ⊥
other_slot y z j k apart e = apart (ap (λ (p : Port). p.slot) e)

pub other_object : (y z j k : ℕ) → (y ≡ z → ⊥) → port_at y j ≡ port_at z k → ⊥
other_object y z j k apart e = apart (ap (λ (p : Port). p.obj.0) e)

-- The ports of the three, f, w and x, as they are seen.
pub record Sees (f w x : ℕ) (v : View) (s : Scene) : Type 0 where
  pub user : OpenOr v.user port.Open s (port_at f 0)
  pub top : OpenOr v.upper (port.Linked (port_at w 0)) s (port_at f 1)
  pub web_top : OpenOr v.upper (port.Linked (port_at f 1)) s (port_at w 0)
  pub web_low : OpenOr v.lower (port.Linked (port_at x 0)) s (port_at w 1)
  pub conn_top : OpenOr v.lower (port.Linked (port_at w 1)) s (port_at x 0)
  pub network : OpenOr v.network port.Open s (port_at x 1)

module _ (f w x : ℕ) (fw : f ≡ w → ⊥) (wx : w ≡ x → ⊥) (fx : f ≡ x → ⊥) where
  wf : w ≡ f → ⊥
  wf e = fw (omega (arith, e))

  xw : x ≡ w → ⊥
  xw e = wx (omega (arith, e))

  xf : x ≡ f → ⊥
  xf e = fx (omega (arith, e))

  module _ (v : View) (s : Scene) (c : Cause) (h : Sees f w x v s) where
    -- the port to the user is closed
    pub closes_user : Sees f w x (record v { user = false }) (after_noted (Closed (port_at f 0) c) s)
    closes_user = record {
      user = closes_there s (port_at f 0) c;
      top = close_keeps v.upper _ s (port_at f 0) (port_at f 1) c (other_slot f f 1 0 (λ e. omega (arith, e))) h.top;
      web_top = close_keeps v.upper _ s (port_at f 0) (port_at w 0) c (other_object w f 0 0 wf) h.web_top;
      web_low = close_keeps v.lower _ s (port_at f 0) (port_at w 1) c (other_object w f 1 0 wf) h.web_low;
      conn_top = close_keeps v.lower _ s (port_at f 0) (port_at x 0) c (other_object x f 0 0 xf) h.conn_top;
      network = close_keeps v.network _ s (port_at f 0) (port_at x 1) c (other_object x f 1 0 xf) h.network;
    }

    -- that to the network is
    pub closes_network : Sees f w x (record v { network = false }) (after_noted (Closed (port_at x 1) c) s)
    closes_network = record {
      user = close_keeps v.user _ s (port_at x 1) (port_at f 0) c (other_object f x 0 1 fx) h.user;
      top = close_keeps v.upper _ s (port_at x 1) (port_at f 1) c (other_object f x 1 1 fx) h.top;
      web_top = close_keeps v.upper _ s (port_at x 1) (port_at w 0) c (other_object w x 0 1 wx) h.web_top;
      web_low = close_keeps v.lower _ s (port_at x 1) (port_at w 1) c (other_object w x 1 1 wx) h.web_low;
      conn_top = close_keeps v.lower _ s (port_at x 1) (port_at x 0) c (other_slot x x 0 1 (λ e. omega (arith, e))) h.conn_top;
      network = closes_there s (port_at x 1) c;
    }

    -- both ends of the upper link are, from above
    pub closes_upper_down : Sees f w x (record v { upper = false }) (after_noted (Closed (port_at w 0) c) (after_noted (Closed (port_at f 1) c) s))
    closes_upper_down =
        let t = after_noted (Closed (port_at f 1) c) s in
        record {
          user = close_keeps v.user _ t (port_at w 0) (port_at f 0) c (other_object f w 0 0 fw) (close_keeps v.user _ s (port_at f 1) (port_at f 0) c (other_slot f f 0 1 (λ e. omega (arith, e))) h.user);
          top = stays_closed t (port_at w 0) c (port_at f 1) (closes_there s (port_at f 1) c);
          web_top = closes_there t (port_at w 0) c;
          web_low = close_keeps v.lower _ t (port_at w 0) (port_at w 1) c (other_slot w w 1 0 (λ e. omega (arith, e))) (close_keeps v.lower _ s (port_at f 1) (port_at w 1) c (other_object w f 1 1 wf) h.web_low);
          conn_top = close_keeps v.lower _ t (port_at w 0) (port_at x 0) c (other_object x w 0 0 xw) (close_keeps v.lower _ s (port_at f 1) (port_at x 0) c (other_object x f 0 1 xf) h.conn_top);
          network = close_keeps v.network _ t (port_at w 0) (port_at x 1) c (other_object x w 1 0 xw) (close_keeps v.network _ s (port_at f 1) (port_at x 1) c (other_object x f 1 1 xf) h.network);
        }

    -- from below
    pub closes_upper_up : Sees f w x (record v { upper = false }) (after_noted (Closed (port_at f 1) c) (after_noted (Closed (port_at w 0) c) s))
    closes_upper_up =
        let t = after_noted (Closed (port_at w 0) c) s in
        record {
          user = close_keeps v.user _ t (port_at f 1) (port_at f 0) c (other_slot f f 0 1 (λ e. omega (arith, e))) (close_keeps v.user _ s (port_at w 0) (port_at f 0) c (other_object f w 0 0 fw) h.user);
          top = closes_there t (port_at f 1) c;
          web_top = stays_closed t (port_at f 1) c (port_at w 0) (closes_there s (port_at w 0) c);
          web_low = close_keeps v.lower _ t (port_at f 1) (port_at w 1) c (other_object w f 1 1 wf) (close_keeps v.lower _ s (port_at w 0) (port_at w 1) c (other_slot w w 1 0 (λ e. omega (arith, e))) h.web_low);
          conn_top = close_keeps v.lower _ t (port_at f 1) (port_at x 0) c (other_object x f 0 1 xf) (close_keeps v.lower _ s (port_at w 0) (port_at x 0) c (other_object x w 0 0 xw) h.conn_top);
          network = close_keeps v.network _ t (port_at f 1) (port_at x 1) c (other_object x f 1 1 xf) (close_keeps v.network _ s (port_at w 0) (port_at x 1) c (other_object x w 1 0 xw) h.network);
        }

    -- both ends of the lower link are, from above
    pub closes_lower_down : Sees f w x (record v { lower = false }) (after_noted (Closed (port_at x 0) c) (after_noted (Closed (port_at w 1) c) s))
    closes_lower_down =
        let t = after_noted (Closed (port_at w 1) c) s in
        record {
          user = close_keeps v.user _ t (port_at x 0) (port_at f 0) c (other_object f x 0 0 fx) (close_keeps v.user _ s (port_at w 1) (port_at f 0) c (other_object f w 0 1 fw) h.user);
          top = close_keeps v.upper _ t (port_at x 0) (port_at f 1) c (other_object f x 1 0 fx) (close_keeps v.upper _ s (port_at w 1) (port_at f 1) c (other_object f w 1 1 fw) h.top);
          web_top = close_keeps v.upper _ t (port_at x 0) (port_at w 0) c (other_object w x 0 0 wx) (close_keeps v.upper _ s (port_at w 1) (port_at w 0) c (other_slot w w 0 1 (λ e. omega (arith, e))) h.web_top);
          web_low = stays_closed t (port_at x 0) c (port_at w 1) (closes_there s (port_at w 1) c);
          conn_top = closes_there t (port_at x 0) c;
          network = close_keeps v.network _ t (port_at x 0) (port_at x 1) c (other_slot x x 1 0 (λ e. omega (arith, e))) (close_keeps v.network _ s (port_at w 1) (port_at x 1) c (other_object x w 1 1 xw) h.network);
        }

    -- from below
    pub closes_lower_up : Sees f w x (record v { lower = false }) (after_noted (Closed (port_at w 1) c) (after_noted (Closed (port_at x 0) c) s))
    closes_lower_up =
        let t = after_noted (Closed (port_at x 0) c) s in
        record {
          user = close_keeps v.user _ t (port_at w 1) (port_at f 0) c (other_object f w 0 1 fw) (close_keeps v.user _ s (port_at x 0) (port_at f 0) c (other_object f x 0 0 fx) h.user);
          top = close_keeps v.upper _ t (port_at w 1) (port_at f 1) c (other_object f w 1 1 fw) (close_keeps v.upper _ s (port_at x 0) (port_at f 1) c (other_object f x 1 0 fx) h.top);
          web_top = close_keeps v.upper _ t (port_at w 1) (port_at w 0) c (other_slot w w 0 1 (λ e. omega (arith, e))) (close_keeps v.upper _ s (port_at x 0) (port_at w 0) c (other_object w x 0 0 wx) h.web_top);
          web_low = closes_there t (port_at w 1) c;
          conn_top = stays_closed t (port_at w 1) c (port_at x 0) (closes_there s (port_at x 0) c);
          network = close_keeps v.network _ t (port_at w 1) (port_at x 1) c (other_object x w 1 1 xw) (close_keeps v.network _ s (port_at x 0) (port_at x 1) c (other_slot x x 1 0 (λ e. omega (arith, e))) h.network);
        }

  -- the upper link is unplugged, which is closed
  pub unplugs_upper : (v : View) (s : Scene) (p q : Port) → ((r : Port) → (r ≡ port_at f 1 → ⊥) → (r ≡ port_at w 0 → ⊥) → (r ≡ p → ⊥) × (r ≡ q → ⊥)) → v.upper ≡ false → Sees f w x v s → Sees f w x v (after_noted (Unplugged p q) s)
  unplugs_upper v s p q theirs gone h = record {
    user = let a = theirs (port_at f 0) (other_slot f f 0 1 (λ e. omega (arith, e))) (other_object f w 0 0 fw) in unplug_keeps v.user _ s p q (port_at f 0) a.0 a.1 h.user;
    top = as_shut v.upper _ (after_noted (Unplugged p q) s) (port_at f 1) gone (unplug_shut s p q (port_at f 1) (is_shut v.upper _ s (port_at f 1) gone h.top));
    web_top = as_shut v.upper _ (after_noted (Unplugged p q) s) (port_at w 0) gone (unplug_shut s p q (port_at w 0) (is_shut v.upper _ s (port_at w 0) gone h.web_top));
    web_low = let a = theirs (port_at w 1) (other_object w f 1 1 wf) (other_slot w w 1 0 (λ e. omega (arith, e))) in unplug_keeps v.lower _ s p q (port_at w 1) a.0 a.1 h.web_low;
    conn_top = let a = theirs (port_at x 0) (other_object x f 0 1 xf) (other_object x w 0 0 xw) in unplug_keeps v.lower _ s p q (port_at x 0) a.0 a.1 h.conn_top;
    network = let a = theirs (port_at x 1) (other_object x f 1 1 xf) (other_object x w 1 0 xw) in unplug_keeps v.network _ s p q (port_at x 1) a.0 a.1 h.network;
  }

  -- the lower one is
  pub unplugs_lower : (v : View) (s : Scene) (p q : Port) → ((r : Port) → (r ≡ port_at w 1 → ⊥) → (r ≡ port_at x 0 → ⊥) → (r ≡ p → ⊥) × (r ≡ q → ⊥)) → v.lower ≡ false → Sees f w x v s → Sees f w x v (after_noted (Unplugged p q) s)
  unplugs_lower v s p q theirs gone h = record {
    user = let a = theirs (port_at f 0) (other_object f w 0 1 fw) (other_object f x 0 0 fx) in unplug_keeps v.user _ s p q (port_at f 0) a.0 a.1 h.user;
    top = let a = theirs (port_at f 1) (other_object f w 1 1 fw) (other_object f x 1 0 fx) in unplug_keeps v.upper _ s p q (port_at f 1) a.0 a.1 h.top;
    web_top = let a = theirs (port_at w 0) (other_slot w w 0 1 (λ e. omega (arith, e))) (other_object w x 0 0 wx) in unplug_keeps v.upper _ s p q (port_at w 0) a.0 a.1 h.web_top;
    web_low = as_shut v.lower _ (after_noted (Unplugged p q) s) (port_at w 1) gone (unplug_shut s p q (port_at w 1) (is_shut v.lower _ s (port_at w 1) gone h.web_low));
    conn_top = as_shut v.lower _ (after_noted (Unplugged p q) s) (port_at x 0) gone (unplug_shut s p q (port_at x 0) (is_shut v.lower _ s (port_at x 0) gone h.conn_top));
    network = let a = theirs (port_at x 1) (other_object x w 1 1 xw) (other_slot x x 1 0 (λ e. omega (arith, e))) in unplug_keeps v.network _ s p q (port_at x 1) a.0 a.1 h.network;
  }

-- How a drive ends: its unit closes its ports, or its session does, or the connection ends by itself; all is closed with the cause.
use Rattle.std.proofs.Common.{◌≡◌, ℕ, suc, ◌-◌, ◌&&◌, Bool, true, false, not, List, [], ◌∷◌, ◌++◌, Option, Some, None, refl, sym, ap, ◌∙◌, subst, append_assoc, append-nil, arith, nat_lt}
use Rattle.nb_terms.specs.declared.cause.Cause.{Cause}
use Rattle.nb_ledger.specs.declared.event.Way.TheVariants as way
use Rattle.nb_effects.specs.declared.effects.Fx.{Fx}
use Rattle.nb_graph.specs.Whole.{port_at}
use Rattle.nb_graph.specs.Trace.{Said, closed, silence}
use Rattle.nb_graph.specs.Deeds.{Deed, Stage, Holds, Closes, MustUnplug, runs_of}
use Rattle.nb_tcp.specs.ConnHistory.{closes_from_above, conn_entry}
use Rattle.nb_conns.specs.ConnEffects.{SaysNothing, downs_for}
use Rattle.nb_conns.specs.Dialogues.{Dialogue}
use Rattle.nb_drivenodes.specs.SessionTalks.{SessionTalk, SessionTalks, session_cut, session_ends, session_lives, session_rests}
use Rattle.nb_drivenodes.specs.UnitTalks.{UnitTalk, UnitTalks, unit_cut, unit_ends, unit_lives, unit_rests}
use Rattle.nb_nodes.specs.declared.load.Load.{Load}
use Rattle.nb_nodes.specs.declared.obj.Obj.{Obj}
use Rattle.nb_nodes.specs.Carriers.{text_carrier}
use Rattle.nb_nodes.specs.Objects.{obj_nature}
use Rattle.nb_opens.specs.Notices.{or_else}
use Rattle.nb_webtalks.proofs.Lowers.{IsBegun, had, regains_none}
use Rattle.nb_webtalks.proofs.Rising.{ClosingOf, told_a_close, told_none}
use Rattle.nb_webtalks.proofs.Uppers.{runs_silent}
use Rattle.nb_drivetalks.proofs.Lowers.{ClosedBelow, closes_too, conn_closed, is_over_already}
use Rattle.nb_drivetalks.proofs.Returning.{as_stages}
use Rattle.nb_drivetalks.proofs.Steps.{close_lower_up, close_network, close_upper_down, close_upper_up, close_user, left_by, session_rest, some_more, unit_rest, unplug_lower_up, unplug_upper_down, unplug_upper_up, weaker}
use Rattle.nb_drivetalks.proofs.Walking.{DriveCall, Walk, view}

-- All of it is closed with this cause, the connection as a close from above does, if it went on.
pub record Ended (c : DriveCall) (n : ℕ) (gs : List (Stage Obj Load)) (a : UnitTalk) (r : SessionTalk) (d : Dialogue) (ms us : List Said) (x : Cause) (ds : List (Deed Obj Load)) : Type 0 where
  pub at : Dialogue
  pub net : Bool
  pub told : List Said
  pub closing : ClosingOf d at net ms told
  pub walk : Walk c n (view false false false net) gs a r at told us (Some x) ds

module _ {c : DriveCall} {n : ℕ} {gs : List (Stage Obj Load)} {a : UnitTalk} {r : SessionTalk} {d : Dialogue} {ms us : List Said} {x : Cause} {ds : List (Deed Obj Load)} where
  pub ended_by : ClosedBelow c n false false gs a r d ms us x ds → Ended c n gs a r d ms us x ds
  ended_by (closes_too q acts behind talks asked grows silent off k) = record {
    at = q;
    net = false;
    told = ms ++ downs_for 0 acts;
    closing = told_a_close acts [] behind talks asked (grows ∙ append_assoc (had d) (conn_entry closes_from_above acts ∷ []) behind ∙ ap (λ z. z ++ conn_entry closes_from_above acts ∷ behind) (sym (append-nil (had d)))) refl silent off refl refl;
    walk = k;
  }
  ended_by (is_over_already off k) = record { at = d; net = true; told = ms; closing = told_none off (regains_none d) refl refl; walk = k }

  -- what is left to be done then is, in another form
  pub ended_as : (hs : List (Stage Obj Load)) → gs ≡ hs → Ended c n gs a r d ms us x ds → Ended c n hs a r d ms us x ds
  ended_as hs e k = record { at = k.at; net = k.net; told = k.told; closing = k.closing; walk = as_stages hs e k.walk }

  pub ended_less : {m : ℕ} → n ≡ suc m → Ended c m gs a r d ms us x ds → Ended c n gs a r d ms us x ds
  ended_less size k = record { at = k.at; net = k.net; told = k.told; closing = k.closing; walk = weaker (omega (arith, size)) k.walk }

  -- entries are left, and what is left of a message is dropped
  pub ended_session : (o : Option Said) → Ended c n (Holds (port_at c.session 1) way.Up o ∷ gs) a r d ms us x ds → Ended c n gs a r d ms us x ds
  ended_session o k = record { at = k.at; net = k.net; told = k.told; closing = k.closing; walk = session_rest o k.walk }

  pub ended_unit : (o : Option Said) → Ended c n (Holds (port_at c.unit 1) way.Up o ∷ gs) a r d ms us x ds → Ended c n gs a r d ms us x ds
  ended_unit o k = record { at = k.at; net = k.net; told = k.told; closing = k.closing; walk = unit_rest o k.walk }

not_dead : (b : Bool) → b ≡ true → not (b && true) ≡ true → ⊥
not_dead true e h = let z = h in cc
not_dead false e h = let z = e in cc

-- a live session hears of a close above it, or below
session_shut : (r q : SessionTalk) (slot : ℕ) (x : Cause) (now : ℕ) (fx : Fx Obj Load) → nat_lt slot 2 ≡ true → session_lives r ≡ true → SessionTalks {L = Load} text_carrier r (closed slot x now fx) q
    → (q ≡ session_cut) × SaysNothing fx × (fx.closes.items ≡ (1 - slot, x) ∷ [])
session_shut r _ slot x now fx low lives (session_ends _ _ cut hands) = (refl, hands.0, hands.1)
session_shut r _ slot x now fx low lives (session_rests _ _ quiet idle) = absurd (not_dead (session_lives r) lives (ap (λ b. not (session_lives r && b)) (sym low) ∙ quiet))

unit_shut : (u q : UnitTalk) (slot : ℕ) (x : Cause) (now : ℕ) (fx : Fx Obj Load) → nat_lt slot 2 ≡ true → unit_lives u ≡ true → UnitTalks {L = Load} text_carrier u (closed slot x now fx) q
    → (q ≡ unit_cut) × SaysNothing fx × (fx.closes.items ≡ (1 - slot, x) ∷ [])
unit_shut u _ slot x now fx low lives (unit_ends _ _ cut hands) = (refl, hands.0, hands.1)
unit_shut u _ slot x now fx low lives (unit_rests _ _ quiet idle) = absurd (not_dead (unit_lives u) lives (ap (λ b. not (unit_lives u && b)) (sym low) ∙ quiet))

module _ {c : DriveCall} {n : ℕ} {gs : List (Stage Obj Load)} {a : UnitTalk} {r : SessionTalk} {d : Dialogue} {ms us : List Said} {x : Cause} {ds : List (Deed Obj Load)} where
  closed_from : {z : Option Cause} → or_else (or_else z (Some x)) (Some x) ≡ Some x → session_lives r ≡ true → IsBegun d → Walk c n (view false true true true) (Closes (port_at c.unit 1) x ∷ gs) a r d ms us z ds
      → Ended c n gs a session_cut d ms us x ds
  closed_from {z = z} is lives b k =
      let s = some_more k in
      let w = close_upper_down s.0 s.1 k in
      let h = session_shut r w.1 0 x c.now w.0 refl lives w.2 in
      let hs : List (Stage Obj Load) = Holds (port_at c.session 0) way.Close None ∷ MustUnplug (port_at c.unit 1) (port_at c.session 0) ∷ gs in
      let one : Walk c s.0 (view false false true true) (runs_of obj_nature c.session silence true w.0 ++ hs) a session_cut d ms us (Some x) ds =
      subst (λ y. Walk c s.0 (view false false true true) (runs_of obj_nature c.session silence true w.0 ++ hs) a session_cut d ms us y ds) is
      (subst (λ y. Walk c s.0 (view false false true true) (runs_of obj_nature c.session silence true w.0 ++ hs) a y d ms us (or_else (or_else z (Some x)) (Some x)) ds) h.0 w.3) in
      let two = conn_closed b (as_stages (Closes (port_at c.session 1) x ∷ hs) (ap (λ (y : List (Stage Obj Load)). y ++ hs) (runs_silent c.session silence w.0 ((1, x) ∷ []) h.1 h.2)) one) in
      let e = ended_by two in
      ended_less s.1 (record { at = e.at; net = e.net; told = e.told; closing = e.closing; walk = unplug_upper_down (left_by e.walk) })

  -- the link between the unit and the session is closed from above, after the port to the user, which may have been in another call
  pub closed_down : session_lives r ≡ true → IsBegun d → Walk c n (view false true true true) (Closes (port_at c.unit 1) x ∷ gs) a r d ms us (Some x) ds → Ended c n gs a session_cut d ms us x ds
  closed_down lives b k = closed_from refl lives b k

  pub closed_below : session_lives r ≡ true → IsBegun d → Walk c n (view false true true true) (Closes (port_at c.unit 1) x ∷ gs) a r d ms us None ds → Ended c n gs a session_cut d ms us x ds
  closed_below lives b k = closed_from refl lives b k

  -- the unit closes its ports
  pub unit_closes : session_lives r ≡ true → IsBegun d → Walk c n (view true true true true) (Closes (port_at c.unit 0) x ∷ Closes (port_at c.unit 1) x ∷ gs) a r d ms us None ds → Ended c n gs a session_cut d ms us x ds
  unit_closes lives b k = closed_down lives b (close_user k)

  -- the session does, which shuts all above it first
  pub session_shuts : unit_lives a ≡ true → Walk c n (view true true true true) (Closes (port_at c.session 0) x ∷ Closes (port_at c.session 1) x ∷ gs) a r d ms us None ds
      → Walk c n (view false false true true) (Closes (port_at c.session 1) x ∷ gs) unit_cut r d ms us (Some x) ds
  session_shuts lives k =
      let w = close_upper_up k in
      let h = unit_shut a w.1 1 x c.now w.0 refl lives w.2 in
      let hs : List (Stage Obj Load) = Holds (port_at c.unit 1) way.Close None ∷ MustUnplug (port_at c.session 0) (port_at c.unit 1) ∷ Closes (port_at c.session 1) x ∷ gs in
      let one : Walk c n (view true false true true) (runs_of obj_nature c.unit silence true w.0 ++ hs) unit_cut r d ms us (Some x) ds =
      subst (λ z. Walk c n (view true false true true) (runs_of obj_nature c.unit silence true w.0 ++ hs) z r d ms us (Some x) ds) h.0 w.3 in
      let two = close_user (as_stages (Closes (port_at c.unit 0) x ∷ hs) (ap (λ (z : List (Stage Obj Load)). z ++ hs) (runs_silent c.unit silence w.0 ((0, x) ∷ []) h.1 h.2)) one) in
      unplug_upper_up (left_by two)

  pub session_closes : unit_lives a ≡ true → IsBegun d → Walk c n (view true true true true) (Closes (port_at c.session 0) x ∷ Closes (port_at c.session 1) x ∷ gs) a r d ms us None ds → Ended c n gs unit_cut r d ms us x ds
  session_closes lives b k = ended_by (conn_closed b (session_shuts lives k))

  -- the connection ends by itself
  pub conn_ends : unit_lives a ≡ true → session_lives r ≡ true → Walk c n (view true true true true) (Closes (port_at c.conn 0) x ∷ Closes (port_at c.conn 1) x ∷ gs) a r d ms us None ds
      → Walk c n (view false false false false) gs unit_cut session_cut d ms us (Some x) ds
  conn_ends unit_on session_on k =
      let s = some_more k in
      let w = close_lower_up s.0 s.1 k in
      let h = session_shut r w.1 1 x c.now w.0 refl session_on w.2 in
      let hs : List (Stage Obj Load) = Holds (port_at c.session 1) way.Close None ∷ MustUnplug (port_at c.conn 0) (port_at c.session 1) ∷ Closes (port_at c.conn 1) x ∷ gs in
      let one : Walk c s.0 (view true true false true) (runs_of obj_nature c.session silence true w.0 ++ hs) a session_cut d ms us (Some x) ds =
      subst (λ z. Walk c s.0 (view true true false true) (runs_of obj_nature c.session silence true w.0 ++ hs) a z d ms us (Some x) ds) h.0 w.3 in
      let v = close_upper_up (as_stages (Closes (port_at c.session 0) x ∷ hs) (ap (λ (z : List (Stage Obj Load)). z ++ hs) (runs_silent c.session silence w.0 ((0, x) ∷ []) h.1 h.2)) one) in
      let g = unit_shut a v.1 1 x c.now v.0 refl unit_on v.2 in
      let js : List (Stage Obj Load) = Holds (port_at c.unit 1) way.Close None ∷ MustUnplug (port_at c.session 0) (port_at c.unit 1) ∷ hs in
      let two : Walk c s.0 (view true false false true) (runs_of obj_nature c.unit silence true v.0 ++ js) unit_cut session_cut d ms us (Some x) ds =
      subst (λ z. Walk c s.0 (view true false false true) (runs_of obj_nature c.unit silence true v.0 ++ js) z session_cut d ms us (Some x) ds) g.0 v.3 in
      let three = close_user (as_stages (Closes (port_at c.unit 0) x ∷ js) (ap (λ (z : List (Stage Obj Load)). z ++ js) (runs_silent c.unit silence v.0 ((0, x) ∷ []) g.1 g.2)) two) in
      weaker (let y = s.1 in omega (arith, y)) (close_network (unplug_lower_up (left_by (unplug_upper_up (left_by three)))))

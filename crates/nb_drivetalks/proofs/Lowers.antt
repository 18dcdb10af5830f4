-- What the connection does in a call: what it sends down, what comes back to it, and how it hears of a close.
use Rattle.std.proofs.Common.{◌≡◌, ℕ, ◌&&◌, Bool, true, false, not, List, [], ◌∷◌, ◌++◌, length, map, nat_lt, Option, Some, None, refl, sym, ap, ◌∙◌, subst, append_assoc, append-nil, arith}
use Rattle.std.specs.List.{AllByRecursion}
use Rattle.std.proofs.lemmas.Bool.{false≢true, lt-ltb}
use Rattle.nb_terms.specs.declared.acts.Acts.{Acts}
use Rattle.nb_terms.specs.declared.cause.Cause.{Cause}
use Rattle.nb_ledger.specs.declared.event.Way.TheVariants as way
use Rattle.nb_effects.specs.declared.effects.Emit.{Emit}
use Rattle.nb_effects.specs.declared.effects.Few.{Few}
use Rattle.nb_effects.specs.declared.effects.Fx.{Fx}
use Rattle.nb_graph.specs.Whole.{port_at}
use Rattle.nb_graph.specs.Trace.{Said, carried, closed, in_list, loads, regain, silence}
use Rattle.nb_graph.specs.Deeds.{Deed, Stage, Holds, Closes, MustUnplug, Sends, emit_of, few_of, returns_of, runs_of, said_of}
use Rattle.nb_tcp.specs.ConnHistory.{ConnEntry, closes_from_above, comes_back, conn_entry, tcp_calls}
use Rattle.nb_tcp.specs.Replies.{only_ready}
use Rattle.nb_conns.specs.declared.conn_load.Lent.{Lent}
use Rattle.nb_conns.specs.ConnEffects.{GoesBelow, downs_for, emit_says, emits_of, few_say}
use Rattle.nb_conns.specs.ConnLoads.{window_of_conn, windows_in}
use Rattle.nb_conns.specs.Dialogues.{Converses, Dialogue, unopened, talking, closed_off, given_up, ends_short, has_back, is_closed, is_cut, is_quiet, is_talking, is_window, rests_still}
use Rattle.nb_nodes.specs.declared.load.Load.{Load}
use Rattle.nb_nodes.specs.declared.obj.Obj.{Obj}
use Rattle.nb_nodes.specs.Carriers.{conn_carrier}
use Rattle.nb_nodes.specs.Objects.{obj_nature}
use Rattle.nb_drivenodes.specs.SessionTalks.{SessionTalk}
use Rattle.nb_drivenodes.specs.UnitTalks.{UnitTalk}
use Rattle.nb_webtalks.proofs.Scenes.{View}
use Rattle.nb_webtalks.proofs.Lowers.{IsBegun, OwesTo, Regains, asked_at, had, owes_nothing, regains_both, regains_none, runs_down, said_same}
use Rattle.nb_drivetalks.proofs.Walking.{DriveCall, Walk, view}
use Rattle.nb_drivetalks.proofs.Steps.{close_lower_down, close_network, conn_returns, left_by, send_network, unplug_lower_down}
use Rattle.nb_webtalks.proofs.Uppers.{runs_silent}
use Rattle.nb_drivetalks.proofs.Returning.{as_stages}

no_window : (ws : List Lent) → nat_lt 0 (length ws) ≡ false → ws ≡ []
no_window [] h = refl
no_window (w ∷ ws) h = absurd (false≢true (sym h ∙ lt-ltb 0 (length (w ∷ ws)) (omega arith)))

not_both : (a b : Bool) → not (a && b) ≡ true → a ≡ true → b ≡ false
not_both true true h on = absurd (let z = h in cc)
not_both true false h on = refl
not_both false b h on = absurd (let z = on in cc)

-- a load comes back
returned_one : (d q : Dialogue) (l : Load) (ls : List Load) → Converses {N = Obj} conn_carrier d (regain l) q → OwesTo (l ∷ ls) d → Regains d q × OwesTo ls q
returned_one _ _ l ls (has_back a start calls lent load is) owes = (
  record { asked = refl; talks = refl; begun = λ b. b; more = conn_entry comes_back (only_ready false) ∷ []; grows = refl; silent = refl; holds = refl },
  λ on. let e : lent ∷ windows_in conn_carrier ls ≡ lent ∷ [] = sym (ap (λ z. z ++ windows_in conn_carrier ls) is) ∙ owes refl in cc,
)
returned_one d _ l ls (ends_short _ _ cut hands) owes = absurd (let z = cut in cc)
returned_one d _ l ls (rests_still _ _ quiet idle) owes = (
  regains_none d,
  λ on. sym (ap (λ z. z ++ windows_in conn_carrier ls) (no_window (window_of_conn (conn_carrier.as_conn l)) (not_both (is_talking d) (is_window conn_carrier l) quiet on))) ∙ owes on,
)

-- What was sent, and where it is then.
pub record Sent (c : DriveCall) (n : ℕ) (v : View) (gs : List (Stage Obj Load)) (a : UnitTalk) (r : SessionTalk) (d : Dialogue) (ms us : List Said) (z : Option Cause) (ds : List (Deed Obj Load)) (others : List Load) (says : List Said) : Type 0 where
  pub now_at : Dialogue
  pub regains : Regains d now_at
  pub owes : OwesTo others now_at
  pub walk : Walk c n v gs a r now_at (ms ++ says) us z ds

pub conn_all_returns : {c : DriveCall} {n : ℕ} {v : View} {gs : List (Stage Obj Load)} {a : UnitTalk} {r : SessionTalk} {ms us : List Said} {z : Option Cause} {ds : List (Deed Obj Load)} (ls others : List Load) (d : Dialogue)
    → OwesTo (ls ++ others) d → Walk c n v (returns_of c.conn ls ++ gs) a r d ms us z ds → (q : Dialogue) × Regains d q × OwesTo others q × Walk c n v gs a r q ms us z ds
conn_all_returns [] others d owes k = (d, regains_none d, owes, k)
conn_all_returns (l ∷ ls) others d owes k =
    let y = conn_returns k in
    let one = returned_one d y.0 l (ls ++ others) y.1 owes in
    let rest = conn_all_returns ls others y.0 one.1 y.2 in
    (rest.0, regains_both one.0 rest.1, rest.2, rest.3)

module _ {c : DriveCall} {n : ℕ} {u p l : Bool} {gs : List (Stage Obj Load)} {a : UnitTalk} {r : SessionTalk} {d : Dialogue} {ms us : List Said} {z : Option Cause} {ds : List (Deed Obj Load)} where
  emit_below : (m : Said) (others : List Load) (o : Option (Emit Load)) → AllByRecursion GoesBelow (in_list o) → OwesTo (carried o ++ others) d → Walk c n (view u p l true) (emit_of obj_nature c.conn m o ++ gs) a r d ms us z ds
      → Sent c n (view u p l true) gs a r d ms us z ds others (map (emit_says conn_carrier m) (in_list o))
  emit_below m others None below owes k = record { now_at = d; regains = regains_none d; owes = owes; walk = subst (λ x. Walk c n (view u p l true) gs a r d x us z ds) (sym (append-nil ms)) k }
  emit_below m others (Some e) below owes k =
      let hs : List (Stage Obj Load) = returns_of c.conn (in_list e.load) ++ gs in
      let one = send_network (as_stages (Sends (port_at c.conn 1) (emit_says conn_carrier m e) ∷ hs) (ap (λ s. Sends (port_at c.conn s) (said_of obj_nature m e) ∷ hs) below.0 ∙ ap (λ x. Sends (port_at c.conn 1) x ∷ hs) (said_same m e)) k) in
      let two = conn_all_returns (in_list e.load) others d owes one in
      record { now_at = two.0; regains = two.1; owes = two.2; walk = two.3 }

all_parts : {A : Type 0} (P : A → Type 0) (xs ys : List A) → AllByRecursion P (xs ++ ys) → AllByRecursion P xs × AllByRecursion P ys
all_parts P [] ys h = (tt, h)
all_parts P (x ∷ xs) ys h = let r = all_parts P xs ys h.1 in ((h.0, r.0), r.1)

map_parts : {A B : Type 0} (f : A → B) (xs ys : List A) → map f (xs ++ ys) ≡ map f xs ++ map f ys
map_parts f [] ys = refl
map_parts f (x ∷ xs) ys = ap (λ z. f x ∷ z) (map_parts f xs ys)

module _ {c : DriveCall} {n : ℕ} {u p l : Bool} {gs : List (Stage Obj Load)} {a : UnitTalk} {r : SessionTalk} {d : Dialogue} {ms us : List Said} {z : Option Cause} {ds : List (Deed Obj Load)} where
  -- the messages of an entry go down
  pub few_below : (m : Said) (others : List Load) (f : Few (Emit Load)) → AllByRecursion GoesBelow (emits_of f) → OwesTo (loads f ++ others) d → Walk c n (view u p l true) (few_of obj_nature c.conn m f ++ gs) a r d ms us z ds
      → Sent c n (view u p l true) gs a r d ms us z ds others (few_say conn_carrier m f)
  few_below m others f below owes k =
      let b = all_parts GoesBelow (in_list f.first) (in_list f.second) below in
      let one = emit_below m (carried f.second ++ others) f.first b.0 (subst (λ x. OwesTo x d) (append_assoc (carried f.first) (carried f.second) others) owes)
      (as_stages (emit_of obj_nature c.conn m f.first ++ (emit_of obj_nature c.conn m f.second ++ gs)) (append_assoc (emit_of obj_nature c.conn m f.first) (emit_of obj_nature c.conn m f.second) gs) k) in
      let two = emit_below m others f.second b.1 one.owes one.walk in
      let says = emit_says conn_carrier m in
      record {
        now_at = two.now_at;
        regains = regains_both one.regains two.regains;
        owes = two.owes;
        walk = subst (λ x. Walk c n (view u p l true) gs a r two.now_at x us z ds)
            (append_assoc ms (map says (in_list f.first)) (map says (in_list f.second)) ∙ ap (λ x. ms ++ x) (sym (map_parts says (in_list f.first) (in_list f.second)))) two.walk;
      }

-- HOW IT HEARS OF A CLOSE

abbrev after_hearing : DriveCall → List (Stage Obj Load) → List (Stage Obj Load)
after_hearing c gs = Holds (port_at c.conn 0) way.Close None ∷ MustUnplug (port_at c.session 1) (port_at c.conn 0) ∷ gs

-- Its link was closed from above: it sends what a close does, and closes its port below; or it has ended already.
pub data ClosedBelow (c : DriveCall) (n : ℕ) (u p : Bool) (gs : List (Stage Obj Load)) (a : UnitTalk) (r : SessionTalk) (d : Dialogue) (ms us : List Said) (y : Cause) (ds : List (Deed Obj Load)) : Type 0 where
  closes_too : (q : Dialogue) (acts : Acts) (more : List ConnEntry) → is_talking d ≡ true → asked_at q ≡ asked_at d → had q ≡ (had d ++ conn_entry closes_from_above acts ∷ []) ++ more → tcp_calls more ≡ [] → is_talking q ≡ false
      → Walk c n (view u p false false) gs a r q (ms ++ downs_for 0 acts) us (Some y) ds → ClosedBelow c n u p gs a r d ms us y ds
  is_over_already : is_talking d ≡ false → Walk c n (view u p false true) gs a r d ms us (Some y) ds → ClosedBelow c n u p gs a r d ms us y ds

never_cut : (d : Dialogue) (x : Cause) (now : ℕ) (fx : Fx Obj Load) → IsBegun d → is_cut d (closed 0 x now fx) ≡ true → ⊥
never_cut unopened x now fx b h = b
never_cut (talking a start calls out) x now fx b h = let z = h in cc
never_cut (closed_off a start calls) x now fx b h = let z = h in cc
never_cut given_up x now fx b h = let z = h in cc

quiet_over : (d : Dialogue) (x : Cause) (now : ℕ) (fx : Fx Obj Load) → IsBegun d → is_quiet conn_carrier d (closed 0 x now fx) ≡ true → is_talking d ≡ false
quiet_over unopened x now fx b h = absurd b
quiet_over (talking a start calls out) x now fx b h = absurd (let z = h in cc)
quiet_over (closed_off a start calls) x now fx b h = refl
quiet_over given_up x now fx b h = refl

module _ {c : DriveCall} {n : ℕ} {u p : Bool} {gs : List (Stage Obj Load)} {a : UnitTalk} {r : SessionTalk} {ms us : List Said} {y : Cause} {ds : List (Deed Obj Load)} where
  hears_it : (x : Cause) (d q : Dialogue) (fx : Fx Obj Load) → IsBegun d → Converses conn_carrier d (closed 0 x c.now fx) q
      → Walk c n (view u p false true) (runs_of obj_nature c.conn silence true fx ++ (after_hearing c gs)) a r q ms us (Some y) ds → ClosedBelow c n u p gs a r d ms us y ds
  hears_it x d q fx b (ends_short _ _ cut hands) k = absurd (never_cut d x c.now fx b cut)
  hears_it x d _ fx b (rests_still _ _ quiet idle) k =
      is_over_already (quiet_over d x c.now fx b quiet) (unplug_lower_down (left_by (as_stages (after_hearing c gs) (ap (λ (z : List (Stage Obj Load)). z ++ (after_hearing c gs)) (runs_silent c.conn silence fx [] idle.0 idle.1)) k)))
  hears_it x _ _ fx b (is_closed b0 start calls out _ _ _ acts effects) k =
      let q0 : Dialogue = closed_off b0 start (calls ++ conn_entry closes_from_above acts ∷ []) in
      let hs : List (Stage Obj Load) = Closes (port_at c.conn 1) x ∷ (after_hearing c gs) in
      let one = few_below silence [] fx.downs effects.below (owes_nothing (loads fx.downs ++ []) q0 refl)
      (as_stages (few_of obj_nature c.conn silence fx.downs ++ hs)
      (ap (λ (z : List (Stage Obj Load)). z ++ (after_hearing c gs)) (runs_down (emit_says conn_carrier silence) c.conn silence fx ((1, x) ∷ []) effects.no_make effects.ups effects.closes)
      ∙ append_assoc (few_of obj_nature c.conn silence fx.downs) (Closes (port_at c.conn 1) x ∷ []) (after_hearing c gs)) k) in
      closes_too one.now_at acts one.regains.more refl one.regains.asked one.regains.grows one.regains.silent one.regains.talks
      (subst (λ z. Walk c n (view u p false false) gs a r one.now_at (ms ++ z) us (Some y) ds) effects.downs (unplug_lower_down (left_by (close_network one.walk))))

  pub conn_closed : {d : Dialogue} {x : Cause} → IsBegun d → Walk c n (view u p true true) (Closes (port_at c.session 1) x ∷ gs) a r d ms us (Some y) ds → ClosedBelow c n u p gs a r d ms us y ds
  conn_closed {d = d} {x = x} b k = let w = close_lower_down k in hears_it x d w.1 w.0 b w.2 w.3

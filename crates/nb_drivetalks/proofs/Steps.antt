-- What each thing that a call on a drive asks for becomes.
use Rattle.std.proofs.Common.{◌≡◌, inl, inr, ℕ, zero, suc, ◌<◌, ◌≤◌, ◌==◌, ◌&&◌, Bool, true, false, List, [], ◌∷◌, ◌++◌, length, min, max, Option, Some, None, refl, sym, ap, ◌∙◌, subst, append_assoc, append-nil, arith}
use Rattle.std.proofs.lemmas.Bool.{eq-eqb}
use Rattle.nb_terms.specs.declared.cause.Cause.{Cause}
use Rattle.nb_ledger.specs.declared.port.Port.{Port}
use Rattle.nb_ledger.specs.declared.port.PortState.{PortState}
use Rattle.nb_ledger.specs.declared.port.PortState.TheVariants as port
use Rattle.nb_ledger.specs.declared.event.Way.{Way}
use Rattle.nb_ledger.specs.declared.event.Way.TheVariants as way
use Rattle.nb_ledger.specs.declared.event.GraphEvent.TheVariants.{Entered, Left, Dropped, Closed, Unplugged}
use Rattle.nb_ledger.specs.GraphRun.{IsOpen}
use Rattle.nb_ledger.specs.Ledger.{open_count}
use Rattle.nb_effects.specs.declared.effects.Fx.{Fx}
use Rattle.nb_graph.specs.Whole.{port_at}
use Rattle.nb_graph.specs.Trace.{Said, up, down, closed, time, regain, silence}
use Rattle.nb_graph.specs.Deeds.{Deed, writes, calls, turns, goes_out, arrives, stays, is_shut, Stage, Holds, Closes, Sends, Offers, Ticks, Returns, MustUnplug, Settles, events_of, told_of, rest, runs_of, settles_by}
use Rattle.nb_graph.specs.Scene.{Scene, state_at, after_noted}
use Rattle.nb_graph.specs.Follows.{UsesStack, takes, drops_rest, passes, leaves, drops, enters_up, enters_down}
use Rattle.nb_graph.specs.Laws.{CallsThen}
use Rattle.nb_graph.proofs.Laws.{close_open, close_shut, close_link, send_open, send_shut, offer_up, offer_down, send_down, tick_live, returned, entry_ends, settled, unplugged_then, rest_shut, nothing}
use Rattle.nb_conns.specs.Dialogues.{Dialogue, Converses}
use Rattle.nb_nodes.specs.declared.load.Load.{Load}
use Rattle.nb_nodes.specs.declared.obj.Obj.{Obj}
use Rattle.nb_nodes.specs.Carriers.{conn_carrier, text_carrier}
use Rattle.nb_nodes.specs.Objects.{obj_nature}
use Rattle.nb_opens.specs.Notices.{first_close, or_else}
use Rattle.nb_webtalks.specs.Tellings.{messages_of}
use Rattle.nb_opens.proofs.HoldLemmas.{NotFreed}
use Rattle.nb_drivenodes.specs.SessionTalks.{SessionTalk, SessionTalks, session_ends, session_rests}
use Rattle.nb_drivenodes.specs.UnitTalks.{UnitTalk, UnitTalks, unit_ends, unit_rests}
use Rattle.nb_webtalks.proofs.Scenes.{View, closes_user, closes_network, closes_upper_down, closes_upper_up, closes_lower_down, closes_lower_up, unplugs_upper, unplugs_lower}
use Rattle.nb_drivetalks.proofs.Walking.{DriveCall, Told, Walk, lower, outer, upper, view, told_event, told_close, told_turn, told_message, told_handed, told_unit, told_session, told_conn}
use Rattle.nb_drivetalks.specs.Tellings.{goes_up, told_above, told_below}

or_none : (z : Option Cause) → or_else z None ≡ z
or_none None = refl
or_none (Some x) = refl

-- a load that comes back to the session changes nothing, nor one to the unit
session_regained : (r q : SessionTalk) (l : Load) → SessionTalks {N = Obj} text_carrier r (regain l) q → q ≡ r
session_regained r _ l (session_ends _ _ cut hands) = absurd (let y = cut in cc)
session_regained r _ l (session_rests _ _ quiet asks) = refl

unit_regained : (r q : UnitTalk) (l : Load) → UnitTalks {N = Obj} text_carrier r (regain l) q → q ≡ r
unit_regained r _ l (unit_ends _ _ cut hands) = absurd (let y = cut in cc)
unit_regained r _ l (unit_rests _ _ quiet asks) = refl

-- a message by another slot than the top one doesn't go up
and_off : (b : Bool) → (b && false) ≡ false
and_off true = refl
and_off false = refl

not_above : (c : DriveCall) → goes_up c.unit (port_at c.conn 1) ≡ false
not_above c = and_off (c.conn == c.unit)

above_it : (c : DriveCall) → goes_up c.unit (port_at c.unit 0) ≡ true
above_it c = ap (λ b. b && true) (eq-eqb c.unit c.unit refl)

-- a message that stands at an open port is given to its node
given_in : (now : ℕ) (s t : Scene) (p : Port) (m : Said) (gs : List (Stage Obj Load)) (ds : List (Deed Obj Load)) → IsOpen (state_at s p) → UsesStack obj_nature now s (Holds p way.Up (Some m) ∷ gs) ds t
    → CallsThen obj_nature now s (λ done fx. up p.slot m now done fx) p way.Up m (λ done fx. rest m done fx) gs ds t
given_in now s t p m gs [] o h = absurd h
given_in now s t _ m gs (_ ∷ ds) o (_, takes x slot _ done fx e, h) = (done, fx, (ds, refl, subst (λ z. UsesStack obj_nature now s z ds t) (append_assoc (runs_of obj_nature x m done fx) (Holds (port_at x slot) way.Up (rest m done fx) ∷ []) gs) h))
given_in now s t p m gs (_ ∷ ds) o (_, drops_rest _ _ e, h) = absurd (open_shut (state_at s p) o e)
  where
    open_shut : (y : PortState) → IsOpen y → open_count y ≡ 0 → ⊥
    open_shut port.Open i j = absurd (omega (arith, j))
    open_shut (port.Linked q) i j = absurd (omega (arith, j))
    open_shut (port.Leaving q) i j = absurd i
    open_shut port.Closed i j = absurd i

-- what a message over a link comes to: it stands at the other end
abbrev Crosses : ℕ → Scene → Scene → Port → Said → List (Stage Obj Load) → List (Deed Obj Load) → Port → Type 0
Crosses now s t p m gs ds q = (es : List (Deed Obj Load)) × (ds ≡ turns (arrives p q) ∷ (writes (Entered q way.Up) ∷ es)) × UsesStack obj_nature now s (Holds q way.Up (Some m) ∷ gs) es t

crossed : (now : ℕ) (s t : Scene) (p q : Port) (m : Said) (gs : List (Stage Obj Load)) (ds : List (Deed Obj Load)) → state_at s p ≡ port.Linked q → 1 ≤ q.slot → UsesStack obj_nature now s (Sends p m ∷ gs) ds t → Crosses now s t p m gs ds q
crossed now s t p q m gs [] o i h = absurd h
crossed now s t p q m gs (_ ∷ ds) o i (_, leaves _ _ e, h) = absurd (let z = sym o ∙ e in cc)
crossed now s t p q m gs (_ ∷ ds) o i (_, drops _ _ e, h) = absurd (let z = sym (ap open_count o) ∙ e in cc)
crossed now s t p q m gs (_ ∷ []) o i (_, passes _ r _ e, h) = absurd h
crossed now s t p q m gs (_ ∷ (_ ∷ ds)) o i (_, passes _ r _ e, (_, enters_up _ _ j f, h)) =
    let z : port.Linked q ≡ port.Linked r = sym o ∙ e in
    let same : r ≡ q = cc in
    subst (Crosses now s t p m gs (turns (arrives p r) ∷ (writes (Entered r way.Up) ∷ ds))) same (ds, refl, h)
crossed now s t p q m gs (_ ∷ (_ ∷ ds)) o i (_, passes _ r _ e, (_, enters_down _ _ j f, h)) =
    let z : port.Linked q ≡ port.Linked r = sym o ∙ e in
    let same : r ≡ q = cc in
    absurd (let low = ap (λ (y : Port). y.slot) same in omega (arith, i, j, low))

module _ {c : DriveCall} {n : ℕ} {gs : List (Stage Obj Load)} {a : UnitTalk} {r : SessionTalk} {d : Dialogue} {ms us : List Said} {z : Option Cause} {ds : List (Deed Obj Load)} where
  -- fewer deeds than a greater number
  pub weaker : {m : ℕ} {v : View} → m ≤ n → Walk c m v gs a r d ms us z ds → Walk c n v gs a r d ms us z ds
  weaker less k = record {
    left = k.left;
    scene = k.scene;
    sees = k.sees;
    told = record { says = k.told.says; hands = k.told.hands; closes = k.told.closes; tail = k.told.tail; few = let f = k.told.few in omega (arith, f, less) };
    uses = k.uses;
  }

  -- fewer than some
  pub some_more : {v : View} → Walk c n v gs a r d ms us z ds → (m : ℕ) × (n ≡ suc m)
  some_more k = above n k.told.few
    where
      above : (y : ℕ) → length k.left < y → (m : ℕ) × (y ≡ suc m)
      above zero f = absurd (omega (arith, f))
      above (suc m) f = (m, refl)

  told_as : {v : View} (k : Walk c n v gs a r d ms us z ds) (es : List (Deed Obj Load)) → k.left ≡ es → Told c n a r d ms us z ds es
  told_as k es is = subst (Told c n a r d ms us z ds) is k.told
  -- PORTS WITHOUT A LINK

module _ {c : DriveCall} {n : ℕ} {gs : List (Stage Obj Load)} {a : UnitTalk} {r : SessionTalk} {d : Dialogue} {ms us : List Said} {z : Option Cause} {ds : List (Deed Obj Load)} where
  pub close_user : {p l e : Bool} {x : Cause} → Walk c n (view true p l e) (Closes (port_at c.unit 0) x ∷ gs) a r d ms us z ds → Walk c n (view false p l e) gs a r d ms us (or_else z (Some x)) ds
  close_user {p = p} {l = l} {e = e} {x = x} k =
      let y = close_open obj_nature c.now k.scene c.end (port_at c.unit 0) x gs k.left k.sees.user k.uses in
      record {
        left = y.0;
        scene = after_noted (Closed (port_at c.unit 0) x) k.scene;
        sees = closes_user c.unit c.session c.conn (upper c) (lower c) (outer c) (view true p l e) k.scene x k.sees;
        told = told_close (told_as k (writes (Closed (port_at c.unit 0) x) ∷ y.0) y.1);
        uses = y.2;
      }

  pub close_network : {u p l : Bool} {x : Cause} → Walk c n (view u p l true) (Closes (port_at c.conn 1) x ∷ gs) a r d ms us z ds → Walk c n (view u p l false) gs a r d ms us (or_else z (Some x)) ds
  close_network {u = u} {p = p} {l = l} {x = x} k =
      let y = close_open obj_nature c.now k.scene c.end (port_at c.conn 1) x gs k.left k.sees.network k.uses in
      record {
        left = y.0;
        scene = after_noted (Closed (port_at c.conn 1) x) k.scene;
        sees = closes_network c.unit c.session c.conn (upper c) (lower c) (outer c) (view u p l true) k.scene x k.sees;
        told = told_close (told_as k (writes (Closed (port_at c.conn 1) x) ∷ y.0) y.1);
        uses = y.2;
      }

  -- a port that is closed already
  shut_at : {v : View} (p : Port) {x : Cause} → (k : Walk c n v (Closes p x ∷ gs) a r d ms us z ds) → open_count (state_at k.scene p) ≡ 0 → Walk c n v gs a r d ms us z ds
  shut_at p {x = x} k is =
      let y = close_shut obj_nature c.now k.scene c.end p x gs k.left is k.uses in
      record { left = y.0; scene = k.scene; sees = k.sees; told = told_turn refl (told_as k (turns (is_shut p) ∷ y.0) y.1); uses = y.2 }

  pub shut_user : {p l e : Bool} {x : Cause} → Walk c n (view false p l e) (Closes (port_at c.unit 0) x ∷ gs) a r d ms us z ds → Walk c n (view false p l e) gs a r d ms us z ds
  shut_user k = shut_at (port_at c.unit 0) k k.sees.user

  pub shut_network : {u p l : Bool} {x : Cause} → Walk c n (view u p l false) (Closes (port_at c.conn 1) x ∷ gs) a r d ms us z ds → Walk c n (view u p l false) gs a r d ms us z ds
  shut_network k = shut_at (port_at c.conn 1) k k.sees.network

  pub shut_session_top : {u l e : Bool} {x : Cause} → Walk c n (view u false l e) (Closes (port_at c.session 0) x ∷ gs) a r d ms us z ds → Walk c n (view u false l e) gs a r d ms us z ds
  shut_session_top k = shut_at (port_at c.session 0) k k.sees.web_top

  pub shut_conn_top : {u p e : Bool} {x : Cause} → Walk c n (view u p false e) (Closes (port_at c.conn 0) x ∷ gs) a r d ms us z ds → Walk c n (view u p false e) gs a r d ms us z ds
  shut_conn_top k = shut_at (port_at c.conn 0) k k.sees.conn_top

  -- a message to the network
  pub send_network : {u p l : Bool} {m : Said} → Walk c n (view u p l true) (Sends (port_at c.conn 1) m ∷ gs) a r d ms us z ds → Walk c n (view u p l true) gs a r d (ms ++ m ∷ []) us z ds
  send_network {m = m} k =
      let y = send_open obj_nature c.now k.scene c.end (port_at c.conn 1) m gs k.left k.sees.network k.uses in
      record { left = y.0; scene = k.scene; sees = k.sees; told = told_message (not_above c) (told_as k (turns (goes_out (port_at c.conn 1) m) ∷ y.0) y.1); uses = y.2 }

  -- one that is handed up to the user
  pub send_user : {p l e : Bool} {m : Said} → Walk c n (view true p l e) (Sends (port_at c.unit 0) m ∷ gs) a r d ms us z ds → Walk c n (view true p l e) gs a r d ms (us ++ m ∷ []) z ds
  send_user {m = m} k =
      let y = send_open obj_nature c.now k.scene c.end (port_at c.unit 0) m gs k.left k.sees.user k.uses in
      record { left = y.0; scene = k.scene; sees = k.sees; told = told_handed (above_it c) (told_as k (turns (goes_out (port_at c.unit 0) m) ∷ y.0) y.1); uses = y.2 }

  -- or one at a closed port
  drop_at : {v : View} (p : Port) {m : Said} → (k : Walk c n v (Sends p m ∷ gs) a r d ms us z ds) → open_count (state_at k.scene p) ≡ 0 → Walk c n v gs a r d ms us z ds
  drop_at p {m = m} k is =
      let y = send_shut obj_nature c.now k.scene c.end p m gs k.left is k.uses in
      record { left = y.0; scene = k.scene; sees = k.sees; told = told_event refl (told_as k (writes (Dropped p) ∷ y.0) y.1); uses = y.2 }

  pub drop_session_top : {u l e : Bool} {m : Said} → Walk c n (view u false l e) (Sends (port_at c.session 0) m ∷ gs) a r d ms us z ds → Walk c n (view u false l e) gs a r d ms us z ds
  drop_session_top k = drop_at (port_at c.session 0) k k.sees.web_top

  pub drop_conn_top : {u p e : Bool} {m : Said} → Walk c n (view u p false e) (Sends (port_at c.conn 0) m ∷ gs) a r d ms us z ds → Walk c n (view u p false e) gs a r d ms us z ds
  drop_conn_top k = drop_at (port_at c.conn 0) k k.sees.conn_top

  -- ENTRIES THAT END

  -- an object stays, since it is held
  settle : {v : View} (x : ℕ) → ((es : List (Deed Obj Load)) → NotFreed x (events_of es) → NotFreed x (events_of es)) → (k : Walk c n v (Settles x ∷ gs) a r d ms us z ds) → NotFreed x (events_of k.left) → Walk c n v gs a r d ms us z ds
  settle x same k free = elim (settled obj_nature c.now k.scene c.end (record { 0 = x }) gs k.left k.uses) [
    | inl y ↦ absurd ((subst (λ w. NotFreed x (events_of w)) y.1 free).0 refl)
    | inr y ↦ record { left = y.0; scene = k.scene; sees = k.sees; told = told_turn refl (told_as k (turns (stays x) ∷ y.0) y.1); uses = y.2 }
  ]

  pub unit_settles : {v : View} → Walk c n v (Settles c.unit ∷ gs) a r d ms us z ds → Walk c n v gs a r d ms us z ds
  unit_settles k = settle c.unit (λ es h. h) k k.told.tail.unit_stays

  pub session_settles : {v : View} → Walk c n v (Settles c.session ∷ gs) a r d ms us z ds → Walk c n v gs a r d ms us z ds
  session_settles k = settle c.session (λ es h. h) k k.told.tail.session_stays

  pub conn_settles : {v : View} → Walk c n v (Settles c.conn ∷ gs) a r d ms us z ds → Walk c n v gs a r d ms us z ds
  conn_settles k = settle c.conn (λ es h. h) k k.told.tail.conn_stays

  pub left_by : {v : View} {p : Port} {by : Way} → Walk c n v (Holds p by None ∷ gs) a r d ms us z ds → Walk c n v (settles_by by p.obj.0 ++ gs) a r d ms us z ds
  left_by {p = p} {by = by} k =
      let y = entry_ends obj_nature c.now k.scene c.end p by gs k.left k.uses in
      record { left = y.0; scene = k.scene; sees = k.sees; told = told_event refl (told_as k (writes (Left p) ∷ y.0) y.1); uses = y.2 }

module _ {c : DriveCall} {n : ℕ} {gs : List (Stage Obj Load)} {a : UnitTalk} {r : SessionTalk} {d : Dialogue} {ms us : List Said} {z : Option Cause} {ds : List (Deed Obj Load)} where
  -- what is left of a message to the session, whose port is closed
  pub session_rest : {u p e : Bool} (o : Option Said) → Walk c n (view u p false e) (Holds (port_at c.session 1) way.Up o ∷ gs) a r d ms us z ds → Walk c n (view u p false e) gs a r d ms us z ds
  session_rest None k = session_settles (left_by k)
  session_rest (Some m) k =
      let y = rest_shut obj_nature c.now k.scene c.end (port_at c.session 1) m gs k.left k.sees.web_low k.uses in
      session_settles (left_by (record { left = y.0; scene = k.scene; sees = k.sees; told = told_event refl (told_as k (writes (Dropped (port_at c.session 1)) ∷ y.0) y.1); uses = y.2 }))

  -- or to the unit
  pub unit_rest : {u l e : Bool} (o : Option Said) → Walk c n (view u false l e) (Holds (port_at c.unit 1) way.Up o ∷ gs) a r d ms us z ds → Walk c n (view u false l e) gs a r d ms us z ds
  unit_rest None k = unit_settles (left_by k)
  unit_rest (Some m) k =
      let y = rest_shut obj_nature c.now k.scene c.end (port_at c.unit 1) m gs k.left k.sees.top k.uses in
      unit_settles (left_by (record { left = y.0; scene = k.scene; sees = k.sees; told = told_event refl (told_as k (writes (Dropped (port_at c.unit 1)) ∷ y.0) y.1); uses = y.2 }))

  -- LOADS THAT COME BACK

  pub session_returns : {v : View} {l : Load} → Walk c n v (Returns c.session l ∷ gs) a r d ms us z ds → Walk c n v gs a r d ms us z ds
  session_returns {v = v} {l = l} k =
      let y = returned obj_nature c.now k.scene c.end c.session l gs k.left k.uses in
      let m = some_more k in
      let t = told_session m.0 m.1 (told_as k (calls c.session (regain l) ∷ y.0) y.1) in
      subst (λ q. Walk c n v gs a q d ms us z ds) (session_regained r t.0 l t.1)
      (weaker (let s = m.1 in omega (arith, s)) (record { left = y.0; scene = k.scene; sees = k.sees; told = t.2; uses = y.2 }))

  pub unit_returns : {v : View} {l : Load} → Walk c n v (Returns c.unit l ∷ gs) a r d ms us z ds → Walk c n v gs a r d ms us z ds
  unit_returns {v = v} {l = l} k =
      let y = returned obj_nature c.now k.scene c.end c.unit l gs k.left k.uses in
      let t = told_unit (told_as k (calls c.unit (regain l) ∷ y.0) y.1) in
      subst (λ q. Walk c n v gs q r d ms us z ds) (unit_regained a t.0 l t.1) (record { left = y.0; scene = k.scene; sees = k.sees; told = t.2; uses = y.2 })

  pub conn_returns : {v : View} {l : Load} → Walk c n v (Returns c.conn l ∷ gs) a r d ms us z ds → (q : Dialogue) × Converses {N = Obj} conn_carrier d (regain l) q × Walk c n v gs a r q ms us z ds
  conn_returns {l = l} k =
      let y = returned obj_nature c.now k.scene c.end c.conn l gs k.left k.uses in
      let t = told_conn (told_as k (calls c.conn (regain l) ∷ y.0) y.1) in
      (t.0, t.1, record { left = y.0; scene = k.scene; sees = k.sees; told = t.2; uses = y.2 })

  -- THE LINKS ARE UNPLUGGED

  pub unplug_upper_up : {u l e : Bool} → Walk c n (view u false l e) (MustUnplug (port_at c.session 0) (port_at c.unit 1) ∷ gs) a r d ms us z ds → Walk c n (view u false l e) gs a r d ms us z ds
  unplug_upper_up {u = u} {l = l} {e = e} k =
      let y = unplugged_then obj_nature c.now k.scene c.end (port_at c.session 0) (port_at c.unit 1) gs k.left k.uses in
      let low : min c.session c.unit ≡ c.unit = let o = c.session_later in omega (arith, o) in
      let high : max c.session c.unit ≡ c.session = let o = c.session_later in omega (arith, o) in
      let w : Walk c n (view u false l e) (Settles (min c.session c.unit) ∷ Settles (max c.session c.unit) ∷ gs) a r d ms us z ds = record {
        left = y.0;
        scene = after_noted (Unplugged (port_at c.session 0) (port_at c.unit 1)) k.scene;
        sees = unplugs_upper c.unit c.session c.conn (upper c) (lower c) (outer c) (view u false l e) k.scene (port_at c.session 0) (port_at c.unit 1) (λ p i j. (j, i)) refl k.sees;
        told = told_event refl (told_as k (writes (Unplugged (port_at c.session 0) (port_at c.unit 1)) ∷ y.0) y.1);
        uses = y.2;
      } in
      session_settles (unit_settles (subst (λ x. Walk c n (view u false l e) (Settles x ∷ Settles c.session ∷ gs) a r d ms us z ds) low (subst (λ x. Walk c n (view u false l e) (Settles (min c.session c.unit) ∷ Settles x ∷ gs) a r d ms us z ds) high w)))

  pub unplug_upper_down : {u l e : Bool} → Walk c n (view u false l e) (MustUnplug (port_at c.unit 1) (port_at c.session 0) ∷ gs) a r d ms us z ds → Walk c n (view u false l e) gs a r d ms us z ds
  unplug_upper_down {u = u} {l = l} {e = e} k =
      let y = unplugged_then obj_nature c.now k.scene c.end (port_at c.unit 1) (port_at c.session 0) gs k.left k.uses in
      let low : min c.unit c.session ≡ c.unit = let o = c.session_later in omega (arith, o) in
      let high : max c.unit c.session ≡ c.session = let o = c.session_later in omega (arith, o) in
      let w : Walk c n (view u false l e) (Settles (min c.unit c.session) ∷ Settles (max c.unit c.session) ∷ gs) a r d ms us z ds = record {
        left = y.0;
        scene = after_noted (Unplugged (port_at c.unit 1) (port_at c.session 0)) k.scene;
        sees = unplugs_upper c.unit c.session c.conn (upper c) (lower c) (outer c) (view u false l e) k.scene (port_at c.unit 1) (port_at c.session 0) (λ p i j. (i, j)) refl k.sees;
        told = told_event refl (told_as k (writes (Unplugged (port_at c.unit 1) (port_at c.session 0)) ∷ y.0) y.1);
        uses = y.2;
      } in
      session_settles (unit_settles (subst (λ x. Walk c n (view u false l e) (Settles x ∷ Settles c.session ∷ gs) a r d ms us z ds) low (subst (λ x. Walk c n (view u false l e) (Settles (min c.unit c.session) ∷ Settles x ∷ gs) a r d ms us z ds) high w)))

  pub unplug_lower_up : {u p e : Bool} → Walk c n (view u p false e) (MustUnplug (port_at c.conn 0) (port_at c.session 1) ∷ gs) a r d ms us z ds → Walk c n (view u p false e) gs a r d ms us z ds
  unplug_lower_up {u = u} {p = p} {e = e} k =
      let y = unplugged_then obj_nature c.now k.scene c.end (port_at c.conn 0) (port_at c.session 1) gs k.left k.uses in
      let low : min c.conn c.session ≡ c.session = let o = c.conn_later in omega (arith, o) in
      let high : max c.conn c.session ≡ c.conn = let o = c.conn_later in omega (arith, o) in
      let w : Walk c n (view u p false e) (Settles (min c.conn c.session) ∷ Settles (max c.conn c.session) ∷ gs) a r d ms us z ds = record {
        left = y.0;
        scene = after_noted (Unplugged (port_at c.conn 0) (port_at c.session 1)) k.scene;
        sees = unplugs_lower c.unit c.session c.conn (upper c) (lower c) (outer c) (view u p false e) k.scene (port_at c.conn 0) (port_at c.session 1) (λ q i j. (j, i)) refl k.sees;
        told = told_event refl (told_as k (writes (Unplugged (port_at c.conn 0) (port_at c.session 1)) ∷ y.0) y.1);
        uses = y.2;
      } in
      conn_settles (session_settles (subst (λ x. Walk c n (view u p false e) (Settles x ∷ Settles c.conn ∷ gs) a r d ms us z ds) low (subst (λ x. Walk c n (view u p false e) (Settles (min c.conn c.session) ∷ Settles x ∷ gs) a r d ms us z ds) high w)))

  pub unplug_lower_down : {u p e : Bool} → Walk c n (view u p false e) (MustUnplug (port_at c.session 1) (port_at c.conn 0) ∷ gs) a r d ms us z ds → Walk c n (view u p false e) gs a r d ms us z ds
  unplug_lower_down {u = u} {p = p} {e = e} k =
      let y = unplugged_then obj_nature c.now k.scene c.end (port_at c.session 1) (port_at c.conn 0) gs k.left k.uses in
      let low : min c.session c.conn ≡ c.session = let o = c.conn_later in omega (arith, o) in
      let high : max c.session c.conn ≡ c.conn = let o = c.conn_later in omega (arith, o) in
      let w : Walk c n (view u p false e) (Settles (min c.session c.conn) ∷ Settles (max c.session c.conn) ∷ gs) a r d ms us z ds = record {
        left = y.0;
        scene = after_noted (Unplugged (port_at c.session 1) (port_at c.conn 0)) k.scene;
        sees = unplugs_lower c.unit c.session c.conn (upper c) (lower c) (outer c) (view u p false e) k.scene (port_at c.session 1) (port_at c.conn 0) (λ q i j. (i, j)) refl k.sees;
        told = told_event refl (told_as k (writes (Unplugged (port_at c.session 1) (port_at c.conn 0)) ∷ y.0) y.1);
        uses = y.2;
      } in
      conn_settles (session_settles (subst (λ x. Walk c n (view u p false e) (Settles x ∷ Settles c.conn ∷ gs) a r d ms us z ds) low (subst (λ x. Walk c n (view u p false e) (Settles (min c.session c.conn) ∷ Settles x ∷ gs) a r d ms us z ds) high w)))

module _ {c : DriveCall} {n : ℕ} {gs : List (Stage Obj Load)} {a : UnitTalk} {r : SessionTalk} {d : Dialogue} {ms us : List Said} {z : Option Cause} {ds : List (Deed Obj Load)} where
  -- MESSAGES OVER A LINK

  pub send_to_session : {u p e : Bool} {m : Said} → Walk c n (view u p true e) (Sends (port_at c.conn 0) m ∷ gs) a r d ms us z ds → Walk c n (view u p true e) (Holds (port_at c.session 1) way.Up (Some m) ∷ gs) a r d ms us z ds
  send_to_session {m = m} k =
      let y = crossed c.now k.scene c.end (port_at c.conn 0) (port_at c.session 1) m gs k.left k.sees.conn_top (omega arith) k.uses in
      record {
        left = y.0;
        scene = k.scene;
        sees = k.sees;
        told = told_event refl (told_turn refl (told_as k (turns (arrives (port_at c.conn 0) (port_at c.session 1)) ∷ (writes (Entered (port_at c.session 1) way.Up) ∷ y.0)) y.1));
        uses = y.2;
      }

  pub send_to_unit : {u l e : Bool} {m : Said} → Walk c n (view u true l e) (Sends (port_at c.session 0) m ∷ gs) a r d ms us z ds → Walk c n (view u true l e) (Holds (port_at c.unit 1) way.Up (Some m) ∷ gs) a r d ms us z ds
  send_to_unit {m = m} k =
      let y = crossed c.now k.scene c.end (port_at c.session 0) (port_at c.unit 1) m gs k.left k.sees.web_top (omega arith) k.uses in
      record {
        left = y.0;
        scene = k.scene;
        sees = k.sees;
        told = told_event refl (told_turn refl (told_as k (turns (arrives (port_at c.session 0) (port_at c.unit 1)) ∷ (writes (Entered (port_at c.unit 1) way.Up) ∷ y.0)) y.1));
        uses = y.2;
      }

  -- it is given to the node
  pub session_given : {u p e : Bool} {m : Said} (f : ℕ) → n ≡ suc f → Walk c n (view u p true e) (Holds (port_at c.session 1) way.Up (Some m) ∷ gs) a r d ms us z ds
      → (done : Bool) × (fx : Fx Obj Load) × (q : SessionTalk) × SessionTalks text_carrier r (up 1 m c.now done fx) q
      × Walk c f (view u p true e) (runs_of obj_nature c.session m done fx ++ Holds (port_at c.session 1) way.Up (rest m done fx) ∷ gs) a q d ms us z ds
  session_given {m = m} f size k =
      let y = given_in c.now k.scene c.end (port_at c.session 1) m gs k.left (subst IsOpen (sym k.sees.web_low) tt) k.uses in
      let t = told_session f size (told_as k (calls c.session (up 1 m c.now y.0 y.1) ∷ y.2.0) y.2.1) in
      (y.0, y.1, t.0, t.1, record { left = y.2.0; scene = k.scene; sees = k.sees; told = t.2; uses = y.2.2 })

  pub unit_given : {u l e : Bool} {m : Said} → Walk c n (view u true l e) (Holds (port_at c.unit 1) way.Up (Some m) ∷ gs) a r d ms us z ds
      → (done : Bool) × (fx : Fx Obj Load) × (q : UnitTalk) × UnitTalks text_carrier a (up 1 m c.now done fx) q
      × Walk c n (view u true l e) (runs_of obj_nature c.unit m done fx ++ Holds (port_at c.unit 1) way.Up (rest m done fx) ∷ gs) q r d ms us z ds
  unit_given {m = m} k =
      let y = given_in c.now k.scene c.end (port_at c.unit 1) m gs k.left (subst IsOpen (sym k.sees.top) tt) k.uses in
      let t = told_unit (told_as k (calls c.unit (up 1 m c.now y.0 y.1) ∷ y.2.0) y.2.1) in
      (y.0, y.1, t.0, t.1, record { left = y.2.0; scene = k.scene; sees = k.sees; told = t.2; uses = y.2.2 })

  -- CLOSES OF A LINK

  -- the session closes its link to the unit, which hears of it
  pub close_upper_up : {u l e : Bool} {x : Cause} → Walk c n (view u true l e) (Closes (port_at c.session 0) x ∷ gs) a r d ms us z ds
      → (fx : Fx Obj Load) × (q : UnitTalk) × UnitTalks text_carrier a (closed 1 x c.now fx) q
      × Walk c n (view u false l e) (runs_of obj_nature c.unit silence true fx ++ Holds (port_at c.unit 1) way.Close None ∷ MustUnplug (port_at c.session 0) (port_at c.unit 1) ∷ gs) q r d ms us (or_else (or_else z (Some x)) (Some x)) ds
  close_upper_up {u = u} {l = l} {e = e} {x = x} k =
      let y = close_link obj_nature c.now k.scene c.end (port_at c.session 0) (port_at c.unit 1) x gs k.left k.sees.web_top k.uses in
      let t = told_unit (told_event refl (told_close (told_close (told_as k (writes (Closed (port_at c.session 0) x) ∷ (writes (Closed (port_at c.unit 1) x) ∷ (writes (Entered (port_at c.unit 1) way.Close) ∷ (calls c.unit (closed 1 x c.now y.0) ∷ y.1.0)))) y.1.1)))) in (
        y.0,
        t.0,
        t.1,
        record {
          left = y.1.0;
          scene = after_noted (Closed (port_at c.unit 1) x) (after_noted (Closed (port_at c.session 0) x) k.scene);
          sees = closes_upper_up c.unit c.session c.conn (upper c) (lower c) (outer c) (view u true l e) k.scene x k.sees;
          told = t.2;
          uses = y.1.2;
        },
      )

  -- the unit closes it, and the session hears of it
  pub close_upper_down : {u l e : Bool} {x : Cause} (f : ℕ) → n ≡ suc f → Walk c n (view u true l e) (Closes (port_at c.unit 1) x ∷ gs) a r d ms us z ds
      → (fx : Fx Obj Load) × (q : SessionTalk) × SessionTalks text_carrier r (closed 0 x c.now fx) q
      × Walk c f (view u false l e) (runs_of obj_nature c.session silence true fx ++ Holds (port_at c.session 0) way.Close None ∷ MustUnplug (port_at c.unit 1) (port_at c.session 0) ∷ gs) a q d ms us (or_else (or_else z (Some x)) (Some x)) ds
  close_upper_down {u = u} {l = l} {e = e} {x = x} f size k =
      let y = close_link obj_nature c.now k.scene c.end (port_at c.unit 1) (port_at c.session 0) x gs k.left k.sees.top k.uses in
      let t = told_session f size (told_event refl (told_close (told_close (told_as k (writes (Closed (port_at c.unit 1) x) ∷ (writes (Closed (port_at c.session 0) x) ∷ (writes (Entered (port_at c.session 0) way.Close) ∷ (calls c.session (closed 0 x c.now y.0) ∷ y.1.0)))) y.1.1)))) in (
        y.0,
        t.0,
        t.1,
        record {
          left = y.1.0;
          scene = after_noted (Closed (port_at c.session 0) x) (after_noted (Closed (port_at c.unit 1) x) k.scene);
          sees = closes_upper_down c.unit c.session c.conn (upper c) (lower c) (outer c) (view u true l e) k.scene x k.sees;
          told = t.2;
          uses = y.1.2;
        },
      )

  -- the connection closes its link to the session
  pub close_lower_up : {u p e : Bool} {x : Cause} (f : ℕ) → n ≡ suc f → Walk c n (view u p true e) (Closes (port_at c.conn 0) x ∷ gs) a r d ms us z ds
      → (fx : Fx Obj Load) × (q : SessionTalk) × SessionTalks text_carrier r (closed 1 x c.now fx) q
      × Walk c f (view u p false e) (runs_of obj_nature c.session silence true fx ++ Holds (port_at c.session 1) way.Close None ∷ MustUnplug (port_at c.conn 0) (port_at c.session 1) ∷ gs) a q d ms us (or_else (or_else z (Some x)) (Some x)) ds
  close_lower_up {u = u} {p = p} {e = e} {x = x} f size k =
      let y = close_link obj_nature c.now k.scene c.end (port_at c.conn 0) (port_at c.session 1) x gs k.left k.sees.conn_top k.uses in
      let t = told_session f size (told_event refl (told_close (told_close (told_as k (writes (Closed (port_at c.conn 0) x) ∷ (writes (Closed (port_at c.session 1) x) ∷ (writes (Entered (port_at c.session 1) way.Close) ∷ (calls c.session (closed 1 x c.now y.0) ∷ y.1.0)))) y.1.1)))) in (
        y.0,
        t.0,
        t.1,
        record {
          left = y.1.0;
          scene = after_noted (Closed (port_at c.session 1) x) (after_noted (Closed (port_at c.conn 0) x) k.scene);
          sees = closes_lower_up c.unit c.session c.conn (upper c) (lower c) (outer c) (view u p true e) k.scene x k.sees;
          told = t.2;
          uses = y.1.2;
        },
      )

  -- the session closes it
  pub close_lower_down : {u p e : Bool} {x : Cause} → Walk c n (view u p true e) (Closes (port_at c.session 1) x ∷ gs) a r d ms us z ds
      → (fx : Fx Obj Load) × (q : Dialogue) × Converses conn_carrier d (closed 0 x c.now fx) q
      × Walk c n (view u p false e) (runs_of obj_nature c.conn silence true fx ++ Holds (port_at c.conn 0) way.Close None ∷ MustUnplug (port_at c.session 1) (port_at c.conn 0) ∷ gs) a r q ms us (or_else (or_else z (Some x)) (Some x)) ds
  close_lower_down {u = u} {p = p} {e = e} {x = x} k =
      let y = close_link obj_nature c.now k.scene c.end (port_at c.session 1) (port_at c.conn 0) x gs k.left k.sees.web_low k.uses in
      let t = told_conn (told_event refl (told_close (told_close (told_as k (writes (Closed (port_at c.session 1) x) ∷ (writes (Closed (port_at c.conn 0) x) ∷ (writes (Entered (port_at c.conn 0) way.Close) ∷ (calls c.conn (closed 0 x c.now y.0) ∷ y.1.0)))) y.1.1)))) in (
        y.0,
        t.0,
        t.1,
        record {
          left = y.1.0;
          scene = after_noted (Closed (port_at c.conn 0) x) (after_noted (Closed (port_at c.session 1) x) k.scene);
          sees = closes_lower_down c.unit c.session c.conn (upper c) (lower c) (outer c) (view u p true e) k.scene x k.sees;
          told = t.2;
          uses = y.1.2;
        },
      )

  -- FROM OUTSIDE

  pub offer_conn : {u p l : Bool} {m : Said} → Walk c n (view u p l true) (Offers (port_at c.conn 1) m ∷ gs) a r d ms us z ds
      → (done : Bool) × (fx : Fx Obj Load) × (q : Dialogue) × Converses conn_carrier d (up 1 m c.now done fx) q
      × Walk c n (view u p l true) (runs_of obj_nature c.conn m done fx ++ Holds (port_at c.conn 1) way.Up (rest m done fx) ∷ gs) a r q ms us z ds
  offer_conn {m = m} k =
      let y = offer_up obj_nature c.now k.scene c.end (port_at c.conn 1) m gs k.left (omega arith) k.sees.network k.uses in
      let t = told_conn (told_event refl (told_as k (writes (Entered (port_at c.conn 1) way.Up) ∷ (calls c.conn (up 1 m c.now y.0 y.1) ∷ y.2.0)) y.2.1)) in
      (y.0, y.1, t.0, t.1, record { left = y.2.0; scene = k.scene; sees = k.sees; told = t.2; uses = y.2.2 })

  pub tick_conn : {v : View} → (k : Walk c n v (Ticks c.conn ∷ gs) a r d ms us z ds) → k.scene.live c.conn ≡ true
      → (done : Bool) × (fx : Fx Obj Load) × (q : Dialogue) × Converses conn_carrier d (time c.now done fx) q
      × Walk c n v (runs_of obj_nature c.conn silence done fx ++ Holds (port_at c.conn 4) way.Time None ∷ gs) a r q ms us z ds
  tick_conn k lives =
      let y = tick_live obj_nature c.now k.scene c.end c.conn gs k.left lives k.uses in
      let t = told_conn (told_event refl (told_as k (writes (Entered (port_at c.conn 4) way.Time) ∷ (calls c.conn (time c.now y.0 y.1) ∷ y.2.0)) y.2.1)) in
      (y.0, y.1, t.0, t.1, record { left = y.2.0; scene = k.scene; sees = k.sees; told = t.2; uses = y.2.2 })

  pub offer_unit : {p l e : Bool} {m : Said} → Walk c n (view true p l e) (Offers (port_at c.unit 0) m ∷ gs) a r d ms us z ds
      → (done : Bool) × (fx : Fx Obj Load) × (q : UnitTalk) × UnitTalks text_carrier a (down m c.now done fx) q
      × Walk c n (view true p l e) (runs_of obj_nature c.unit m done fx ++ Holds (port_at c.unit 0) way.Down None ∷ gs) q r d ms us z ds
  offer_unit {m = m} k =
      let y = offer_down obj_nature c.now k.scene c.end (port_at c.unit 0) m gs k.left refl k.sees.user k.uses in
      let t = told_unit (told_event refl (told_as k (writes (Entered (port_at c.unit 0) way.Down) ∷ (calls c.unit (down m c.now y.0 y.1) ∷ y.2.0)) y.2.1)) in
      (y.0, y.1, t.0, t.1, record { left = y.2.0; scene = k.scene; sees = k.sees; told = t.2; uses = y.2.2 })

  pub send_down_upper : {u l e : Bool} {m : Said} (f : ℕ) → n ≡ suc f → Walk c n (view u true l e) (Sends (port_at c.unit 1) m ∷ gs) a r d ms us z ds
      → (done : Bool) × (fx : Fx Obj Load) × (q : SessionTalk) × SessionTalks text_carrier r (down m c.now done fx) q
      × Walk c f (view u true l e) (runs_of obj_nature c.session m done fx ++ Holds (port_at c.session 0) way.Down None ∷ gs) a q d ms us z ds
  send_down_upper {m = m} f size k =
      let y = send_down obj_nature c.now k.scene c.end (port_at c.unit 1) (port_at c.session 0) m gs k.left k.sees.top refl k.uses in
      let t = told_session f size (told_event refl (told_turn refl (told_as k (turns (arrives (port_at c.unit 1) (port_at c.session 0)) ∷ (writes (Entered (port_at c.session 0) way.Down) ∷ (calls c.session (down m c.now y.0 y.1) ∷ y.2.0))) y.2.1))) in
      (y.0, y.1, t.0, t.1, record { left = y.2.0; scene = k.scene; sees = k.sees; told = t.2; uses = y.2.2 })

  pub send_down_lower : {u p e : Bool} {m : Said} → Walk c n (view u p true e) (Sends (port_at c.session 1) m ∷ gs) a r d ms us z ds
      → (done : Bool) × (fx : Fx Obj Load) × (q : Dialogue) × Converses conn_carrier d (down m c.now done fx) q
      × Walk c n (view u p true e) (runs_of obj_nature c.conn m done fx ++ Holds (port_at c.conn 0) way.Down None ∷ gs) a r q ms us z ds
  send_down_lower {m = m} k =
      let y = send_down obj_nature c.now k.scene c.end (port_at c.session 1) (port_at c.conn 0) m gs k.left k.sees.web_low refl k.uses in
      let t = told_conn (told_event refl (told_turn refl (told_as k (turns (arrives (port_at c.session 1) (port_at c.conn 0)) ∷ (writes (Entered (port_at c.conn 0) way.Down) ∷ (calls c.conn (down m c.now y.0 y.1) ∷ y.2.0))) y.2.1))) in
      (y.0, y.1, t.0, t.1, record { left = y.2.0; scene = k.scene; sees = k.sees; told = t.2; uses = y.2.2 })

module _ {c : DriveCall} {n : ℕ} {a : UnitTalk} {r : SessionTalk} {d : Dialogue} {ms us : List Said} {z : Option Cause} {ds : List (Deed Obj Load)} where
  -- nothing is left
  pub walked : {v : View} → Walk c n v [] a r d ms us z ds
      → (messages_of (told_below c.unit (told_of ds)) ≡ ms) × (told_above c.unit (told_of ds) ≡ us) × (first_close (told_of ds) ≡ z) × (a ≡ c.unit_end) × (r ≡ c.session_end) × (d ≡ c.conn_end)
  walked k =
      let y = nothing obj_nature c.now k.scene c.end k.left k.uses in
      let t = told_as k [] y.0 in
      (t.says ∙ append-nil ms, t.hands ∙ append-nil us, t.closes ∙ or_none z, t.tail.works, t.tail.reads, t.tail.talks)

-- How a call on the three objects of a drive goes on, deed by deed.
use Rattle.std.proofs.Common.{◌≡◌, ℕ, suc, ◌<◌, ◌==◌, Bool, true, List, [], ◌∷◌, ◌++◌, length, Option, Some, None, refl, sym, ap, ◌∙◌, subst, append_assoc, arith, false, if◌then◌else◌}
use Rattle.std.proofs.lemmas.Bool.{eq-eqb, ne_eqb}
use Rattle.nb_terms.specs.declared.cause.Cause.{Cause}
use Rattle.nb_ledger.specs.declared.port.Port.{Port}
use Rattle.nb_ledger.specs.declared.event.GraphEvent.{GraphEvent}
use Rattle.nb_ledger.specs.declared.event.GraphEvent.TheVariants.{Made, Held, LetGo, Plugged, Entered, Left, Dropped, Closed, Unplugged, Freed}
use Rattle.nb_ledger.specs.Flat.{event, flat, message}
use Rattle.nb_graph.specs.Trace.{NodeEntry, Said}
use Rattle.nb_graph.specs.Deeds.{Deed, writes, calls, turns, Turn, goes_out, notice_of, Stage, events_of, told_of}
use Rattle.nb_graph.specs.Scene.{Scene}
use Rattle.nb_graph.specs.Follows.{UsesStack}
use Rattle.nb_conns.specs.Dialogues.{Dialogue, Converses, ConversesTo}
use Rattle.nb_nodes.specs.declared.load.Load.{Load}
use Rattle.nb_nodes.specs.declared.obj.Obj.{Obj}
use Rattle.nb_nodes.specs.Carriers.{conn_carrier, text_carrier}
use Rattle.nb_nodes.specs.Objects.{obj_nature}
use Rattle.nb_opens.specs.Entries.{entries_of}
use Rattle.nb_opens.specs.Notices.{close_of, first_close, or_else}
use Rattle.nb_opens.proofs.HoldLemmas.{NotFreed}
use Rattle.nb_drivenodes.specs.SessionTalks.{SessionTalk, SessionTalks, SessionTalksTo}
use Rattle.nb_drivenodes.specs.UnitTalks.{UnitTalk, UnitTalks, UnitTalksTo}
use Rattle.nb_webtalks.specs.Tellings.{messages_of}
use Rattle.nb_webtalks.proofs.Scenes.{View, Sees}
use Rattle.nb_drivetalks.specs.Tellings.{goes_up, told_above, told_below}

-- A call: its time, the three objects, what the graph is seen as after it, and where they are then.
pub record DriveCall : Type 0 where
  pub now : ℕ
  pub unit : ℕ
  pub session : ℕ
  pub conn : ℕ
  pub session_later : unit < session
  pub conn_later : session < conn
  pub end : Scene
  pub unit_end : UnitTalk
  pub session_end : SessionTalk
  pub conn_end : Dialogue

pub upper : (c : DriveCall) → c.unit ≡ c.session → ⊥
upper c e = let l = c.session_later in omega (arith, l, e)

pub lower : (c : DriveCall) → c.session ≡ c.conn → ⊥
lower c e = let l = c.conn_later in omega (arith, l, e)

pub outer : (c : DriveCall) → c.unit ≡ c.conn → ⊥
outer c e = let l = c.session_later in let m = c.conn_later in omega (arith, l, m, e)

-- what is still to happen, where the three have come so far
pub record Tail (c : DriveCall) (a : UnitTalk) (r : SessionTalk) (d : Dialogue) (ds : List (Deed Obj Load)) : Type 0 where
  pub works : UnitTalksTo text_carrier a (entries_of c.unit ds) c.unit_end
  pub reads : SessionTalksTo text_carrier r (entries_of c.session ds) c.session_end
  pub talks : ConversesTo conn_carrier d (entries_of c.conn ds) c.conn_end
  pub unit_stays : NotFreed c.unit (events_of ds)
  pub session_stays : NotFreed c.session (events_of ds)
  pub conn_stays : NotFreed c.conn (events_of ds)

abbrev pub view : Bool → Bool → Bool → Bool → View
view u p l n = record { user = u; upper = p; lower = l; network = n }

-- Of what happened so much was told: these messages down and up, and this first close; these deeds are left, fewer than n.
pub record Told (c : DriveCall) (n : ℕ) (a : UnitTalk) (r : SessionTalk) (d : Dialogue) (ms us : List Said) (z : Option Cause) (ds left : List (Deed Obj Load)) : Type 0 where
  pub says : messages_of (told_below c.unit (told_of ds)) ≡ ms ++ messages_of (told_below c.unit (told_of left))
  pub hands : told_above c.unit (told_of ds) ≡ us ++ told_above c.unit (told_of left)
  pub closes : first_close (told_of ds) ≡ or_else z (first_close (told_of left))
  pub tail : Tail c a r d left
  pub few : length left < n

-- From here on it goes so.
pub record Walk (c : DriveCall) (n : ℕ) (v : View) (gs : List (Stage Obj Load)) (a : UnitTalk) (r : SessionTalk) (d : Dialogue) (ms us : List Said) (z : Option Cause) (ds : List (Deed Obj Load)) : Type 0 where
  pub left : List (Deed Obj Load)
  pub scene : Scene
  pub sees : Sees c.unit c.session c.conn v scene
  pub told : Told c n a r d ms us z ds left
  pub uses : UsesStack obj_nature c.now scene gs left c.end

rest_free : (x : ℕ) (e : GraphEvent) (es : List GraphEvent) → NotFreed x (e ∷ es) → NotFreed x es
rest_free x (Made y k) es h = h
rest_free x (Held y) es h = h
rest_free x (LetGo y) es h = h
rest_free x (Plugged p q) es h = h
rest_free x (Entered p by) es h = h
rest_free x (Left p) es h = h
rest_free x (Dropped p) es h = h
rest_free x (Closed p c) es h = h
rest_free x (Unplugged p q) es h = h
rest_free x (Freed y) es h = h.1

or_assoc : (z : Option Cause) (x : Cause) (r : Option Cause) → or_else z (or_else (Some x) r) ≡ or_else (or_else z (Some x)) r
or_assoc None x r = refl
or_assoc (Some y) x r = refl

same : (x : ℕ) → (x == x) ≡ true
same x = eq-eqb x x refl

module _ (c : DriveCall) where
  -- what is left of a tail
  tail_event : (a : UnitTalk) (r : SessionTalk) (d : Dialogue) (e : GraphEvent) (es : List (Deed Obj Load)) → Tail c a r d (writes e ∷ es) → Tail c a r d es
  tail_event a r d e es t = record {
    works = t.works;
    reads = t.reads;
    talks = t.talks;
    unit_stays = rest_free c.unit e (events_of es) t.unit_stays;
    session_stays = rest_free c.session e (events_of es) t.session_stays;
    conn_stays = rest_free c.conn e (events_of es) t.conn_stays;
  }

  tail_turn : (a : UnitTalk) (r : SessionTalk) (d : Dialogue) (u : Turn) (es : List (Deed Obj Load)) → Tail c a r d (turns u ∷ es) → Tail c a r d es
  tail_turn a r d u es t = record {
    works = t.works;
    reads = t.reads;
    talks = t.talks;
    unit_stays = t.unit_stays;
    session_stays = t.session_stays;
    conn_stays = t.conn_stays;
  }

  own_entries : (x : ℕ) (e : NodeEntry Obj Load) (es : List (Deed Obj Load)) → entries_of x (calls x e ∷ es) ≡ e ∷ entries_of x es
  own_entries x e es = rw (same x) refl

  other_entries : (x y : ℕ) (e : NodeEntry Obj Load) (es : List (Deed Obj Load)) → (x ≡ y → ⊥) → entries_of x (calls y e ∷ es) ≡ entries_of x es
  other_entries x y e es apart = rw (ne_eqb x y apart) refl

  turned : (x y : ℕ) → (x ≡ y → ⊥) → y ≡ x → ⊥
  turned x y apart e = apart (sym e)

  -- the unit is called
  tail_unit : (a : UnitTalk) (r : SessionTalk) (d : Dialogue) (e : NodeEntry Obj Load) (es : List (Deed Obj Load)) → Tail c a r d (calls c.unit e ∷ es) → (q : UnitTalk) × UnitTalks text_carrier a e q × Tail c q r d es
  tail_unit a r d e es t =
      let run : UnitTalksTo text_carrier a (e ∷ entries_of c.unit es) c.unit_end = subst (λ z. UnitTalksTo text_carrier a z c.unit_end) (own_entries c.unit e es) t.works in (
        run.0,
        run.1,
        record {
          works = run.2;
          reads = subst (λ z. SessionTalksTo text_carrier r z c.session_end) (other_entries c.session c.unit e es (turned c.unit c.session (upper c))) t.reads;
          talks = subst (λ z. ConversesTo conn_carrier d z c.conn_end) (other_entries c.conn c.unit e es (turned c.unit c.conn (outer c))) t.talks;
          unit_stays = t.unit_stays;
          session_stays = t.session_stays;
          conn_stays = t.conn_stays;
        },
      )

  -- the session is
  tail_session : (a : UnitTalk) (r : SessionTalk) (d : Dialogue) (e : NodeEntry Obj Load) (es : List (Deed Obj Load)) → Tail c a r d (calls c.session e ∷ es) → (q : SessionTalk) × SessionTalks text_carrier r e q × Tail c a q d es
  tail_session a r d e es t =
      let other = other_entries c.unit c.session e es (upper c) in
      let run : SessionTalksTo text_carrier r (e ∷ entries_of c.session es) c.session_end = subst (λ z. SessionTalksTo text_carrier r z c.session_end) (own_entries c.session e es) t.reads in (
        run.0,
        run.1,
        record {
          works = subst (λ z. UnitTalksTo text_carrier a z c.unit_end) other t.works;
          reads = run.2;
          talks = subst (λ z. ConversesTo conn_carrier d z c.conn_end) (other_entries c.conn c.session e es (turned c.session c.conn (lower c))) t.talks;
          unit_stays = t.unit_stays;
          session_stays = t.session_stays;
          conn_stays = t.conn_stays;
        },
      )

  -- the connection is
  tail_conn : (a : UnitTalk) (r : SessionTalk) (d : Dialogue) (e : NodeEntry Obj Load) (es : List (Deed Obj Load)) → Tail c a r d (calls c.conn e ∷ es) → (q : Dialogue) × Converses conn_carrier d e q × Tail c a r q es
  tail_conn a r d e es t =
      let other = other_entries c.unit c.conn e es (outer c) in
      let run : ConversesTo conn_carrier d (e ∷ entries_of c.conn es) c.conn_end = subst (λ z. ConversesTo conn_carrier d z c.conn_end) (own_entries c.conn e es) t.talks in (
        run.0,
        run.1,
        record {
          works = subst (λ z. UnitTalksTo text_carrier a z c.unit_end) other t.works;
          reads = subst (λ z. SessionTalksTo text_carrier r z c.session_end) (other_entries c.session c.conn e es (lower c)) t.reads;
          talks = run.2;
          unit_stays = t.unit_stays;
          session_stays = t.session_stays;
          conn_stays = t.conn_stays;
        },
      )

module _ {c : DriveCall} {n : ℕ} {a : UnitTalk} {r : SessionTalk} {d : Dialogue} {ms us : List Said} {z : Option Cause} {ds es : List (Deed Obj Load)} where
  -- an event is first that closes no port
  pub told_event : {e : GraphEvent} → close_of (event (flat e)) ≡ None → Told c n a r d ms us z ds (writes e ∷ es) → Told c n a r d ms us z ds es
  told_event {e = e} none k = record {
    says = k.says;
    hands = k.hands;
    closes = k.closes ∙ ap (λ x. or_else z (or_else x (first_close (told_of es)))) none;
    tail = tail_event c a r d e es k.tail;
    few = let f = k.few in omega (arith, f);
  }

  -- or one that does
  pub told_close : {p : Port} {x : Cause} → Told c n a r d ms us z ds (writes (Closed p x) ∷ es) → Told c n a r d ms us (or_else z (Some x)) ds es
  told_close {p = p} {x = x} k = record {
    says = k.says;
    hands = k.hands;
    closes = k.closes ∙ or_assoc z x (first_close (told_of es));
    tail = tail_event c a r d (Closed p x) es k.tail;
    few = let f = k.few in omega (arith, f);
  }

  pub told_turn : {u : Turn} → notice_of u ≡ [] → Told c n a r d ms us z ds (turns u ∷ es) → Told c n a r d ms us z ds es
  told_turn {u = u} none k = record {
    says = k.says ∙ ap (λ x. ms ++ messages_of (told_below c.unit (x ++ told_of es))) none;
    hands = k.hands ∙ ap (λ x. us ++ told_above c.unit (x ++ told_of es)) none;
    closes = k.closes ∙ ap (λ x. or_else z (first_close (x ++ told_of es))) none;
    tail = tail_turn c a r d u es k.tail;
    few = let f = k.few in omega (arith, f);
  }

  -- a message goes down to the network
  pub told_message : {p : Port} {m : Said} → goes_up c.unit p ≡ false → Told c n a r d ms us z ds (turns (goes_out p m) ∷ es) → Told c n a r d (ms ++ m ∷ []) us z ds es
  told_message {p = p} {m = m} down k = record {
    says = k.says ∙ ap (λ b. ms ++ messages_of (if b then told_below c.unit (told_of es) else message p m.tag m.rec m.a m.b m.bytes ∷ told_below c.unit (told_of es))) down
        ∙ sym (append_assoc ms (m ∷ []) (messages_of (told_below c.unit (told_of es))));
    hands = k.hands ∙ ap (λ b. us ++ (if b then m ∷ told_above c.unit (told_of es) else told_above c.unit (told_of es))) down;
    closes = k.closes;
    tail = tail_turn c a r d (goes_out p m) es k.tail;
    few = let f = k.few in omega (arith, f);
  }

  -- or it is handed up to the user
  pub told_handed : {p : Port} {m : Said} → goes_up c.unit p ≡ true → Told c n a r d ms us z ds (turns (goes_out p m) ∷ es) → Told c n a r d ms (us ++ m ∷ []) z ds es
  told_handed {p = p} {m = m} up k = record {
    says = k.says ∙ ap (λ b. ms ++ messages_of (if b then told_below c.unit (told_of es) else message p m.tag m.rec m.a m.b m.bytes ∷ told_below c.unit (told_of es))) up;
    hands = k.hands ∙ ap (λ b. us ++ (if b then m ∷ told_above c.unit (told_of es) else told_above c.unit (told_of es))) up
        ∙ sym (append_assoc us (m ∷ []) (told_above c.unit (told_of es)));
    closes = k.closes;
    tail = tail_turn c a r d (goes_out p m) es k.tail;
    few = let f = k.few in omega (arith, f);
  }

  -- an object is called
  pub told_unit : {e : NodeEntry Obj Load} → Told c n a r d ms us z ds (calls c.unit e ∷ es) → (q : UnitTalk) × UnitTalks text_carrier a e q × Told c n q r d ms us z ds es
  told_unit {e = e} k =
      let t = tail_unit c a r d e es k.tail in
      (t.0, t.1, record { says = k.says; hands = k.hands; closes = k.closes; tail = t.2; few = let f = k.few in omega (arith, f) })

  pub told_session : {e : NodeEntry Obj Load} (m : ℕ) → n ≡ suc m → Told c n a r d ms us z ds (calls c.session e ∷ es) → (q : SessionTalk) × SessionTalks text_carrier r e q × Told c m a q d ms us z ds es
  told_session {e = e} m size k =
      let t = tail_session c a r d e es k.tail in
      (t.0, t.1, record { says = k.says; hands = k.hands; closes = k.closes; tail = t.2; few = let f = k.few in omega (arith, f, size) })

  pub told_conn : {e : NodeEntry Obj Load} → Told c n a r d ms us z ds (calls c.conn e ∷ es) → (q : Dialogue) × Converses conn_carrier d e q × Told c n a r q ms us z ds es
  told_conn {e = e} k =
      let t = tail_conn c a r d e es k.tail in
      (t.0, t.1, record { says = k.says; hands = k.hands; closes = k.closes; tail = t.2; few = let f = k.few in omega (arith, f) })

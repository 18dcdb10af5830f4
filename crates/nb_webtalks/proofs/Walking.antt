-- How a call on the three objects of an open by HTTP goes on, deed by deed.
use Rattle.std.proofs.Common.{◌≡◌, ℕ, suc, ◌<◌, ◌==◌, Bool, true, List, [], ◌∷◌, ◌++◌, length, Option, Some, None, refl, sym, ap, ◌∙◌, subst, append_assoc, arith}
use Rattle.std.proofs.lemmas.Bool.{eq-eqb, ne_eqb}
use Rattle.nb_terms.specs.declared.cause.Cause.{Cause}
use Rattle.nb_ledger.specs.declared.port.Port.{Port}
use Rattle.nb_ledger.specs.declared.event.GraphEvent.{GraphEvent}
use Rattle.nb_ledger.specs.declared.event.GraphEvent.TheVariants.{Made, Held, LetGo, Plugged, Entered, Left, Dropped, Closed, Unplugged, Freed}
use Rattle.nb_ledger.specs.Flat.{event, flat}
use Rattle.nb_graph.specs.Trace.{NodeEntry, Said}
use Rattle.nb_graph.specs.Deeds.{Deed, writes, calls, turns, Turn, goes_out, notice_of, Stage, events_of, told_of}
use Rattle.nb_graph.specs.Scene.{Scene}
use Rattle.nb_graph.specs.Follows.{UsesStack}
use Rattle.nb_conns.specs.Dialogues.{Dialogue, Converses, ConversesTo}
use Rattle.nb_nodes.specs.declared.load.Load.{Load}
use Rattle.nb_nodes.specs.declared.obj.Obj.{Obj}
use Rattle.nb_nodes.specs.Carriers.{conn_carrier, web_carrier}
use Rattle.nb_nodes.specs.Objects.{obj_nature}
use Rattle.nb_nodes.specs.Fetches.{EachOf, AsksOfFetch}
use Rattle.nb_opens.specs.Entries.{entries_of}
use Rattle.nb_opens.specs.Notices.{close_of, first_close, or_else}
use Rattle.nb_opens.proofs.HoldLemmas.{NotFreed}
use Rattle.nb_webnodes.specs.WebTalks.{WebTalk, Fetched, FetchedTo}
use Rattle.nb_webtalks.specs.Tellings.{messages_of}
use Rattle.nb_webtalks.proofs.Scenes.{View, Sees}

-- A call: its time, the three objects, what the graph is seen as after it, what the Fetch has done then, and where the others are.
pub record WebCall : Type 0 where
  pub now : ℕ
  pub fetch : ℕ
  pub web : ℕ
  pub conn : ℕ
  pub web_later : fetch < web
  pub conn_later : web < conn
  pub end : Scene
  pub above : List (NodeEntry Obj Load)
  pub web_end : WebTalk
  pub conn_end : Dialogue

pub upper : (c : WebCall) → c.fetch ≡ c.web → ⊥
upper c e = let l = c.web_later in omega (arith, l, e)

pub lower : (c : WebCall) → c.web ≡ c.conn → ⊥
lower c e = let l = c.conn_later in omega (arith, l, e)

pub outer : (c : WebCall) → c.fetch ≡ c.conn → ⊥
outer c e = let l = c.web_later in let m = c.conn_later in omega (arith, l, m, e)

-- what is still to happen, where the three have come so far
pub record Tail (c : WebCall) (a : List (NodeEntry Obj Load)) (r : WebTalk) (d : Dialogue) (ds : List (Deed Obj Load)) : Type 0 where
  pub asks : EachOf AsksOfFetch a (entries_of c.fetch ds)
  pub fetched : a ++ entries_of c.fetch ds ≡ c.above
  pub reads : FetchedTo web_carrier r (entries_of c.web ds) c.web_end
  pub talks : ConversesTo conn_carrier d (entries_of c.conn ds) c.conn_end
  pub fetch_stays : NotFreed c.fetch (events_of ds)
  pub web_stays : NotFreed c.web (events_of ds)
  pub conn_stays : NotFreed c.conn (events_of ds)

abbrev pub view : Bool → Bool → Bool → Bool → View
view u p l n = record { user = u; upper = p; lower = l; network = n }

-- Of what happened so much was told: these messages, and this first close; these deeds are left, fewer than n.
pub record Told (c : WebCall) (n : ℕ) (a : List (NodeEntry Obj Load)) (r : WebTalk) (d : Dialogue) (ms : List Said) (z : Option Cause) (ds left : List (Deed Obj Load)) : Type 0 where
  pub says : messages_of (told_of ds) ≡ ms ++ messages_of (told_of left)
  pub closes : first_close (told_of ds) ≡ or_else z (first_close (told_of left))
  pub tail : Tail c a r d left
  pub few : length left < n

-- From here on it goes so.
pub record Walk (c : WebCall) (n : ℕ) (v : View) (gs : List (Stage Obj Load)) (a : List (NodeEntry Obj Load)) (r : WebTalk) (d : Dialogue) (ms : List Said) (z : Option Cause) (ds : List (Deed Obj Load)) : Type 0 where
  pub left : List (Deed Obj Load)
  pub scene : Scene
  pub sees : Sees c.fetch c.web c.conn v scene
  pub told : Told c n a r d ms z ds left
  pub uses : UsesStack obj_nature c.now scene gs left c.end

rest_free : (x : ℕ) (e : GraphEvent) (es : List GraphEvent) → NotFreed x (e ∷ es) → NotFreed x es
rest_free x (Made y k) es h = h
rest_free x (Held y) es h = h
rest_free x (LetGo y) es h = h
rest_free x (Plugged p q) es h = h
rest_free x (Entered p by) es h = h
rest_free x (Left p) es h = h
rest_free x (Dropped p) es h = h
rest_free x (Closed p c) es h = h
rest_free x (Unplugged p q) es h = h
rest_free x (Freed y) es h = h.1

or_assoc : (z : Option Cause) (x : Cause) (r : Option Cause) → or_else z (or_else (Some x) r) ≡ or_else (or_else z (Some x)) r
or_assoc None x r = refl
or_assoc (Some y) x r = refl

same : (x : ℕ) → (x == x) ≡ true
same x = eq-eqb x x refl

module _ (c : WebCall) where
  -- what is left of a tail
  tail_event : (a : List (NodeEntry Obj Load)) (r : WebTalk) (d : Dialogue) (e : GraphEvent) (es : List (Deed Obj Load)) → Tail c a r d (writes e ∷ es) → Tail c a r d es
  tail_event a r d e es t = record {
    asks = t.asks;
    fetched = t.fetched;
    reads = t.reads;
    talks = t.talks;
    fetch_stays = rest_free c.fetch e (events_of es) t.fetch_stays;
    web_stays = rest_free c.web e (events_of es) t.web_stays;
    conn_stays = rest_free c.conn e (events_of es) t.conn_stays;
  }

  tail_turn : (a : List (NodeEntry Obj Load)) (r : WebTalk) (d : Dialogue) (u : Turn) (es : List (Deed Obj Load)) → Tail c a r d (turns u ∷ es) → Tail c a r d es
  tail_turn a r d u es t = record {
    asks = t.asks;
    fetched = t.fetched;
    reads = t.reads;
    talks = t.talks;
    fetch_stays = t.fetch_stays;
    web_stays = t.web_stays;
    conn_stays = t.conn_stays;
  }

  own_entries : (x : ℕ) (e : NodeEntry Obj Load) (es : List (Deed Obj Load)) → entries_of x (calls x e ∷ es) ≡ e ∷ entries_of x es
  own_entries x e es = rw (same x) refl

  other_entries : (x y : ℕ) (e : NodeEntry Obj Load) (es : List (Deed Obj Load)) → (x ≡ y → ⊥) → entries_of x (calls y e ∷ es) ≡ entries_of x es
  other_entries x y e es apart = rw (ne_eqb x y apart) refl

  turned : (x y : ℕ) → (x ≡ y → ⊥) → y ≡ x → ⊥
  turned x y apart e = apart (sym e)

  -- the Fetch is called
  tail_fetch : (a : List (NodeEntry Obj Load)) (r : WebTalk) (d : Dialogue) (e : NodeEntry Obj Load) (es : List (Deed Obj Load)) → Tail c a r d (calls c.fetch e ∷ es) → AsksOfFetch a e × Tail c (a ++ e ∷ []) r d es
  tail_fetch a r d e es t =
      let own = own_entries c.fetch e es in
      let asked : EachOf AsksOfFetch a (e ∷ entries_of c.fetch es) = subst (λ z. EachOf AsksOfFetch a z) own t.asks in (
        asked.0,
        record {
          asks = asked.1;
          fetched = append_assoc a (e ∷ []) (entries_of c.fetch es) ∙ (ap (λ z. a ++ z) (sym own) ∙ t.fetched);
          reads = subst (λ z. FetchedTo web_carrier r z c.web_end) (other_entries c.web c.fetch e es (turned c.fetch c.web (upper c))) t.reads;
          talks = subst (λ z. ConversesTo conn_carrier d z c.conn_end) (other_entries c.conn c.fetch e es (turned c.fetch c.conn (outer c))) t.talks;
          fetch_stays = t.fetch_stays;
          web_stays = t.web_stays;
          conn_stays = t.conn_stays;
        },
      )

  -- the fetch is
  tail_web : (a : List (NodeEntry Obj Load)) (r : WebTalk) (d : Dialogue) (e : NodeEntry Obj Load) (es : List (Deed Obj Load)) → Tail c a r d (calls c.web e ∷ es) → (q : WebTalk) × Fetched web_carrier r e q × Tail c a q d es
  tail_web a r d e es t =
      let other = other_entries c.fetch c.web e es (upper c) in
      let run : FetchedTo web_carrier r (e ∷ entries_of c.web es) c.web_end = subst (λ z. FetchedTo web_carrier r z c.web_end) (own_entries c.web e es) t.reads in (
        run.0,
        run.1,
        record {
          asks = subst (λ z. EachOf AsksOfFetch a z) other t.asks;
          fetched = ap (λ z. a ++ z) (sym other) ∙ t.fetched;
          reads = run.2;
          talks = subst (λ z. ConversesTo conn_carrier d z c.conn_end) (other_entries c.conn c.web e es (turned c.web c.conn (lower c))) t.talks;
          fetch_stays = t.fetch_stays;
          web_stays = t.web_stays;
          conn_stays = t.conn_stays;
        },
      )

  -- the connection is
  tail_conn : (a : List (NodeEntry Obj Load)) (r : WebTalk) (d : Dialogue) (e : NodeEntry Obj Load) (es : List (Deed Obj Load)) → Tail c a r d (calls c.conn e ∷ es) → (q : Dialogue) × Converses conn_carrier d e q × Tail c a r q es
  tail_conn a r d e es t =
      let other = other_entries c.fetch c.conn e es (outer c) in
      let run : ConversesTo conn_carrier d (e ∷ entries_of c.conn es) c.conn_end = subst (λ z. ConversesTo conn_carrier d z c.conn_end) (own_entries c.conn e es) t.talks in (
        run.0,
        run.1,
        record {
          asks = subst (λ z. EachOf AsksOfFetch a z) other t.asks;
          fetched = ap (λ z. a ++ z) (sym other) ∙ t.fetched;
          reads = subst (λ z. FetchedTo web_carrier r z c.web_end) (other_entries c.web c.conn e es (lower c)) t.reads;
          talks = run.2;
          fetch_stays = t.fetch_stays;
          web_stays = t.web_stays;
          conn_stays = t.conn_stays;
        },
      )

module _ {c : WebCall} {n : ℕ} {a : List (NodeEntry Obj Load)} {r : WebTalk} {d : Dialogue} {ms : List Said} {z : Option Cause} {ds es : List (Deed Obj Load)} where
  -- an event is first that closes no port
  pub told_event : {e : GraphEvent} → close_of (event (flat e)) ≡ None → Told c n a r d ms z ds (writes e ∷ es) → Told c n a r d ms z ds es
  told_event {e = e} none k = record {
    says = k.says;
    closes = k.closes ∙ ap (λ x. or_else z (or_else x (first_close (told_of es)))) none;
    tail = tail_event c a r d e es k.tail;
    few = let f = k.few in omega (arith, f);
  }

  -- or one that does
  pub told_close : {p : Port} {x : Cause} → Told c n a r d ms z ds (writes (Closed p x) ∷ es) → Told c n a r d ms (or_else z (Some x)) ds es
  told_close {p = p} {x = x} k = record {
    says = k.says;
    closes = k.closes ∙ or_assoc z x (first_close (told_of es));
    tail = tail_event c a r d (Closed p x) es k.tail;
    few = let f = k.few in omega (arith, f);
  }

  pub told_turn : {u : Turn} → notice_of u ≡ [] → Told c n a r d ms z ds (turns u ∷ es) → Told c n a r d ms z ds es
  told_turn {u = u} none k = record {
    says = k.says ∙ ap (λ x. ms ++ messages_of (x ++ told_of es)) none;
    closes = k.closes ∙ ap (λ x. or_else z (first_close (x ++ told_of es))) none;
    tail = tail_turn c a r d u es k.tail;
    few = let f = k.few in omega (arith, f);
  }

  pub told_message : {p : Port} {m : Said} → Told c n a r d ms z ds (turns (goes_out p m) ∷ es) → Told c n a r d (ms ++ m ∷ []) z ds es
  told_message {p = p} {m = m} k = record {
    says = k.says ∙ sym (append_assoc ms (m ∷ []) (messages_of (told_of es)));
    closes = k.closes;
    tail = tail_turn c a r d (goes_out p m) es k.tail;
    few = let f = k.few in omega (arith, f);
  }

  -- an object is called
  pub told_fetch : {e : NodeEntry Obj Load} → Told c n a r d ms z ds (calls c.fetch e ∷ es) → AsksOfFetch a e × Told c n (a ++ e ∷ []) r d ms z ds es
  told_fetch {e = e} k =
      let t = tail_fetch c a r d e es k.tail in
      (t.0, record { says = k.says; closes = k.closes; tail = t.1; few = let f = k.few in omega (arith, f) })

  pub told_web : {e : NodeEntry Obj Load} (m : ℕ) → n ≡ suc m → Told c n a r d ms z ds (calls c.web e ∷ es) → (q : WebTalk) × Fetched web_carrier r e q × Told c m a q d ms z ds es
  told_web {e = e} m size k =
      let t = tail_web c a r d e es k.tail in
      (t.0, t.1, record { says = k.says; closes = k.closes; tail = t.2; few = let f = k.few in omega (arith, f, size) })

  pub told_conn : {e : NodeEntry Obj Load} → Told c n a r d ms z ds (calls c.conn e ∷ es) → (q : Dialogue) × Converses conn_carrier d e q × Told c n a r q ms z ds es
  told_conn {e = e} k =
      let t = tail_conn c a r d e es k.tail in
      (t.0, t.1, record { says = k.says; closes = k.closes; tail = t.2; few = let f = k.few in omega (arith, f) })

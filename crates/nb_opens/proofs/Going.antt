-- How a call on the two objects goes on, deed by deed.
use Rattle.std.proofs.Common.{◌≡◌, ◌⊎◌, ℕ, ◌≤◌, Bool, true, inl, inr, List, [], ◌∷◌, ◌++◌, Option, Some, None, eqb, refl, sym, ap, ◌∙◌, subst, append_assoc, min, max}
use Rattle.std.proofs.lemmas.Bool.{eq-eqb, ne_eqb, false≢true}
use Rattle.std.proofs.lemmas.List.{append-nil}
use Rattle.nb_terms.specs.declared.cause.Cause.{Cause}
use Rattle.nb_ledger.specs.declared.port.Port.{Port}
use Rattle.nb_ledger.specs.declared.port.PortState.TheVariants as port
use Rattle.nb_ledger.specs.declared.event.Way.{Way}
use Rattle.nb_ledger.specs.declared.event.Way.TheVariants as way
use Rattle.nb_ledger.specs.declared.event.GraphEvent.{GraphEvent}
use Rattle.nb_ledger.specs.declared.event.GraphEvent.TheVariants.{Made, Held, LetGo, Plugged, Entered, Left, Dropped, Closed, Unplugged, Freed}
use Rattle.nb_ledger.specs.Flat.{Notice, event, message, flat}
use Rattle.nb_ledger.specs.Ledger.{open_count}
use Rattle.nb_effects.specs.declared.effects.Fx.{Fx}
use Rattle.nb_graph.specs.Whole.{port_at}
use Rattle.nb_graph.specs.Trace.{NodeEntry, Said, up, closed, time, regain, silence}
use Rattle.nb_graph.specs.Deeds.{Deed, writes, calls, turns, Turn, goes_out, arrives, stays, is_shut, notice_of, Stage, Holds, Closes, Sends, Offers, Ticks, Returns, MustUnplug, Settles, events_of, told_of, rest, runs_of, settles_by}
use Rattle.nb_graph.specs.Scene.{Scene, state_at, after_noted}
use Rattle.nb_graph.specs.Follows.{UsesStack}
use Rattle.nb_graph.proofs.Laws.{close_open, close_shut, close_link, send_open, send_up, offer_up, tick_live, returned, entry_ends, settled, unplugged_then, rest_shut, nothing}
use Rattle.nb_nodes.specs.declared.load.Load.{Load}
use Rattle.nb_nodes.specs.declared.obj.Obj.{Obj}
use Rattle.nb_nodes.specs.Objects.{obj_nature}
use Rattle.nb_nodes.specs.Conversations.{Conversation, Continues, RunsTo, ends as talk_ends, rests}
use Rattle.nb_nodes.specs.Fetches.{EachOf, AsksOfFetch}
use Rattle.nb_opens.specs.Entries.{entries_of}
use Rattle.nb_opens.proofs.HoldLemmas.{NotFreed}

-- a call: its time, the two objects, what the graph is seen as after it, the traces then, and the conversation
pub record Case : Type 0 where
  pub now : ℕ
  pub fetch : ℕ
  pub tftp : ℕ
  pub apart : fetch ≡ tftp → ⊥
  pub end : Scene
  pub above : List (NodeEntry Obj Load)
  pub below : List (NodeEntry Obj Load)
  pub talk : Conversation

-- what is still to happen, where the traces and the conversation have come so far
pub record Tail (c : Case) (a b : List (NodeEntry Obj Load)) (v : Conversation) (ds : List (Deed Obj Load)) : Type 0 where
  pub asks : EachOf AsksOfFetch a (entries_of c.fetch ds)
  pub fetched : a ++ entries_of c.fetch ds ≡ c.above
  pub talks : RunsTo v (entries_of c.tftp ds) c.talk
  pub talked : b ++ entries_of c.tftp ds ≡ c.below
  pub stays_fetch : NotFreed c.fetch (events_of ds)
  pub stays_tftp : NotFreed c.tftp (events_of ds)

-- and where the graph is seen so, and this stands on the stack
pub record Goes (c : Case) (s : Scene) (gs : List (Stage Obj Load)) (a b : List (NodeEntry Obj Load)) (v : Conversation) (ds : List (Deed Obj Load)) : Type 0 where
  pub uses : UsesStack obj_nature c.now s gs ds c.end
  pub tail : Tail c a b v ds

-- this is told first, and then it goes on so
abbrev pub Then : Case → Scene → List (Stage Obj Load) → List (NodeEntry Obj Load) → List (NodeEntry Obj Load) → Conversation → List Notice → List (Deed Obj Load) → Type 0
Then c s gs a b v front ds = (es : List (Deed Obj Load)) × (told_of ds ≡ front ++ told_of es) × Goes c s gs a b v es

-- this is told first, and the Tftp is called by m at p, and then what it asks for is to run
abbrev pub CallsTftp : Case → Scene → List (Stage Obj Load) → List (NodeEntry Obj Load) → List (NodeEntry Obj Load) → Conversation → List Notice → (Bool → Fx Obj Load → NodeEntry Obj Load) → Said → Port → Way → (Bool → Fx Obj Load → Option Said) → List (Deed Obj Load) → Type 0
CallsTftp c s gs a b v front entry m p by left ds =
    (done : Bool) × (fx : Fx Obj Load) × (w : Conversation) × Continues v (entry done fx) w
    × Then c s (runs_of obj_nature c.tftp m done fx ++ Holds p by (left done fx) ∷ gs) a (b ++ entry done fx ∷ []) w front ds

-- the Fetch is
abbrev pub CallsFetch : Case → Scene → List (Stage Obj Load) → List (NodeEntry Obj Load) → List (NodeEntry Obj Load) → Conversation → List Notice → (Bool → Fx Obj Load → NodeEntry Obj Load) → Said → Port → Way → (Bool → Fx Obj Load → Option Said) → List (Deed Obj Load) → Type 0
CallsFetch c s gs a b v front entry m p by left ds =
    (done : Bool) × (fx : Fx Obj Load) × AsksOfFetch a (entry done fx)
    × Then c s (runs_of obj_nature c.fetch m done fx ++ Holds p by (left done fx) ∷ gs) (a ++ entry done fx ∷ []) b v front ds

rest-free : (x : ℕ) (e : GraphEvent) (es : List GraphEvent) → NotFreed x (e ∷ es) → NotFreed x es
rest-free x (Made y k) es h = h
rest-free x (Held y) es h = h
rest-free x (LetGo y) es h = h
rest-free x (Plugged p q) es h = h
rest-free x (Entered p by) es h = h
rest-free x (Left p) es h = h
rest-free x (Dropped p) es h = h
rest-free x (Closed p c) es h = h
rest-free x (Unplugged p q) es h = h
rest-free x (Freed y) es h = h.1

module _ (c : Case) (a b : List (NodeEntry Obj Load)) (v : Conversation) where
  -- an event is first
  pub tail-event : (e : GraphEvent) (ds : List (Deed Obj Load)) → Tail c a b v (writes e ∷ ds) → Tail c a b v ds
  tail-event e ds t = record {
    asks = t.asks;
    fetched = t.fetched;
    talks = t.talks;
    talked = t.talked;
    stays_fetch = rest-free c.fetch e (events_of ds) t.stays_fetch;
    stays_tftp = rest-free c.tftp e (events_of ds) t.stays_tftp;
  }

  -- a turn is
  pub tail-turn : (u : Turn) (ds : List (Deed Obj Load)) → Tail c a b v (turns u ∷ ds) → Tail c a b v ds
  tail-turn u ds t = record {
    asks = t.asks;
    fetched = t.fetched;
    talks = t.talks;
    talked = t.talked;
    stays_fetch = t.stays_fetch;
    stays_tftp = t.stays_tftp;
  }

  same : (x : ℕ) → eqb x x ≡ true
  same x = eq-eqb x x refl

  -- the Fetch is called
  pub tail-fetch : (i : NodeEntry Obj Load) (ds : List (Deed Obj Load)) → Tail c a b v (calls c.fetch i ∷ ds) → AsksOfFetch a i × Tail c (a ++ i ∷ []) b v ds
  tail-fetch i ds t =
      let own : entries_of c.fetch (calls c.fetch i ∷ ds) ≡ i ∷ entries_of c.fetch ds = rw (same c.fetch) refl in
      let other : entries_of c.tftp (calls c.fetch i ∷ ds) ≡ entries_of c.tftp ds = rw (ne_eqb c.tftp c.fetch (λ z. c.apart (sym z))) refl in
      let asked : EachOf AsksOfFetch a (i ∷ entries_of c.fetch ds) = subst (λ z. EachOf AsksOfFetch a z) own t.asks in (
        asked.0,
        record {
          asks = asked.1;
          fetched = append_assoc a (i ∷ []) (entries_of c.fetch ds) ∙ (ap (λ z. a ++ z) (sym own) ∙ t.fetched);
          talks = subst (λ z. RunsTo v z c.talk) other t.talks;
          talked = ap (λ z. b ++ z) (sym other) ∙ t.talked;
          stays_fetch = t.stays_fetch;
          stays_tftp = t.stays_tftp;
        },
      )

  -- the Tftp is called
  pub tail-tftp : (i : NodeEntry Obj Load) (ds : List (Deed Obj Load)) → Tail c a b v (calls c.tftp i ∷ ds) → (w : Conversation) × Continues v i w × Tail c a (b ++ i ∷ []) w ds
  tail-tftp i ds t =
      let own : entries_of c.tftp (calls c.tftp i ∷ ds) ≡ i ∷ entries_of c.tftp ds = rw (same c.tftp) refl in
      let other : entries_of c.fetch (calls c.tftp i ∷ ds) ≡ entries_of c.fetch ds = rw (ne_eqb c.fetch c.tftp c.apart) refl in
      let talk : RunsTo v (i ∷ entries_of c.tftp ds) c.talk = subst (λ z. RunsTo v z c.talk) own t.talks in (
        talk.0,
        talk.1,
        record {
          asks = subst (λ z. EachOf AsksOfFetch a z) other t.asks;
          fetched = ap (λ z. a ++ z) (sym other) ∙ t.fetched;
          talks = talk.2;
          talked = append_assoc b (i ∷ []) (entries_of c.tftp ds) ∙ (ap (λ z. b ++ z) (sym own) ∙ t.talked);
          stays_fetch = t.stays_fetch;
          stays_tftp = t.stays_tftp;
        },
      )

-- a load that comes back changes no conversation
regained : (v w : Conversation) (l : Load) → Continues v (regain l) w → w ≡ v
regained v w l (talk_ends _ _ e p) = absurd (false≢true e)
regained v w l (rests _ _ e p) = refl

-- an object that is held isn't freed where it is settled
module _ (c : Case) (s : Scene) (gs : List (Stage Obj Load)) (a b : List (NodeEntry Obj Load)) (v : Conversation) (ds : List (Deed Obj Load)) where
  -- an event was first, and this is left
  event-first : (e : GraphEvent) (s' : Scene) (gs' : List (Stage Obj Load)) (es : List (Deed Obj Load)) → Tail c a b v ds → ds ≡ writes e ∷ es → UsesStack obj_nature c.now s' gs' es c.end
      → Then c s' gs' a b v (event (flat e) ∷ []) ds
  event-first e s' gs' es t i u = (es, ap told_of i, record { uses = u; tail = tail-event c a b v e es (subst (Tail c a b v) i t) })

  turn-first : (k : Turn) (s' : Scene) (gs' : List (Stage Obj Load)) (es : List (Deed Obj Load)) → Tail c a b v ds → ds ≡ turns k ∷ es → UsesStack obj_nature c.now s' gs' es c.end
      → Then c s' gs' a b v (notice_of k) ds
  turn-first k s' gs' es t i u = (es, ap told_of i, record { uses = u; tail = tail-turn c a b v k es (subst (Tail c a b v) i t) })

  -- a port without a link is closed
  pub closes-open : (p : Port) (z : Cause) → state_at s p ≡ port.Open → Goes c s (Closes p z ∷ gs) a b v ds → Then c (after_noted (Closed p z) s) gs a b v (event (flat (Closed p z)) ∷ []) ds
  closes-open p z o g = let k = close_open obj_nature c.now s c.end p z gs ds o g.uses in event-first (Closed p z) _ gs k.0 g.tail k.1 k.2

  -- one that is closed already
  pub closes-shut : (p : Port) (z : Cause) → open_count (state_at s p) ≡ 0 → Goes c s (Closes p z ∷ gs) a b v ds → Then c s gs a b v [] ds
  closes-shut p z o g = let k = close_shut obj_nature c.now s c.end p z gs ds o g.uses in turn-first (is_shut p) s gs k.0 g.tail k.1 k.2

  -- a message leaves by an open port without a link
  pub sends-out : (p : Port) (m : Said) → state_at s p ≡ port.Open → Goes c s (Sends p m ∷ gs) a b v ds → Then c s gs a b v (message p m.tag m.rec m.a m.b m.bytes ∷ []) ds
  sends-out p m o g = let k = send_open obj_nature c.now s c.end p m gs ds o g.uses in turn-first (goes_out p m) s gs k.0 g.tail k.1 k.2

  -- what is left of a message at a closed port is dropped
  pub drops-rest : (p : Port) (m : Said) → open_count (state_at s p) ≡ 0 → Goes c s (Holds p way.Up (Some m) ∷ gs) a b v ds → Then c s (Holds p way.Up None ∷ gs) a b v (event (flat (Dropped p)) ∷ []) ds
  drops-rest p m o g = let k = rest_shut obj_nature c.now s c.end p m gs ds o g.uses in event-first (Dropped p) s _ k.0 g.tail k.1 k.2

  -- an entry ends
  pub leaves-entry : (p : Port) (by : Way) → Goes c s (Holds p by None ∷ gs) a b v ds → Then c s (settles_by by p.obj.0 ++ gs) a b v (event (flat (Left p)) ∷ []) ds
  leaves-entry p by g = let k = entry_ends obj_nature c.now s c.end p by gs ds g.uses in event-first (Left p) s _ k.0 g.tail k.1 k.2

  -- a link is unplugged
  pub unplugs-link : (p q : Port) → Goes c s (MustUnplug p q ∷ gs) a b v ds
      → Then c (after_noted (Unplugged p q) s) (Settles (min p.obj.0 q.obj.0) ∷ Settles (max p.obj.0 q.obj.0) ∷ gs) a b v (event (flat (Unplugged p q)) ∷ []) ds
  unplugs-link p q g = let k = unplugged_then obj_nature c.now s c.end p q gs ds g.uses in event-first (Unplugged p q) _ _ k.0 g.tail k.1 k.2

  -- one of the two objects is settled: it stays
  pub stays-held : (x : ℕ) → (x ≡ c.fetch) ⊎ (x ≡ c.tftp) → Goes c s (Settles x ∷ gs) a b v ds → Then c s gs a b v [] ds
  stays-held x which g = elim (settled obj_nature c.now s c.end (record { 0 = x }) gs ds g.uses) [
    | inl k ↦ absurd (elim which [
      | inl i ↦ (subst (λ z. NotFreed c.fetch (events_of z)) k.1 g.tail.stays_fetch).0 i
      | inr i ↦ (subst (λ z. NotFreed c.tftp (events_of z)) k.1 g.tail.stays_tftp).0 i
    ])
    | inr k ↦ turn-first (stays x) s gs k.0 g.tail k.1 k.2
  ]

  -- a load comes back to the Tftp
  pub comes-back : (l : Load) → Goes c s (Returns c.tftp l ∷ gs) a b v ds → Then c s gs a (b ++ regain l ∷ []) v [] ds
  comes-back l g =
      let k = returned obj_nature c.now s c.end c.tftp l gs ds g.uses in
      let t = tail-tftp c a b v (regain l) k.0 (subst (Tail c a b v) k.1 g.tail) in
      (k.0, ap told_of k.1, record { uses = k.2; tail = subst (λ z. Tail c a (b ++ regain l ∷ []) z k.0) (regained v t.0 l t.1) t.2 })

  -- or to the Fetch
  pub comes-back-above : (l : Load) → Goes c s (Returns c.fetch l ∷ gs) a b v ds → Then c s gs (a ++ regain l ∷ []) b v [] ds
  comes-back-above l g =
      let k = returned obj_nature c.now s c.end c.fetch l gs ds g.uses in
      let t = tail-fetch c a b v (regain l) k.0 (subst (Tail c a b v) k.1 g.tail) in
      (k.0, ap told_of k.1, record { uses = k.2; tail = t.1 })

  -- a message from outside enters the Tftp, which is called
  pub offers-up : (k : ℕ) (m : Said) → 1 ≤ k → state_at s (port_at c.tftp k) ≡ port.Open → Goes c s (Offers (port_at c.tftp k) m ∷ gs) a b v ds
      → CallsTftp c s gs a b v (event (flat (Entered (port_at c.tftp k) way.Up)) ∷ []) (λ done fx. up k m c.now done fx) m (port_at c.tftp k) way.Up (λ done fx. rest m done fx) ds
  offers-up k m i o g =
      let x = offer_up obj_nature c.now s c.end (port_at c.tftp k) m gs ds i o g.uses in
      let e : NodeEntry Obj Load = up k m c.now x.0 x.1 in
      let t = tail-tftp c a b v e x.2.0 (tail-event c a b v (Entered (port_at c.tftp k) way.Up) (calls c.tftp e ∷ x.2.0) (subst (Tail c a b v) x.2.1 g.tail)) in
      (x.0, x.1, t.0, t.1, (x.2.0, ap told_of x.2.1, record { uses = x.2.2; tail = t.2 }))

  -- time comes to the Tftp
  pub ticks-in : s.live c.tftp ≡ true → Goes c s (Ticks c.tftp ∷ gs) a b v ds
      → CallsTftp c s gs a b v (event (flat (Entered (port_at c.tftp 4) way.Time)) ∷ []) (λ done fx. time c.now done fx) silence (port_at c.tftp 4) way.Time (λ done fx. None) ds
  ticks-in o g =
      let x = tick_live obj_nature c.now s c.end c.tftp gs ds o g.uses in
      let e : NodeEntry Obj Load = time c.now x.0 x.1 in
      let t = tail-tftp c a b v e x.2.0 (tail-event c a b v (Entered (port_at c.tftp 4) way.Time) (calls c.tftp e ∷ x.2.0) (subst (Tail c a b v) x.2.1 g.tail)) in
      (x.0, x.1, t.0, t.1, (x.2.0, ap told_of x.2.1, record { uses = x.2.2; tail = t.2 }))

  -- a message goes up over the link into the Fetch, which is called
  pub sends-up : (j k : ℕ) (m : Said) → state_at s (port_at c.tftp j) ≡ port.Linked (port_at c.fetch k) → 1 ≤ k → Goes c s (Sends (port_at c.tftp j) m ∷ gs) a b v ds
      → CallsFetch c s gs a b v (event (flat (Entered (port_at c.fetch k) way.Up)) ∷ []) (λ done fx. up k m c.now done fx) m (port_at c.fetch k) way.Up (λ done fx. rest m done fx) ds
  sends-up j k m o i g =
      let x = send_up obj_nature c.now s c.end (port_at c.tftp j) (port_at c.fetch k) m gs ds o i g.uses in
      let e : NodeEntry Obj Load = up k m c.now x.0 x.1 in
      let u = tail-turn c a b v (arrives (port_at c.tftp j) (port_at c.fetch k)) (writes (Entered (port_at c.fetch k) way.Up) ∷ (calls c.fetch e ∷ x.2.0)) (subst (Tail c a b v) x.2.1 g.tail) in
      let t = tail-fetch c a b v e x.2.0 (tail-event c a b v (Entered (port_at c.fetch k) way.Up) (calls c.fetch e ∷ x.2.0) u) in
      (x.0, x.1, t.0, (x.2.0, ap told_of x.2.1, record { uses = x.2.2; tail = t.1 }))

  -- three events are first, as where a linked port is closed
  tail-closes : (p q : Port) (z : Cause) (es : List (Deed Obj Load)) → Tail c a b v (writes (Closed p z) ∷ (writes (Closed q z) ∷ (writes (Entered q way.Close) ∷ es))) → Tail c a b v es
  tail-closes p q z es t =
      tail-event c a b v (Entered q way.Close) es
      (tail-event c a b v (Closed q z) (writes (Entered q way.Close) ∷ es)
      (tail-event c a b v (Closed p z) (writes (Closed q z) ∷ (writes (Entered q way.Close) ∷ es)) t))

  -- the link is closed from below: the Fetch hears of it
  pub closes-up : (j k : ℕ) (z : Cause) → state_at s (port_at c.tftp j) ≡ port.Linked (port_at c.fetch k) → Goes c s (Closes (port_at c.tftp j) z ∷ gs) a b v ds
      → (fx : Fx Obj Load) × AsksOfFetch a (closed k z c.now fx)
      × Then c (after_noted (Closed (port_at c.fetch k) z) (after_noted (Closed (port_at c.tftp j) z) s))
      (runs_of obj_nature c.fetch silence true fx ++ Holds (port_at c.fetch k) way.Close None ∷ MustUnplug (port_at c.tftp j) (port_at c.fetch k) ∷ gs)
      (a ++ closed k z c.now fx ∷ []) b v
      (event (flat (Closed (port_at c.tftp j) z)) ∷ event (flat (Closed (port_at c.fetch k) z)) ∷ event (flat (Entered (port_at c.fetch k) way.Close)) ∷ []) ds
  closes-up j k z o g =
      let x = close_link obj_nature c.now s c.end (port_at c.tftp j) (port_at c.fetch k) z gs ds o g.uses in
      let e : NodeEntry Obj Load = closed k z c.now x.0 in
      let t = tail-fetch c a b v e x.1.0 (tail-closes (port_at c.tftp j) (port_at c.fetch k) z (calls c.fetch e ∷ x.1.0) (subst (Tail c a b v) x.1.1 g.tail)) in
      (x.0, t.0, (x.1.0, ap told_of x.1.1, record { uses = x.1.2; tail = t.1 }))

  -- or from above: the Tftp does
  pub closes-down : (j k : ℕ) (z : Cause) → state_at s (port_at c.fetch j) ≡ port.Linked (port_at c.tftp k) → Goes c s (Closes (port_at c.fetch j) z ∷ gs) a b v ds
      → (fx : Fx Obj Load) × (w : Conversation) × Continues v (closed k z c.now fx) w
      × Then c (after_noted (Closed (port_at c.tftp k) z) (after_noted (Closed (port_at c.fetch j) z) s))
      (runs_of obj_nature c.tftp silence true fx ++ Holds (port_at c.tftp k) way.Close None ∷ MustUnplug (port_at c.fetch j) (port_at c.tftp k) ∷ gs)
      a (b ++ closed k z c.now fx ∷ []) w
      (event (flat (Closed (port_at c.fetch j) z)) ∷ event (flat (Closed (port_at c.tftp k) z)) ∷ event (flat (Entered (port_at c.tftp k) way.Close)) ∷ []) ds
  closes-down j k z o g =
      let x = close_link obj_nature c.now s c.end (port_at c.fetch j) (port_at c.tftp k) z gs ds o g.uses in
      let e : NodeEntry Obj Load = closed k z c.now x.0 in
      let t = tail-tftp c a b v e x.1.0 (tail-closes (port_at c.fetch j) (port_at c.tftp k) z (calls c.tftp e ∷ x.1.0) (subst (Tail c a b v) x.1.1 g.tail)) in
      (x.0, t.0, t.1, (x.1.0, ap told_of x.1.1, record { uses = x.1.2; tail = t.2 }))

  -- nothing is left
  pub is-over : Goes c s [] a b v ds → (ds ≡ []) × (s ≡ c.end) × (a ≡ c.above) × (b ≡ c.below) × (v ≡ c.talk)
  is-over g =
      let k = nothing obj_nature c.now s c.end ds g.uses in
      let t = subst (Tail c a b v) k.0 g.tail in
      (k.0, k.1, sym (append-nil a) ∙ t.fetched, sym (append-nil b) ∙ t.talked, t.talks)

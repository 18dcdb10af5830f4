-- More of how a call on the two objects goes on: messages that go down, and where memory runs out.
use Rattle.std.proofs.Common.{◌≡◌, ℕ, false, List, [], ◌∷◌, ◌++◌, Some, None, refl, ap, ◌∙◌, subst, append_assoc, arith}
use Rattle.nb_terms.specs.declared.cause.Cause.{Cause}
use Rattle.nb_ledger.specs.declared.port.Port.{Port}
use Rattle.nb_ledger.specs.declared.port.PortState.TheVariants as port
use Rattle.nb_ledger.specs.declared.event.Way.TheVariants as way
use Rattle.nb_ledger.specs.declared.event.GraphEvent.{GraphEvent}
use Rattle.nb_ledger.specs.declared.event.GraphEvent.TheVariants.{Entered}
use Rattle.nb_ledger.specs.Flat.{event, flat}
use Rattle.nb_ledger.specs.Ledger.{open_count}
use Rattle.nb_effects.specs.declared.effects.Fx.{Fx}
use Rattle.nb_graph.specs.Whole.{port_at}
use Rattle.nb_graph.specs.Trace.{NodeEntry, Said, down, lent}
use Rattle.nb_graph.specs.Deeds.{Deed, writes, calls, arrives, Stage, Closes, Sends, Offers, told_of, no_memory, returns_of, all_closes, runs_of}
use Rattle.nb_graph.specs.Scene.{Scene, state_at}
use Rattle.nb_graph.specs.Follows.{UsesStack, closes_alone, closes_link, closes_none}
use Rattle.nb_graph.proofs.Laws.{send_down, offer_down, returned}
use Rattle.nb_nodes.specs.declared.load.Load.{Load}
use Rattle.nb_nodes.specs.declared.obj.Obj.{Obj}
use Rattle.nb_nodes.specs.Objects.{obj_nature}
use Rattle.nb_nodes.specs.Conversations.{Conversation}
use Rattle.nb_opens.specs.Notices.{first_close}
use Rattle.nb_opens.proofs.Going.{Case, Tail, Goes, CallsFetch, CallsTftp, tail-event, tail-turn, tail-fetch, tail-tftp}

-- the first close that is told is that of this port
closes-first : (now : ℕ) (s t : Scene) (p : Port) (c : Cause) (gs : List (Stage Obj Load)) (ds : List (Deed Obj Load)) → open_count (state_at s p) ≡ 1 → UsesStack obj_nature now s (Closes p c ∷ gs) ds t
    → first_close (told_of ds) ≡ Some c
closes-first now s t p c gs [] o h = absurd h
closes-first now s t _ _ gs (_ ∷ ds) o (_, closes_alone p c e, h) = refl
closes-first now s t _ _ gs (_ ∷ ds) o (_, closes_link p q c e, h) = refl
closes-first now s t _ _ gs (_ ∷ ds) o (_, closes_none p c e, h) = absurd (omega (arith, o, e))

-- loads that come back are not told of
returns-told : (now : ℕ) (s t : Scene) (x : ℕ) (ls : List Load) (gs : List (Stage Obj Load)) (ds : List (Deed Obj Load)) → UsesStack obj_nature now s (returns_of x ls ++ gs) ds t
    → (es : List (Deed Obj Load)) × (told_of ds ≡ told_of es) × UsesStack obj_nature now s gs es t
returns-told now s t x [] gs ds h = (ds, refl, h)
returns-told now s t x (l ∷ ls) gs ds h =
    let k = returned obj_nature now s t x l (returns_of x ls ++ gs) ds h in
    let r = returns-told now s t x ls gs k.0 k.2 in
    (r.0, ap told_of k.1 ∙ r.1, r.2)

-- a node ran out of memory: its port 0 is closed first
pub fails-told : (now : ℕ) (s t : Scene) (x : ℕ) (m : Said) (fx : Fx Obj Load) (gs : List (Stage Obj Load)) (ds : List (Deed Obj Load)) → open_count (s.port x 0) ≡ 1
    → UsesStack obj_nature now s (runs_of obj_nature x m false fx ++ gs) ds t → first_close (told_of ds) ≡ Some no_memory
fails-told now s t x m fx gs ds o h =
    let k = returns-told now s t x (lent fx) (all_closes x no_memory ++ gs) ds (subst (λ z. UsesStack obj_nature now s z ds t) (append_assoc (returns_of x (lent fx)) (all_closes x no_memory) gs) h) in
    ap first_close k.1 ∙ closes-first now s t (port_at x 0) no_memory (Closes (port_at x 1) no_memory ∷ Closes (port_at x 2) no_memory ∷ Closes (port_at x 3) no_memory ∷ gs) k.0 o k.2

module _ (c : Case) (s : Scene) (gs : List (Stage Obj Load)) (a b : List (NodeEntry Obj Load)) (v : Conversation) (ds : List (Deed Obj Load)) where
  -- the user's message enters the Fetch
  pub offered-fetch : (m : Said) → state_at s (port_at c.fetch 0) ≡ port.Open → Goes c s (Offers (port_at c.fetch 0) m ∷ gs) a b v ds
      → CallsFetch c s gs a b v (event (flat (Entered (port_at c.fetch 0) way.Down)) ∷ []) (λ done fx. down m c.now done fx) m (port_at c.fetch 0) way.Down (λ done fx. None) ds
  offered-fetch m o g =
      let k = offer_down obj_nature c.now s c.end (port_at c.fetch 0) m gs ds refl o g.uses in
      let i = down m c.now k.0 k.1 in
      let t = tail-fetch c a b v i k.2.0 (tail-event c a b v (Entered (port_at c.fetch 0) way.Down) (calls c.fetch i ∷ k.2.0) (subst (Tail c a b v) k.2.1 g.tail)) in
      (k.0, k.1, t.0, (k.2.0, ap told_of k.2.1, record { uses = k.2.2; tail = t.1 }))

  -- a message of the Fetch goes down to the Tftp
  pub passes-down : (m : Said) → state_at s (port_at c.fetch 1) ≡ port.Linked (port_at c.tftp 0) → Goes c s (Sends (port_at c.fetch 1) m ∷ gs) a b v ds
      → CallsTftp c s gs a b v (event (flat (Entered (port_at c.tftp 0) way.Down)) ∷ []) (λ done fx. down m c.now done fx) m (port_at c.tftp 0) way.Down (λ done fx. None) ds
  passes-down m o g =
      let k = send_down obj_nature c.now s c.end (port_at c.fetch 1) (port_at c.tftp 0) m gs ds o refl g.uses in
      let i = down m c.now k.0 k.1 in
      let e : GraphEvent = Entered (port_at c.tftp 0) way.Down in
      let t = tail-tftp c a b v i k.2.0 (tail-event c a b v e (calls c.tftp i ∷ k.2.0) (tail-turn c a b v (arrives (port_at c.fetch 1) (port_at c.tftp 0)) (writes e ∷ calls c.tftp i ∷ k.2.0) (subst (Tail c a b v) k.2.1 g.tail))) in
      (k.0, k.1, t.0, t.1, (k.2.0, ap told_of k.2.1, record { uses = k.2.2; tail = t.2 }))

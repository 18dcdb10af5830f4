-- In a call that asks for no hold no hold changes, and an object that was made before begins no new trace.
use Rattle.std.proofs.Common.{◌≡◌, ℕ, ◌<◌, ◌≤◌, Bool, true, false, inl, inr, List, [], ◌∷◌, ◌++◌, Option, Some, None, sym, ◌∙◌, append_assoc, arith}
use Rattle.std.proofs.lemmas.Bool.{cases_eq, eq-eqb, ne_eqb}
use Rattle.std.proofs.lemmas.List.{append-nil}
use Rattle.nb_terms.specs.declared.cause.Cause.{Cause}
use Rattle.nb_ledger.specs.declared.event.Way.{Way}
use Rattle.nb_ledger.specs.declared.event.Way.TheVariants as way
use Rattle.nb_ledger.specs.declared.event.GraphEvent.{GraphEvent}
use Rattle.nb_ledger.specs.declared.event.GraphEvent.TheVariants.{Made, Held, LetGo, Plugged, Entered, Left, Dropped, Closed, Unplugged, Freed}
use Rattle.nb_effects.specs.declared.effects.Fx.{Fx}
use Rattle.nb_effects.specs.declared.effects.Make.{Make}
use Rattle.nb_effects.specs.declared.effects.Emit.{Emit}
use Rattle.nb_effects.specs.declared.effects.Few.{Few}
use Rattle.nb_graph.specs.Trace.{Nature, NodeEntry, Said, silence, in_list, lent}
use Rattle.nb_graph.specs.Deeds.{Deed, writes, begins, calls, turns, Stage, Shut, MustHear, Holds, Makes, MustMake, MustBegin, MustPlug, Closes, MustShut, Ends, Sends, Gives, Offers, Ticks, Returns, Wants, MustUnplug, Settles, LetsAllGo, events_of, trace_after, closes_of, all_closes, makes_of, returns_of, emit_of, few_of, runs_of, settles_by, no_memory}
use Rattle.nb_graph.specs.Scene.{Scene}
use Rattle.nb_graph.specs.Follows.{Becomes, UsesStack, after_deed, closes_alone, closes_link, closes_none, peer_closes, peer_enters, peer_hears, unplugs, frees, keeps, passes, leaves, drops, returns, enters_up, enters_down, offered_up, offered_down, refused, takes, takes_down, drops_rest, ends, ticks, takes_time, ticks_none, makes, makes_none, finds_none, has_begun, plugs, made_outside, held, let_go, next, none_left, lets, lets_none}
use Rattle.nb_opens.specs.Entries.{entries_of}
use Rattle.nb_opens.proofs.HoldLemmas.{LeavesHolds}
use Rattle.nb_graph.proofs.MarkLemmas.{BeginsNone}

-- it asks for no hold, and for no object with a serial up to k
abbrev pub IsQuietStage : {N L : Type 0} → ℕ → Stage N L → Type 0
IsQuietStage k (Shut p c) = Unit {0}
IsQuietStage k (MustHear p c) = Unit {0}
IsQuietStage k (Holds p by m) = Unit {0}
IsQuietStage k (Makes p n) = Unit {0}
IsQuietStage k (MustMake x n) = ⊥
IsQuietStage k (MustBegin x n) = k < x
IsQuietStage k (MustPlug p q) = Unit {0}
IsQuietStage k (Closes p c) = Unit {0}
IsQuietStage k (MustShut p c) = Unit {0}
IsQuietStage k (Ends after c) = ⊥
IsQuietStage k (Sends p m) = Unit {0}
IsQuietStage k (Gives p m) = Unit {0}
IsQuietStage k (Offers p m) = Unit {0}
IsQuietStage k (Ticks x) = Unit {0}
IsQuietStage k (Returns x l) = Unit {0}
IsQuietStage k (Wants e) = ⊥
IsQuietStage k (MustUnplug p q) = Unit {0}
IsQuietStage k (Settles x) = Unit {0}
IsQuietStage k LetsAllGo = ⊥

abbrev pub AreQuiet : {N L : Type 0} → ℕ → List (Stage N L) → Type 0
AreQuiet k [] = Unit {0}
AreQuiet k (g ∷ gs) = IsQuietStage k g × AreQuiet k gs

-- so does what happens
abbrev pub IsQuietEvent : ℕ → GraphEvent → Type 0
IsQuietEvent k (Made x kind) = k < x.0
IsQuietEvent k (Held x) = ⊥
IsQuietEvent k (LetGo x) = ⊥
IsQuietEvent k (Plugged p q) = Unit {0}
IsQuietEvent k (Entered p by) = Unit {0}
IsQuietEvent k (Left p) = Unit {0}
IsQuietEvent k (Dropped p) = Unit {0}
IsQuietEvent k (Closed p c) = Unit {0}
IsQuietEvent k (Unplugged p q) = Unit {0}
IsQuietEvent k (Freed x) = Unit {0}

abbrev pub IsQuietDeed : {N L : Type 0} → ℕ → Deed N L → Type 0
IsQuietDeed k (writes e) = IsQuietEvent k e
IsQuietDeed k (begins x n) = k < x
IsQuietDeed k (calls x i) = Unit {0}
IsQuietDeed k (turns u) = Unit {0}

apart : (k x y : ℕ) → x ≤ k → k < y → y ≡ x → ⊥
apart k x y i j e = omega (arith, i, j, e)

module _ {N L : Type 0} (known : Nature N L) where
  quiet-append : (k : ℕ) (gs hs : List (Stage N L)) → AreQuiet k gs → AreQuiet k hs → AreQuiet k (gs ++ hs)
  quiet-append k [] hs a b = b
  quiet-append k (g ∷ gs) hs a b = (a.0, quiet-append k gs hs a.1 b)

  quiet-closes : (k x : ℕ) (cs : List (ℕ × Cause)) → AreQuiet {N = N} {L = L} k (closes_of x cs)
  quiet-closes k x [] = tt
  quiet-closes k x (c ∷ cs) = (tt, quiet-closes k x cs)

  quiet-returns : (k x : ℕ) (ls : List L) → AreQuiet {N = N} {L = L} k (returns_of x ls)
  quiet-returns k x [] = tt
  quiet-returns k x (l ∷ ls) = (tt, quiet-returns k x ls)

  quiet-emit : (k x : ℕ) (m : Said) (e : Option (Emit L)) → AreQuiet {N = N} {L = L} k (emit_of known x m e)
  quiet-emit k x m None = tt
  quiet-emit k x m (Some e) = (tt, quiet-returns k x (in_list e.load))

  quiet-few : (k x : ℕ) (m : Said) (f : Few (Emit L)) → AreQuiet {N = N} {L = L} k (few_of known x m f)
  quiet-few k x m f = quiet-append k (emit_of known x m f.first) (emit_of known x m f.second) (quiet-emit k x m f.first) (quiet-emit k x m f.second)

  quiet-makes : (k x : ℕ) (m : Option (Make N)) → AreQuiet {N = N} {L = L} k (makes_of x m)
  quiet-makes k x None = tt
  quiet-makes k x (Some m) = (tt, tt)

  quiet-runs : (k x : ℕ) (m : Said) (done : Bool) (fx : Fx N L) → AreQuiet k (runs_of known x m done fx)
  quiet-runs k x m true fx =
      quiet-append k (makes_of x fx.makes) (few_of known x m fx.downs ++ (few_of known x m fx.ups ++ closes_of x fx.closes.items)) (quiet-makes k x fx.makes)
      (quiet-append k (few_of known x m fx.downs) (few_of known x m fx.ups ++ closes_of x fx.closes.items) (quiet-few k x m fx.downs)
      (quiet-append k (few_of known x m fx.ups) (closes_of x fx.closes.items) (quiet-few k x m fx.ups) (quiet-closes k x fx.closes.items)))
  quiet-runs k x m false fx = quiet-append k (returns_of x (lent fx)) (all_closes x no_memory) (quiet-returns k x (lent fx)) (tt, (tt, (tt, (tt, tt))))

  quiet-settles : (k : ℕ) (by : Way) (x : ℕ) → AreQuiet {N = N} {L = L} k (settles_by by x)
  quiet-settles k way.Up x = (tt, tt)
  quiet-settles k way.Down x = (tt, tt)
  quiet-settles k way.Time x = (tt, tt)
  quiet-settles k way.Close x = tt

  -- a deed of a quiet stage is quiet, and so is what the stage becomes
  becomes-quiet : (now k : ℕ) (s : Scene) (g : Stage N L) (d : Deed N L) (more : List (Stage N L)) → Becomes known now s g d more → IsQuietStage k g → k ≤ s.made
      → AreQuiet k more × (IsQuietDeed k d × (k ≤ (after_deed d s).made))
  becomes-quiet now k s _ _ _ (closes_alone p c e) q h = (tt, (tt, h))
  becomes-quiet now k s _ _ _ (closes_link p r c e) q h = ((tt, (tt, tt)), (tt, h))
  becomes-quiet now k s _ _ _ (closes_none p c e) q h = (tt, (tt, h))
  becomes-quiet now k s _ _ _ (peer_closes p c) q h = ((tt, tt), (tt, h))
  becomes-quiet now k s _ _ _ (peer_enters p c) q h = ((tt, tt), (tt, h))
  becomes-quiet now k s _ _ _ (peer_hears x slot c fx) q h = (quiet-append k _ _ (quiet-runs k x silence true fx) (tt, tt), (tt, h))
  becomes-quiet now k s _ _ _ (unplugs p r) q h = ((tt, (tt, tt)), (tt, h))
  becomes-quiet now k s _ _ _ (frees x) q h = (tt, (tt, h))
  becomes-quiet now k s _ _ _ (keeps x) q h = (tt, (tt, h))
  becomes-quiet now k s _ _ _ (passes p r m e) q h = ((tt, tt), (tt, h))
  becomes-quiet now k s _ _ _ (leaves p m e) q h = (tt, (tt, h))
  becomes-quiet now k s _ _ _ (drops p m e) q h = (tt, (tt, h))
  becomes-quiet now k s _ _ _ (returns x l) q h = (tt, (tt, h))
  becomes-quiet now k s _ _ _ (enters_up p m i e) q h = ((tt, tt), (tt, h))
  becomes-quiet now k s _ _ _ (enters_down p m i e) q h = ((tt, tt), (tt, h))
  becomes-quiet now k s _ _ _ (offered_up p m i e) q h = ((tt, tt), (tt, h))
  becomes-quiet now k s _ _ _ (offered_down p m i e) q h = ((tt, tt), (tt, h))
  becomes-quiet now k s _ _ _ (refused p m e) q h = (tt, (tt, h))
  becomes-quiet now k s _ _ _ (takes x slot m done fx e) q h = (quiet-append k _ _ (quiet-runs k x m done fx) (tt, tt), (tt, h))
  becomes-quiet now k s _ _ _ (takes_down x m done fx) q h = (quiet-append k _ _ (quiet-runs k x m done fx) (tt, tt), (tt, h))
  becomes-quiet now k s _ _ _ (drops_rest p m e) q h = ((tt, tt), (tt, h))
  becomes-quiet now k s _ _ _ (ends p by) q h = (quiet-settles k by p.obj.0, (tt, h))
  becomes-quiet now k s _ _ _ (ticks x e) q h = ((tt, tt), (tt, h))
  becomes-quiet now k s _ _ _ (takes_time x done fx) q h = (quiet-append k _ _ (quiet-runs k x silence done fx) (tt, tt), (tt, h))
  becomes-quiet now k s _ _ _ (ticks_none x e) q h = (tt, (tt, h))
  becomes-quiet now k s _ _ _ (makes p n x e f i) q h = ((omega (arith, i, h), (tt, tt)), (omega (arith, i, h), omega (arith, i, h)))
  becomes-quiet now k s _ _ _ (makes_none p n e) q h = (tt, (tt, h))
  becomes-quiet now k s _ _ _ (finds_none p n e f) q h = ((tt, (tt, (tt, (tt, tt)))), (tt, h))
  becomes-quiet now k s _ _ _ (has_begun x n) q h = (tt, (q, h))
  becomes-quiet now k s _ _ _ (plugs p r e f) q h = (tt, (tt, h))
  becomes-quiet now k s _ _ _ (made_outside x n e i) q h = absurd q
  becomes-quiet now k s _ _ _ (held x e) q h = absurd q
  becomes-quiet now k s _ _ _ (let_go x e) q h = absurd q
  becomes-quiet now k s _ _ _ (next after x c i e f) q h = absurd q
  becomes-quiet now k s _ _ _ (none_left after c f) q h = absurd q
  becomes-quiet now k s _ _ _ (lets x) q h = absurd q
  becomes-quiet now k s _ _ _ lets_none q h = absurd q

  -- what happens leaves the holds of an object up to k, and continues its trace by its entries
  abbrev pub LeavesObject : ℕ → List (Deed N L) → Type 0
  LeavesObject x ds = LeavesHolds x (events_of ds) × ((tx : List (NodeEntry N L)) → trace_after x tx ds ≡ tx ++ entries_of x ds)

  leaves-event : (k x : ℕ) (e : GraphEvent) (ds : List (Deed N L)) → x ≤ k → IsQuietEvent k e → LeavesObject x ds → LeavesObject x (writes e ∷ ds)
  leaves-event k x (Made y kind) ds i q l = ((apart k x y.0 i q, l.0), l.1)
  leaves-event k x (Held y) ds i q l = absurd q
  leaves-event k x (LetGo y) ds i q l = absurd q
  leaves-event k x (Plugged p r) ds i q l = (l.0, l.1)
  leaves-event k x (Entered p by) ds i q l = (l.0, l.1)
  leaves-event k x (Left p) ds i q l = (l.0, l.1)
  leaves-event k x (Dropped p) ds i q l = (l.0, l.1)
  leaves-event k x (Closed p c) ds i q l = (l.0, l.1)
  leaves-event k x (Unplugged p r) ds i q l = (l.0, l.1)
  leaves-event k x (Freed y) ds i q l = (l.0, l.1)

  leaves-call : (x y : ℕ) (e : NodeEntry N L) (ds : List (Deed N L)) → LeavesObject x ds → (tx : List (NodeEntry N L)) → trace_after x tx (calls y e ∷ ds) ≡ tx ++ entries_of x (calls y e ∷ ds)
  leaves-call x y e ds l tx = elim (cases_eq x y) [
    | inl i ↦ rw (eq-eqb x y i) (l.1 (tx ++ e ∷ []) ∙ append_assoc tx (e ∷ []) (entries_of x ds))
    | inr i ↦ rw (ne_eqb x y i) (l.1 tx)
  ]

  leaves-deed : (k x : ℕ) (d : Deed N L) (ds : List (Deed N L)) → x ≤ k → IsQuietDeed k d → LeavesObject x ds → LeavesObject x (d ∷ ds)
  leaves-deed k x (writes e) ds i q l = leaves-event k x e ds i q l
  leaves-deed k x (begins y n) ds i q l = (l.0, λ tx. rw (ne_eqb x y (λ e. omega (arith, i, q, e))) (l.1 tx))
  leaves-deed k x (calls y e) ds i q l = (l.0, leaves-call x y e ds l)
  leaves-deed k x (turns u) ds i q l = (l.0, l.1)

  pub quiet_run : (now k x : ℕ) (s t : Scene) (gs : List (Stage N L)) (ds : List (Deed N L)) → x ≤ k → AreQuiet k gs → k ≤ s.made → UsesStack known now s gs ds t → LeavesObject x ds
  quiet_run now k x s t [] [] i q h u = (tt, λ tx. sym (append-nil tx))
  quiet_run now k x s t [] (d ∷ ds) i q h u = absurd u
  quiet_run now k x s t (g ∷ gs) [] i q h u = absurd u
  quiet_run now k x s t (g ∷ gs) (d ∷ ds) i q h (more, b, u) =
      let z = becomes-quiet now k s g d more b q.0 h in
      leaves-deed k x d ds i z.1.0 (quiet_run now k x (after_deed d s) t (more ++ gs) ds i (quiet-append k more gs z.0 q.1) z.1.1 u)

  none-deed : (k x : ℕ) (d : Deed N L) (ds : List (Deed N L)) → x ≤ k → IsQuietDeed k d → BeginsNone x ds → BeginsNone x (d ∷ ds)
  none-deed k x (writes e) ds i q l = l
  none-deed k x (begins y n) ds i q l = ((λ e. omega (arith, i, q, e)), l)
  none-deed k x (calls y e) ds i q l = l
  none-deed k x (turns u) ds i q l = l

  -- nor does such an object begin
  pub begins_none : (now k x : ℕ) (s t : Scene) (gs : List (Stage N L)) (ds : List (Deed N L)) → x ≤ k → AreQuiet k gs → k ≤ s.made → UsesStack known now s gs ds t → BeginsNone x ds
  begins_none now k x s t [] [] i q h u = tt
  begins_none now k x s t [] (d ∷ ds) i q h u = absurd u
  begins_none now k x s t (g ∷ gs) [] i q h u = absurd u
  begins_none now k x s t (g ∷ gs) (d ∷ ds) i q h (more, b, u) =
      let z = becomes-quiet now k s g d more b q.0 h in
      none-deed k x d ds i z.1.0 (begins_none now k x (after_deed d s) t (more ++ gs) ds i (quiet-append k more gs z.0 q.1) z.1.1 u)

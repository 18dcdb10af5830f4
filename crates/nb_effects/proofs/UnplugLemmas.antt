-- A link is taken away, and a close is whole.
use Rattle.nb_ledger.specs.Flat.{Heard}
use Rattle.std.proofs.Common.{◌≡◌, ◌≢◌, ℕ, ◌<◌, ◌≤◌, inl, inr, Bool, true, List, [], ◌∷◌, ◌++◌, Option, min, max, refl, ap, sym, ◌∙◌, subst, arith}
use Rattle.nb_terms.specs.declared.cause.Cause.{Cause}
use Rattle.nb_ledger.specs.declared.port.Port.{Port}
use Rattle.nb_ledger.specs.declared.port.PortState.{PortState}
use Rattle.nb_ledger.specs.declared.port.PortState.TheVariants.{Open, Linked, Leaving, Closed}
use Rattle.nb_ledger.specs.declared.event.Way.{Way}
use Rattle.nb_ledger.specs.declared.event.Way.TheVariants.{Close}
use Rattle.nb_ledger.specs.declared.event.GraphEvent.{GraphEvent}
use Rattle.nb_ledger.specs.declared.event.GraphEvent.TheVariants as event
use Rattle.nb_ledger.specs.GraphRun.{OnStack, Running, MustUnplug, IsIdle, Step, GraphRunOf, MayEnter, MayDrop, owed, port_but, link_count}
use Rattle.nb_ledger.specs.Flat.{Tells}
use Rattle.nb_ledger.specs.Ledger.{Ledger, object_lives, busy, rank, port, leaves, open_count, run_state}
use Rattle.nb_ledger.specs.Changes.{SetsBusy, SetsPort}
use Rattle.nb_ledger.proofs.RunLemmas.{Run-append, Tells-append}
use Rattle.nb_effects.specs.Whole.{IsLinked, IsCounted, CountedButTwo, IsBookWhole}
use Rattle.nb_effects.specs.Calm.{Calm, Starts, HalfCloses, EndsEntry, SettlesTwo}
use Rattle.nb_effects.proofs.LinkLemmas.{IsLoose, cases_port, port_but-same, port_but-other, IsLinked-loose}
use Rattle.nb_effects.proofs.WholeLemmas.{but_other, unused-same, two_ports}
use Rattle.nb_effects.proofs.GraphLemmas.{same-length}
use Rattle.nb_effects.proofs.ShrinkLemmas.{Shrinks-refl}
use Rattle.nb_effects.proofs.CalmLemmas.{owed-port, agrees-enter, agrees-leave, flags-back, IsLinked-flag, two-keeps, but-keeps, linked-back}

module _ {b4 b5 m b6 : Ledger} {p q : Port} {was : Bool} (hp : port b4 p.obj.0 p.slot ≡ Leaving q) (hq : port b4 q.obj.0 q.slot ≡ Leaving p) (apart : p.obj.0 ≢ q.obj.0) (c : SetsBusy b4 b5 q.obj.0 was) (a : SetsPort b5 m p Closed) (b : SetsPort m b6 q Closed) where
  pub hp5 : port b5 p.obj.0 p.slot ≡ Leaving q
  hp5 = c.same_port p.obj.0 p.slot ∙ hp

  pub hq5 : port b5 q.obj.0 q.slot ≡ Leaving p
  hq5 = c.same_port q.obj.0 q.slot ∙ hq

  pub hqm : port m q.obj.0 q.slot ≡ Leaving p
  hqm = a.port_set q.obj.0 q.slot ∙ port_but-other p Closed (port b5) q.obj.0 q.slot (λ i. apart (sym i.0)) ∙ hq5

  -- the links that are left are sound
  pub IsLinked-unplug : IsLinked (port b4) (rank b4) → IsLinked (port b6) (rank b6)
  IsLinked-unplug l =
      IsLinked-loose q Closed (port m) (port b6) (rank m) (rank b6) tt (subst IsLoose (sym hqm) tt) b.port_set b.objects.same_rank
      (IsLinked-loose p Closed (port b5) (port m) (rank b5) (rank m) tt (subst IsLoose (sym hp5) tt) a.port_set a.objects.same_rank (IsLinked-flag c l))

  -- all objects but the two are counted
  pub CountedButTwo-unplug : IsCounted b4 → CountedButTwo p.obj.0 q.obj.0 b6
  CountedButTwo-unplug w = λ y n o v.
      unused-same b4 b6 y (b.same_holds y ∙ a.same_holds y ∙ c.same_holds y) (b.same_busy y ∙ a.same_busy y ∙ c.busy_set y ∙ but_other q.obj.0 was (busy b4) y o)
      (λ k. ap link_count (b.port_set y k ∙ port_but-other q Closed (port m) y k (λ i. o i.0) ∙ a.port_set y k ∙ port_but-other p Closed (port b5) y k (λ i. n i.0) ∙ c.same_port y k))
      ∙ w y (sym (b.objects.same_live y ∙ a.objects.same_live y ∙ c.objects.same_live y) ∙ v)

  pub small-unplug : ((y : ℕ) → rank b4 y < 256) → (y : ℕ) → rank b6 y < 256
  small-unplug w y = rw (b.objects.same_rank y ∙ a.objects.same_rank y ∙ c.objects.same_rank y) (w y)

  pub live-unplug : (y : ℕ) → object_lives b6 y ≡ object_lives b4 y
  live-unplug y = b.objects.same_live y ∙ a.objects.same_live y ∙ c.objects.same_live y

  -- the entry of the peer ends and the link goes
  unfoldable pub Ends-unplug : (new : Ledger) (before between next after : Heard) → Tells before between (event.Left q ∷ []) → ((w : Way) (st : List OnStack) → Step (run_state b4 (Running q w ∷ st)) (event.Left q) (owed q.obj.0 (run_state b5 st))) → Tells between next (event.Unplugged p q ∷ []) → ((st : List OnStack) → Step (run_state b5 (MustUnplug p q ∷ st)) (event.Unplugged p q) (owed (min p.obj.0 q.obj.0) (owed (max p.obj.0 q.obj.0) (run_state b6 st)))) → SettlesTwo b6 new next after p.obj q.obj → EndsEntry b4 new before after q.obj.0 was (λ st. Running q Close ∷ MustUnplug p q ∷ st) (port_but q Closed (port_but p Closed (port b4)))
  Ends-unplug new before between next after told step more unplug s =
      let k = s.shrinks in
      record {
        added = event.Left q ∷ event.Unplugged p q ∷ s.added;
        told = Tells-append before between after (event.Left q ∷ []) (event.Unplugged p q ∷ s.added) told (Tells-append between next after (event.Unplugged p q ∷ []) s.added more s.told);
        run = λ st e. (run_state b5 (MustUnplug p q ∷ st), left st, (owed (min p.obj.0 q.obj.0) (owed (max p.obj.0 q.obj.0) (run_state b6 st)), unplug st, s.run st (λ y. b.same_busy y ∙ a.same_busy y ∙ c.busy_set y ∙ e y)));
        same_made = k.same_made ∙ b.objects.same_made ∙ a.objects.same_made ∙ c.objects.same_made;
        same_room = k.same_room ∙ b.objects.same_room ∙ a.objects.same_room ∙ c.objects.same_room;
        fewer = let i = k.fewer in let x = same-length b.objects in let y = same-length a.objects in let z = same-length c.objects in omega arith;
        busy_is = λ y. k.same_busy y ∙ b.same_busy y ∙ a.same_busy y ∙ c.busy_set y;
        leaves_is = λ y j. k.same_leaves y j ∙ ap leaves (two_ports a b y j) ∙ flags y j;
        kept = λ y v. let i = k.kept y v in (sym (live-unplug y) ∙ i.0, i.1 ∙ b.objects.same_rank y ∙ a.objects.same_rank y ∙ c.objects.same_rank y);
        opens_fall = let i = k.opens_fall in let x = b.opens_set in let y = a.opens_set in let z = c.same_opens in let u = ap open_count hqm in let w = ap open_count hp5 in omega arith;
        closes = λ y j. let i = k.closes y j in let x = ap open_count (two_ports a b y j) in let z = two-keeps open_count p q Closed Closed (port b5) (sym (ap open_count hp5)) (sym (ap open_count hq5)) y j in let u = ap open_count (c.same_port y j) in omega arith;
      }
    where
      left : (st : List OnStack) → Step (run_state b4 (Running q Close ∷ MustUnplug p q ∷ st)) (event.Left q) (run_state b5 (MustUnplug p q ∷ st))
      left st = rw (owed-port b5 (MustUnplug p q ∷ st) q.obj.0 q.slot (Leaving p) hq5 refl tt) at (step Close (MustUnplug p q ∷ st))

      flags : (y j : ℕ) → leaves (port_but q Closed (port_but p Closed (port b5)) y j) ≡ leaves (port_but q Closed (port_but p Closed (port b4)) y j)
      flags y j = elim (cases_port y j q) [
        | inl i ↦ ap leaves (port_but-same q Closed (port_but p Closed (port b5)) y j i.0 i.1) ∙ sym (ap leaves (port_but-same q Closed (port_but p Closed (port b4)) y j i.0 i.1))
        | inr n ↦ ap leaves (port_but-other q Closed (port_but p Closed (port b5)) y j n) ∙ inner y j ∙ sym (ap leaves (port_but-other q Closed (port_but p Closed (port b4)) y j n))
      ]
        where
          inner : (y j : ℕ) → leaves (port_but p Closed (port b5) y j) ≡ leaves (port_but p Closed (port b4) y j)
          inner y j = elim (cases_port y j p) [
            | inl i ↦ ap leaves (port_but-same p Closed (port b5) y j i.0 i.1) ∙ sym (ap leaves (port_but-same p Closed (port b4) y j i.0 i.1))
            | inr n ↦ ap leaves (port_but-other p Closed (port b5) y j n) ∙ ap leaves (c.same_port y j) ∙ sym (ap leaves (port_but-other p Closed (port b4) y j n))
          ]

-- a whole close of a linked port
unfoldable pub Calm-link : {b0 b3 b4 new : Ledger} {n0 n3 n4 after : Heard} {p q : Port} {was : Bool} {cause : Cause} → IsLinked (port b0) (rank b0) → port b0 p.obj.0 p.slot ≡ Linked q → Tells n0 n3 (event.Closed p cause ∷ event.Closed q cause ∷ event.Entered q Close ∷ []) → ((st : List OnStack) → IsIdle st → GraphRunOf (run_state b0 st) (event.Closed p cause ∷ event.Closed q cause ∷ event.Entered q Close ∷ []) (run_state b3 (Running q Close ∷ MustUnplug p q ∷ st))) → was ≡ busy b0 q.obj.0 → HalfCloses b0 b3 p q → Calm b3 b4 n3 n4 → EndsEntry b4 new n4 after q.obj.0 was (λ st. Running q Close ∷ MustUnplug p q ∷ st) (port_but q Closed (port_but p Closed (port b4))) → Calm b0 new n0 after
Calm-link {b0} {b3} {b4} {new} {n0} {n3} {n4} {after} {p} {q} {was} {cause} l h told run prior half k e = record {
  added = begun ++ (k.added ++ e.added);
  told = Tells-append n0 n3 after begun (k.added ++ e.added) told (Tells-append n3 n4 after k.added e.added k.told e.told);
  run = λ st idle a.
      Run-append (run_state b0 st) (run_state b3 (inside st)) (run_state new st) begun (k.added ++ e.added) (run st idle)
      (Run-append (run_state b3 (inside st)) (run_state b4 (inside st)) (run_state new st) k.added e.added
      (k.run (inside st) tt (λ x. half.busy_set x ∙ agrees-enter (busy b0) st q.obj.0 a x))
      (e.run st (agrees-leave (busy b0) (busy b4) st q.obj.0 was prior flags a)));
  shrinks = record {
    same_made = e.same_made ∙ k.shrinks.same_made ∙ half.same_made;
    same_room = e.same_room ∙ k.shrinks.same_room ∙ half.same_room;
    fewer = let i = e.fewer in let j = k.shrinks.fewer in let m = half.same_length in omega arith;
    same_busy = λ x. e.busy_is x ∙ flags-back (busy b0) (busy b4) q.obj.0 was prior flags x;
    same_leaves = λ x j. e.leaves_is x j ∙ leaves-back x j;
    kept = λ x v. let i = e.kept x v in let j = k.shrinks.kept x i.0 in (sym (half.same_live x) ∙ j.0, i.1 ∙ j.1 ∙ half.same_rank x);
    opens_fall = let i = e.opens_fall in let j = k.shrinks.opens_fall in let m = half.opens_set in omega arith;
    closes = λ x j. let i = e.closes x j in let m = k.shrinks.closes x j in let n = shut x j in omega arith;
  };
}
  where
    begun : List GraphEvent
    begun = event.Closed p cause ∷ event.Closed q cause ∷ event.Entered q Close ∷ []

    inside : List OnStack → List OnStack
    inside st = Running q Close ∷ MustUnplug p q ∷ st

    back : port b0 q.obj.0 q.slot ≡ Linked p
    back = linked-back b0 p q l h

    flags : (x : ℕ) → (x ≡ q.obj.0 → ⊥) → busy b4 x ≡ busy b0 x
    flags x n = k.shrinks.same_busy x ∙ half.busy_set x ∙ but_other q.obj.0 true (busy b0) x n

    leaves-back : (x j : ℕ) → leaves (port_but q Closed (port_but p Closed (port b4)) x j) ≡ leaves (port b0 x j)
    leaves-back x j = elim (cases_port x j q) [
      | inl i ↦ ap leaves (port_but-same q Closed (port_but p Closed (port b4)) x j i.0 i.1) ∙ sym (ap (λ y. leaves (port b0 y j)) i.0 ∙ ap (λ w. leaves (port b0 q.obj.0 w)) i.1 ∙ ap leaves back)
      | inr n ↦ elim (cases_port x j p) [
        | inl i ↦ ap leaves (port_but-other q Closed (port_but p Closed (port b4)) x j n ∙ port_but-same p Closed (port b4) x j i.0 i.1) ∙ sym (ap (λ y. leaves (port b0 y j)) i.0 ∙ ap (λ w. leaves (port b0 p.obj.0 w)) i.1 ∙ ap leaves h)
        | inr m ↦ ap leaves (port_but-other q Closed (port_but p Closed (port b4)) x j n ∙ port_but-other p Closed (port b4) x j m) ∙ k.shrinks.same_leaves x j ∙ ap leaves (half.ports_set x j ∙ port_but-other q (Leaving p) (port_but p (Leaving q) (port b0)) x j n ∙ port_but-other p (Leaving q) (port b0) x j m)
      ]
    ]

    shut : (x j : ℕ) → open_count (port b3 x j) ≤ open_count (port b0 x j)
    shut x j = elim (cases_port x j q) [
      | inl i ↦ let z = ap open_count (half.ports_set x j ∙ port_but-same q (Leaving p) (port_but p (Leaving q) (port b0)) x j i.0 i.1) in omega arith
      | inr n ↦ elim (cases_port x j p) [
        | inl i ↦ let z = ap open_count (half.ports_set x j ∙ port_but-other q (Leaving p) (port_but p (Leaving q) (port b0)) x j n ∙ port_but-same p (Leaving q) (port b0) x j i.0 i.1) in omega arith
        | inr m ↦ let z = ap open_count (half.ports_set x j ∙ port_but-other q (Leaving p) (port_but p (Leaving q) (port b0)) x j n ∙ port_but-other p (Leaving q) (port b0) x j m) in omega arith
      ]
    ]

-- which begins with the close
unfoldable pub Starts-link : {b0 b3 b4 new : Ledger} {n0 n3 n4 after : Heard} {p q : Port} {was : Bool} {cause : Cause} → IsLinked (port b0) (rank b0) → port b0 p.obj.0 p.slot ≡ Linked q → Tells n0 n3 (event.Closed p cause ∷ event.Closed q cause ∷ event.Entered q Close ∷ []) → ((st : List OnStack) → IsIdle st → GraphRunOf (run_state b0 st) (event.Closed p cause ∷ event.Closed q cause ∷ event.Entered q Close ∷ []) (run_state b3 (Running q Close ∷ MustUnplug p q ∷ st))) → was ≡ busy b0 q.obj.0 → HalfCloses b0 b3 p q → Calm b3 b4 n3 n4 → EndsEntry b4 new n4 after q.obj.0 was (λ st. Running q Close ∷ MustUnplug p q ∷ st) (port_but q Closed (port_but p Closed (port b4))) → Starts b0 new n0 after (event.Closed p cause)
unfolding Calm-link
Starts-link {q = q} {cause = cause} l h told run prior half k e =
    let whole = Calm-link l h told run prior half k e in
    record { rest = event.Closed q cause ∷ event.Entered q Close ∷ (k.added ++ e.added); told = whole.told; run = whole.run }

-- a whole entry by a message or by time, of calm effects
unfoldable pub Calm-entry : {b0 b1 b2 new : Ledger} {n0 n1 n2 after : Heard} {p : Port} {way : Way} {was : Bool} → SetsBusy b0 b1 p.obj.0 true → Tells n0 n1 (event.Entered p way ∷ []) → ((st : List OnStack) → IsIdle st → MayEnter (run_state b0 st) p way → Step (run_state b0 st) (event.Entered p way) (run_state b1 (Running p way ∷ st))) → ((st : List OnStack) → MayEnter (run_state b0 st) p way) → was ≡ busy b0 p.obj.0 → Calm b1 b2 n1 n2 → EndsEntry b2 new n2 after p.obj.0 was (λ st. Running p way ∷ st) (port b2) → Calm b0 new n0 after
Calm-entry {b0} {b1} {b2} {new} {n0} {n1} {n2} {after} {p} {way} {was} c told step may prior k e = record {
  added = event.Entered p way ∷ (k.added ++ e.added);
  told = Tells-append n0 n1 after (event.Entered p way ∷ []) (k.added ++ e.added) told (Tells-append n1 n2 after k.added e.added k.told e.told);
  run = λ st idle a. (
    run_state b1 (Running p way ∷ st),
    step st idle (may st),
    Run-append (run_state b1 (Running p way ∷ st)) (run_state b2 (Running p way ∷ st)) (run_state new st) k.added e.added
        (k.run (Running p way ∷ st) tt (λ x. c.busy_set x ∙ agrees-enter (busy b0) st p.obj.0 a x))
        (e.run st (agrees-leave (busy b0) (busy b2) st p.obj.0 was prior flags a)),
  );
  shrinks = record {
    same_made = e.same_made ∙ k.shrinks.same_made ∙ c.objects.same_made;
    same_room = e.same_room ∙ k.shrinks.same_room ∙ c.objects.same_room;
    fewer = let i = e.fewer in let j = k.shrinks.fewer in let m = same-length c.objects in omega arith;
    same_busy = λ x. e.busy_is x ∙ flags-back (busy b0) (busy b2) p.obj.0 was prior flags x;
    same_leaves = λ x j. e.leaves_is x j ∙ k.shrinks.same_leaves x j ∙ ap leaves (c.same_port x j);
    kept = λ x v. let i = e.kept x v in let j = k.shrinks.kept x i.0 in (sym (c.objects.same_live x) ∙ j.0, i.1 ∙ j.1 ∙ c.objects.same_rank x);
    opens_fall = let i = e.opens_fall in let j = k.shrinks.opens_fall in let m = c.same_opens in omega arith;
    closes = λ x j. let i = e.closes x j in let m = k.shrinks.closes x j in let n = ap open_count (c.same_port x j) in omega arith;
  };
}
  where
    flags : (x : ℕ) → (x ≡ p.obj.0 → ⊥) → busy b2 x ≡ busy b0 x
    flags x n = k.shrinks.same_busy x ∙ c.busy_set x ∙ but_other p.obj.0 true (busy b0) x n

-- which begins with it
pub Starts-entry : {b0 b1 b2 new : Ledger} {n0 n1 n2 after : Heard} {p : Port} {way : Way} {was : Bool} → SetsBusy b0 b1 p.obj.0 true → Tells n0 n1 (event.Entered p way ∷ []) → ((st : List OnStack) → IsIdle st → MayEnter (run_state b0 st) p way → Step (run_state b0 st) (event.Entered p way) (run_state b1 (Running p way ∷ st))) → ((st : List OnStack) → MayEnter (run_state b0 st) p way) → was ≡ busy b0 p.obj.0 → Calm b1 b2 n1 n2 → EndsEntry b2 new n2 after p.obj.0 was (λ st. Running p way ∷ st) (port b2) → Starts b0 new n0 after (event.Entered p way)
unfolding Calm-entry
Starts-entry c told step may prior k e =
    let whole = Calm-entry c told step may prior k e in
    record { rest = k.added ++ e.added; told = whole.told; run = whole.run }

-- a state of a closed port
abbrev pub IsShut : PortState → Type 0
IsShut Open = ⊥
IsShut (Linked q) = ⊥
IsShut (Leaving q) = Unit {0}
IsShut Closed = Unit {0}

-- an event that changes nothing
unfoldable pub Calm-dropped : (l : Ledger) (before after : Heard) (p : Port) (v : PortState) → port l p.obj.0 p.slot ≡ v → IsShut v → Tells before after (event.Dropped p ∷ []) → Calm l l before after
Calm-dropped l before after p v h shut told = record {
  added = event.Dropped p ∷ [];
  told = told;
  run = λ st i a. (run_state l st, (i, may st v h shut, refl), refl);
  shrinks = Shrinks-refl l;
}
  where
    may : (st : List OnStack) (v : PortState) → port l p.obj.0 p.slot ≡ v → IsShut v → MayDrop (run_state l st) p.obj.0 (port l p.obj.0 p.slot)
    may st Open h s = absurd s
    may st (Linked q) h s = absurd s
    may st (Leaving q) h s = rw h tt
    may st Closed h s = rw h tt

-- a message that leaves the graph
unfoldable pub Calm-sent : (l : Ledger) (before after : Heard) → Tells before after [] → Calm l l before after
Calm-sent l before after told = record { added = []; told = told; run = λ st i a. refl; shrinks = Shrinks-refl l }

-- a close of a port without a link
unfoldable pub Calm-alone : {old new : Ledger} {before after : Heard} {p : Port} {cause : Cause} → port old p.obj.0 p.slot ≡ Open → SetsPort old new p Closed → Tells before after (event.Closed p cause ∷ []) → ((st : List OnStack) → IsIdle st → Step (run_state old st) (event.Closed p cause) (run_state new st)) → Calm old new before after
Calm-alone {old} {new} {before} {after} {p} {cause} h a told step = record {
  added = event.Closed p cause ∷ [];
  told = told;
  run = λ st i g. (run_state new st, step st i, refl);
  shrinks = record {
    same_made = a.objects.same_made;
    same_room = a.objects.same_room;
    fewer = let i = same-length a.objects in omega arith;
    same_busy = a.same_busy;
    same_leaves = λ x k. ap leaves (a.port_set x k) ∙ but-keeps leaves p Closed (port old) (sym (ap leaves h)) x k;
    kept = λ x v. (sym (a.objects.same_live x) ∙ v, a.objects.same_rank x);
    opens_fall = let i = a.opens_set in let j = ap open_count h in omega arith;
    closes = λ x k. elim (cases_port x k p) [
      | inl i ↦ let z = ap open_count (a.port_set x k ∙ port_but-same p Closed (port old) x k i.0 i.1) in omega arith
      | inr n ↦ let z = ap open_count (a.port_set x k ∙ port_but-other p Closed (port old) x k n) in omega arith
    ];
  };
}

pub IsWhole-alone : {old new : Ledger} {p : Port} → port old p.obj.0 p.slot ≡ Open → SetsPort old new p Closed → IsBookWhole old → IsBookWhole new
IsWhole-alone {old} {new} {p} h a w = record {
  links = IsLinked-loose p Closed (port old) (port new) (rank old) (rank new) tt (subst IsLoose (sym h) tt) a.port_set a.objects.same_rank w.links;
  counted = λ y v. unused-same old new y (a.same_holds y) (a.same_busy y) (λ k. ap link_count (a.port_set y k) ∙ but-keeps link_count p Closed (port old) (sym (ap link_count h)) y k) ∙ w.counted y (sym (a.objects.same_live y) ∙ v);
  small = λ y. rw (a.objects.same_rank y) (w.small y);
}

-- one event
unfoldable pub Starts-one : (old new : Ledger) (before after : Heard) (e : GraphEvent) → Tells before after (e ∷ []) → ((st : List OnStack) → IsIdle st → Step (run_state old st) e (run_state new st)) → Starts old new before after e
Starts-one old new before after e told step = record { rest = []; told = told; run = λ st i a. (run_state new st, step st i, refl) }

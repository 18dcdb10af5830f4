-- The parts of an entry from below or by time, joined.
use Rattle.nb_ledger.specs.Flat.{Heard}
use Rattle.std.proofs.Common.{◌≡◌, ℕ, ◌+◌, ◌<◌, ◌≤◌, inl, inr, Bool, true, false, zero, suc, ltb, List, [], ◌∷◌, ◌++◌, length, get_or, set, slice_get, map, Option, Some, None, refl, ap, sym, ◌∙◌, subst, arith}
use Rattle.std.proofs.lemmas.Bool.{cases_eq, cases_Bool, eq-eqb, false≢true}
use Rattle.std.specs.Option.{option_map_or}
use Rattle.nb_ledger.specs.declared.object.Object.{Object}
use Rattle.nb_ledger.specs.declared.port.Port.{Port}
use Rattle.nb_ledger.specs.declared.port.PortState.{PortState}
use Rattle.nb_ledger.specs.declared.port.PortState.TheVariants.{Open, Linked, Leaving, Closed}
use Rattle.nb_ledger.specs.declared.event.Way.{Way}
use Rattle.nb_ledger.specs.declared.event.GraphEvent.TheVariants as event
use Rattle.nb_ledger.specs.GraphRun.{OnStack, Running, MustClose, MustEnter, MustUnplug, MustFree, IsIdle, RunsIn, Step, MayEnter, MayDrop, ports_but, new_ports}
use Rattle.nb_ledger.specs.Flat.{Tells}
use Rattle.nb_ledger.specs.Ledger.{Ledger, found, place_in, object_lives, busy, rank, ranks, port, place, leaves, run_state}
use Rattle.nb_ledger.specs.Changes.{SetsBusy, SetsPort, Adds}
use Rattle.nb_ledger.proofs.RunLemmas.{Run-append, Told-none, Tells-append}
use Rattle.nb_ledger.proofs.PlaceLemmas.{place_found, found-place}
use Rattle.nb_ledger.proofs.PortLemmas.{busy-live}
use Rattle.nb_effects.specs.Whole.{IsManned}
use Rattle.nb_effects.specs.Calm.{Shrinks, Calm, EndsEntry, Starts}
use Rattle.nb_graph.specs.Lively.{GrowsLively, Lively, LivelyIn}
use Rattle.nb_effects.proofs.WholeLemmas.{but_same, but_other, ports_other, two_ports}
use Rattle.nb_effects.proofs.ShrinkLemmas.{Agrees-busy, dead-port}
use Rattle.nb_effects.proofs.AgesLemmas.{Ages-refl, Ages-trans, Ages-shrinks, Ages-same, Ages-adds, Ages-within}
use Rattle.nb_effects.proofs.CalmLemmas.{agrees-enter, agrees-leave, flags-back, two-keeps}

pub Grows-refl : (l : Ledger) → GrowsLively l l
Grows-refl l = record { same_room = refl; same_busy = λ x. refl; same_leaves = λ x k. refl; ages = Ages-refl l; kept = λ x b. refl }

pub Grows-trans : {a b c : Ledger} → GrowsLively a b → GrowsLively b c → GrowsLively a c
Grows-trans {a} {b} {c} p q = record {
  same_room = q.same_room ∙ p.same_room;
  same_busy = λ x. q.same_busy x ∙ p.same_busy x;
  same_leaves = λ x k. q.same_leaves x k ∙ p.same_leaves x k;
  ages = Ages-trans p.ages q.ages;
  kept = λ x r. q.kept x (p.same_busy x ∙ r) ∙ p.kept x r;
}

pub Grows-shrinks : {old new : Ledger} → Shrinks old new → GrowsLively old new
Grows-shrinks {old} {new} s = record {
  same_room = s.same_room;
  same_busy = s.same_busy;
  same_leaves = s.same_leaves;
  ages = Ages-shrinks s;
  kept = λ x r. (s.kept x (busy-live new x (s.same_busy x ∙ r))).1;
}

unfoldable pub Lively-calm : {old new : Ledger} {before after : Heard} → Calm old new before after → Lively old new before after
Lively-calm {old} {new} {before} {after} k = record { added = k.added; told = k.told; run = k.run; grows = Grows-shrinks k.shrinks }

-- a stack whose innermost entry runs is idle
pub runs-idle : (st : List OnStack) (x : ℕ) → RunsIn st x → IsIdle st
runs-idle [] x h = tt
runs-idle (Running p w ∷ st) x h = tt
runs-idle (MustClose p c ∷ st) x h = absurd h
runs-idle (MustEnter p ∷ st) x h = absurd h
runs-idle (MustUnplug p q ∷ st) x h = absurd h
runs-idle (MustFree y ∷ st) x h = absurd h

unfoldable pub LivelyIn-lively : {x : ℕ} {old new : Ledger} {before after : Heard} → Lively old new before after → LivelyIn x old new before after
LivelyIn-lively {x} {old} {new} {before} {after} k = record { added = k.added; told = k.told; run = λ st r a. k.run st (runs-idle st x r) a; grows = k.grows }

unfoldable pub LivelyIn-calm : {x : ℕ} {old new : Ledger} {before after : Heard} → Calm old new before after → LivelyIn x old new before after
LivelyIn-calm {x} {old} {new} {before} {after} k = LivelyIn-lively (Lively-calm k)

unfoldable pub Lively-refl : (l : Ledger) (b : Heard) → Lively l l b b
Lively-refl l b = record { added = []; told = Told-none b; run = λ st i a. refl; grows = Grows-refl l }

unfoldable pub LivelyIn-refl : (x : ℕ) (l : Ledger) (b : Heard) → LivelyIn x l l b b
LivelyIn-refl x l b = record { added = []; told = Told-none b; run = λ st i a. refl; grows = Grows-refl l }

unfoldable pub Lively-trans : {a b c : Ledger} {m n o : Heard} → Lively a b m n → Lively b c n o → Lively a c m o
Lively-trans {a} {b} {c} {m} {n} {o} p q = record {
  added = p.added ++ q.added;
  told = Tells-append m n o p.added q.added p.told q.told;
  run = λ st i g. Run-append (run_state a st) (run_state b st) (run_state c st) p.added q.added (p.run st i g) (q.run st i (Agrees-busy a b st p.grows.same_busy g));
  grows = Grows-trans p.grows q.grows;
}

unfoldable pub LivelyIn-trans : {x : ℕ} {a b c : Ledger} {m n o : Heard} → LivelyIn x a b m n → LivelyIn x b c n o → LivelyIn x a c m o
LivelyIn-trans {x} {a} {b} {c} {m} {n} {o} p q = record {
  added = p.added ++ q.added;
  told = Tells-append m n o p.added q.added p.told q.told;
  run = λ st i g. Run-append (run_state a st) (run_state b st) (run_state c st) p.added q.added (p.run st i g) (q.run st i (Agrees-busy a b st p.grows.same_busy g));
  grows = Grows-trans p.grows q.grows;
}

-- a message or a make is dropped: the port is closed, or it is linked and its object's entry runs
unfoldable pub LivelyIn-dropped : (l : Ledger) (before after : Heard) (p : Port) → (port l p.obj.0 p.slot ≡ Open → ⊥) → Tells before after (event.Dropped p ∷ []) → LivelyIn p.obj.0 l l before after
LivelyIn-dropped l before after p n told = record {
  added = event.Dropped p ∷ [];
  told = told;
  run = λ st r a. (run_state l st, (runs-idle st p.obj.0 r, may st r (port l p.obj.0 p.slot) refl, refl), refl);
  grows = Grows-refl l;
}
  where
    may : (st : List OnStack) → RunsIn st p.obj.0 → (v : PortState) → port l p.obj.0 p.slot ≡ v → MayDrop (run_state l st) p.obj.0 (port l p.obj.0 p.slot)
    may st r Open h = absurd (n h)
    may st r (Linked q) h = rw h (inr r)
    may st r (Leaving q) h = rw h tt
    may st r Closed h = rw h tt

-- a whole entry
unfoldable pub Lively-entry : {b0 b1 b2 new : Ledger} {n0 n1 n2 after : Heard} {p : Port} {way : Way} {was : Bool} → SetsBusy b0 b1 p.obj.0 true → Tells n0 n1 (event.Entered p way ∷ []) → ((st : List OnStack) → IsIdle st → MayEnter (run_state b0 st) p way → Step (run_state b0 st) (event.Entered p way) (run_state b1 (Running p way ∷ st))) → ((st : List OnStack) → MayEnter (run_state b0 st) p way) → was ≡ busy b0 p.obj.0 → LivelyIn p.obj.0 b1 b2 n1 n2 → EndsEntry b2 new n2 after p.obj.0 was (λ st. Running p way ∷ st) (port b2) → Lively b0 new n0 after
Lively-entry {b0} {b1} {b2} {new} {n0} {n1} {n2} {after} {p} {way} {was} c told step may prior k e = record {
  added = event.Entered p way ∷ (k.added ++ e.added);
  told = Tells-append n0 n1 after (event.Entered p way ∷ []) (k.added ++ e.added) told (Tells-append n1 n2 after k.added e.added k.told e.told);
  run = λ st idle a. (
    run_state b1 (Running p way ∷ st),
    step st idle (may st),
    Run-append (run_state b1 (Running p way ∷ st)) (run_state b2 (Running p way ∷ st)) (run_state new st) k.added e.added
        (k.run (Running p way ∷ st) refl (λ x. c.busy_set x ∙ agrees-enter (busy b0) st p.obj.0 a x))
        (e.run st (agrees-leave (busy b0) (busy b2) st p.obj.0 was prior flags a)),
  );
  grows = record {
    same_room = e.same_room ∙ k.grows.same_room ∙ c.objects.same_room;
    same_busy = back;
    same_leaves = λ x j. e.leaves_is x j ∙ k.grows.same_leaves x j ∙ ap leaves (c.same_port x j);
    ages = Ages-trans (Ages-same c.objects) (Ages-trans k.grows.ages (Ages-within e.same_made e.kept));
    kept = λ x r. (e.kept x (busy-live new x (back x ∙ r))).1 ∙ k.grows.kept x (entered x r) ∙ c.objects.same_rank x;
  };
}
  where
    flags : (x : ℕ) → (x ≡ p.obj.0 → ⊥) → busy b2 x ≡ busy b0 x
    flags x n = k.grows.same_busy x ∙ c.busy_set x ∙ but_other p.obj.0 true (busy b0) x n

    back : (x : ℕ) → busy new x ≡ busy b0 x
    back x = e.busy_is x ∙ flags-back (busy b0) (busy b2) p.obj.0 was prior flags x

    entered : (x : ℕ) → busy b0 x ≡ true → busy b1 x ≡ true
    entered x r = elim (cases_eq x p.obj.0) [
      | inl i ↦ c.busy_set x ∙ but_same p.obj.0 true (busy b0) x i
      | inr n ↦ c.busy_set x ∙ but_other p.obj.0 true (busy b0) x n ∙ r
    ]

-- which begins with it
pub Starts-lively : {b0 b1 b2 new : Ledger} {n0 n1 n2 after : Heard} {p : Port} {way : Way} {was : Bool} → SetsBusy b0 b1 p.obj.0 true → Tells n0 n1 (event.Entered p way ∷ []) → ((st : List OnStack) → IsIdle st → MayEnter (run_state b0 st) p way → Step (run_state b0 st) (event.Entered p way) (run_state b1 (Running p way ∷ st))) → ((st : List OnStack) → MayEnter (run_state b0 st) p way) → was ≡ busy b0 p.obj.0 → LivelyIn p.obj.0 b1 b2 n1 n2 → EndsEntry b2 new n2 after p.obj.0 was (λ st. Running p way ∷ st) (port b2) → Starts b0 new n0 after (event.Entered p way)
unfolding Lively-entry
Starts-lively c told step may prior k e =
    let whole = Lively-entry c told step may prior k e in
    record { rest = k.added ++ e.added; told = whole.told; run = whole.run }

-- a reading of an element
get_or-map-at : {A : Type 0} (f : A → ℕ) (xs : List A) (i : ℕ) (d : A) → i < length xs → get_or (map f xs) i 0 ≡ f (get_or xs i d)
get_or-map-at f [] i d h = absurd (omega arith)
get_or-map-at f (x ∷ xs) zero d h = refl
get_or-map-at f (x ∷ xs) (suc i) d h = get_or-map-at f xs i d (omega arith)

-- some object
no_object : Object
no_object = record { id = record { 0 = 0 }; rank = 0; busy = false; holds = 0; ports = [] }

rank-found : (os : List Object) (x : ℕ) → place_in os x < length os → option_map_or (λ o. o.rank) (found os x) 0 ≡ get_or (map (λ o. o.rank) os) (place_in os x) 0
rank-found os x h = rw (found-place os x no_object h) (sym (get_or-map-at (λ o. o.rank) os (place_in os x) no_object h))

-- the rank of a live object is that of its node
rank-place : (l : Ledger) (x : ℕ) → object_lives l x ≡ true → rank l x ≡ get_or (ranks l) (place l x) 0
unfolding object_lives rank ranks
rank-place l x h = rank-found l.objects x (place_found l.objects x h)

pub manned-rank : {N : Type 0} {rank_of : N → ℕ} {l : Ledger} {nodes : List N} {cap : ℕ} (x : ℕ) (d : N) → IsManned rank_of l nodes cap → object_lives l x ≡ true → place l x < length nodes → d ≡ get_or nodes (place l x) d → rank l x ≡ rank_of d
manned-rank {N} {rank_of} {l} {nodes} {cap} x d m v h e = rank-place l x v ∙ ap (λ r. get_or r (place l x) 0) m.same_ranks ∙ get_or-map-at rank_of nodes (place l x) d h ∙ sym (ap rank_of e)

-- a dead object is not entered
pub dead-busy : (l : Ledger) (x : ℕ) → object_lives l x ≡ false → busy l x ≡ false
dead-busy l x d = elim (cases_Bool (busy l x)) [ inl e ↦ absurd (false≢true (sym d ∙ busy-live l x e)) | inr e ↦ e ]

pub new-leaves : (k : ℕ) → leaves (new_ports k) ≡ None
new-leaves k = elim (cases_Bool (ltb k 4)) [ inl e ↦ rw e refl | inr e ↦ rw e refl ]

-- an object is made and plugged
unfoldable pub Lively-make : (b0 b1 m new : Ledger) (n0 n1 after : Heard) (p q : Port) (r kind : ℕ) → q.obj.0 ≡ b0.made + 1 → Adds b0 b1 q.obj.0 r → object_lives b0 q.obj.0 ≡ false → SetsPort b1 m p (Linked q) → SetsPort m new q (Linked p) → port b1 p.obj.0 p.slot ≡ Open → port b1 q.obj.0 q.slot ≡ Open → Tells n0 n1 (event.Made q.obj kind ∷ []) → ((st : List OnStack) → IsIdle st → Step (run_state b0 st) (event.Made q.obj kind) (run_state b1 st)) → Tells n1 after (event.Plugged p q ∷ []) → ((st : List OnStack) → IsIdle st → Step (run_state b1 st) (event.Plugged p q) (run_state new st)) → Lively b0 new n0 after
Lively-make b0 b1 m new n0 n1 after p q r kind serial a d s t op oq told step more next = record {
  added = event.Made q.obj kind ∷ event.Plugged p q ∷ [];
  told = Tells-append n0 n1 after (event.Made q.obj kind ∷ []) (event.Plugged p q ∷ []) told more;
  run = λ st i g. (run_state b1 st, step st i, (run_state new st, next st i, refl));
  grows = record {
    same_room = t.objects.same_room ∙ s.objects.same_room ∙ a.same_room;
    same_busy = λ x. t.same_busy x ∙ s.same_busy x ∙ a.busy_set x ∙ elim (cases_eq x q.obj.0) [
      | inl e ↦ but_same q.obj.0 false (busy b0) x e ∙ sym (ap (busy b0) e ∙ dead-busy b0 q.obj.0 d)
      | inr n ↦ but_other q.obj.0 false (busy b0) x n
    ];
    same_leaves = λ x k. ap leaves (two_ports s t x k) ∙ two-keeps leaves p q (Linked q) (Linked p) (port b1) (sym (ap leaves op)) (sym (ap leaves oq)) x k ∙ ap leaves (a.port_set x k) ∙ elim (cases_eq x q.obj.0) [
      | inl e ↦ at_new x k e
      | inr n ↦ ap leaves (ports_other q.obj.0 new_ports (port b0) x k n)
    ];
    ages = Ages-trans (Ages-adds serial a) (Ages-trans (Ages-same s.objects) (Ages-same t.objects));
    kept = λ x u. t.objects.same_rank x ∙ s.objects.same_rank x ∙ a.rank_set x ∙ but_other q.obj.0 r (rank b0) x (λ e. false≢true (sym d ∙ subst (λ y. object_lives b0 y ≡ true) e (busy-live b0 x u)));
  };
}
  where
    at_new : (x k : ℕ) → x ≡ q.obj.0 → leaves (ports_but q.obj.0 new_ports (port b0) x k) ≡ leaves (port b0 x k)
    at_new x k e = rw (eq-eqb x q.obj.0 e) (new-leaves k) ∙ sym (ap (λ y. leaves (port b0 y k)) e ∙ ap leaves (dead-port b0 q.obj.0 d k))

-- an element by its place
pub slice_get-at : {A : Type 0} (xs : List A) (i : ℕ) (d : A) → i < length xs → slice_get xs i ≡ Some (get_or xs i d)
slice_get-at [] i d h = absurd (omega arith)
slice_get-at (x ∷ xs) zero d h = refl
slice_get-at (x ∷ xs) (suc i) d h = slice_get-at xs i d (omega arith)

-- the element that was written
pub slice_get-set : {A : Type 0} (xs : List A) (i : ℕ) (v : A) → i < length xs → slice_get (set xs i v) i ≡ Some v
slice_get-set [] i v h = absurd (omega arith)
slice_get-set (x ∷ xs) zero v h = refl
slice_get-set (x ∷ xs) (suc i) v h = slice_get-set xs i v (omega arith)

pub some_inj : {A : Type 0} {a b : A} → Some a ≡ Some b → a ≡ b
some_inj {A} {a} {b} h = cc

-- nothing stands past the end
pub slice_get-past : {A : Type 0} (xs : List A) (i : ℕ) → length xs ≤ i → slice_get xs i ≡ None
slice_get-past [] i h = refl
slice_get-past (x ∷ xs) zero h = absurd (omega arith)
slice_get-past (x ∷ xs) (suc i) h = slice_get-past xs i (omega arith)

-- Objects go and ports close.
use Rattle.nb_ledger.specs.Flat.{Heard}
use Rattle.std.proofs.Common.{◌≡◌, ℕ, ◌<◌, ◌≤◌, inl, inr, true, false, List, [], ◌∷◌, ◌++◌, length, Option, Some, None, is_some, min, max, refl, ap, sym, ◌∙◌, subst, arith}
use Rattle.std.proofs.lemmas.Bool.{cases_eq, cases_Bool, eq-eqb, false≢true}
use Rattle.nb_ledger.specs.declared.port.ObjId.{ObjId}
use Rattle.nb_ledger.specs.declared.port.PortState.{PortState}
use Rattle.nb_ledger.specs.declared.port.PortState.TheVariants.{Open, Linked, Leaving, Closed}
use Rattle.nb_ledger.specs.GraphRun.{OnStack, MustFree, GraphRunOf, owed, ports_but, link_count}
use Rattle.std.specs.Option.{option_map_or}
use Rattle.nb_ledger.specs.declared.object.Object.{Object}
use Rattle.nb_ledger.specs.Ledger.{Ledger, found, object_lives, holds, busy, rank, port, ties, unused, leaves, open_count, run_state, Agrees}
use Rattle.nb_ledger.specs.Changes.{Removes}
use Rattle.nb_ledger.specs.Settled.{Settles}
use Rattle.nb_ledger.proofs.RunLemmas.{Run-append, Told-none, Tells-append}
use Rattle.nb_ledger.proofs.CountLemmas.{owed-unused, owed-used, used-busy}
use Rattle.nb_ledger.proofs.PortLemmas.{live_by}
use Rattle.nb_effects.specs.Whole.{IsLinked, CountedBut, CountedButTwo, IsBookWhole}
use Rattle.nb_effects.specs.Calm.{Shrinks, Calm, SettlesTwo}
use Rattle.nb_effects.proofs.WholeLemmas.{but_same, but_other, ports_other, unused-same, unused-ties, ties-at, IsWhole-settle, IsLinked-gone}
use Rattle.nb_effects.proofs.GraphLemmas.{settled-length}

pub Shrinks-refl : (l : Ledger) → Shrinks l l
Shrinks-refl l = record {
  same_made = refl;
  same_room = refl;
  fewer = omega arith;
  same_busy = λ x. refl;
  same_leaves = λ x k. refl;
  kept = λ x v. (v, refl);
  opens_fall = omega arith;
  closes = λ x k. omega arith;
}

pub Shrinks-trans : {a b c : Ledger} → Shrinks a b → Shrinks b c → Shrinks a c
Shrinks-trans {a} {b} {c} p q = record {
  same_made = q.same_made ∙ p.same_made;
  same_room = q.same_room ∙ p.same_room;
  fewer = let h = p.fewer in let i = q.fewer in omega arith;
  same_busy = λ x. q.same_busy x ∙ p.same_busy x;
  same_leaves = λ x k. q.same_leaves x k ∙ p.same_leaves x k;
  kept = λ x v. let k = q.kept x v in let j = p.kept x k.0 in (j.0, k.1 ∙ j.1);
  opens_fall = let h = p.opens_fall in let i = q.opens_fall in omega arith;
  closes = λ x k. let h = p.closes x k in let i = q.closes x k in omega arith;
}

-- the flags are those of the stack, before and after
pub Agrees-busy : (old new : Ledger) (st : List OnStack) → ((x : ℕ) → busy new x ≡ busy old x) → Agrees old st → Agrees new st
Agrees-busy old new st e a = λ x. e x ∙ a x

unfoldable pub Calm-refl : (l : Ledger) (b : Heard) → Calm l l b b
Calm-refl l b = record { added = []; told = Told-none b; run = λ st i a. refl; shrinks = Shrinks-refl l }

unfoldable pub Calm-trans : {a b c : Ledger} {m n o : Heard} → Calm a b m n → Calm b c n o → Calm a c m o
Calm-trans {a} {b} {c} {m} {n} {o} p q = record {
  added = p.added ++ q.added;
  told = Tells-append m n o p.added q.added p.told q.told;
  run = λ st i g. Run-append (run_state a st) (run_state b st) (run_state c st) p.added q.added (p.run st i g) (q.run st i (Agrees-busy a b st p.shrinks.same_busy g));
  shrinks = Shrinks-trans p.shrinks q.shrinks;
}

-- a dead object's port is closed
pub dead-port : (l : Ledger) (x : ℕ) → object_lives l x ≡ false → (k : ℕ) → port l x k ≡ Closed
dead-port l x d k = by_state (port l x k) refl
  where
    by_state : (v : PortState) → port l x k ≡ v → port l x k ≡ Closed
    by_state Open h = absurd (false≢true (sym d ∙ (live_by l x k Open tt h).0))
    by_state (Linked p) h = absurd (false≢true (sym d ∙ (live_by l x k (Linked p) tt h).0))
    by_state (Leaving p) h = absurd (false≢true (sym d ∙ (live_by l x k (Leaving p) tt h).0))
    by_state Closed h = h

-- an object without links has no half-closed one
no-leaves : (l : Ledger) (x : ℕ) → ties l x ≡ 0 → (k : ℕ) → leaves (port l x k) ≡ None
no-leaves l x e k = by_state (port l x k) refl
  where
    by_state : (v : PortState) → port l x k ≡ v → leaves (port l x k) ≡ None
    by_state Open h = ap leaves h
    by_state (Linked p) h = ap leaves h
    by_state (Leaving p) h = let small = (live_by l x k (Leaving p) tt h).1 in let t = ties-at l x k small in let w = ap link_count h in absurd (omega arith)
    by_state Closed h = ap leaves h

-- an object that is not used is not entered
pub unused-idle : (l : Ledger) (x : ℕ) → unused l x ≡ true → busy l x ≡ false
unused-idle l x h = elim (cases_Bool (busy l x)) [ inl e ↦ absurd (false≢true (sym (used-busy l x e) ∙ h)) | inr e ↦ e ]

-- an object without use is taken out
pub Shrinks-remove : {old new : Ledger} {x : ℕ} → unused old x ≡ true → Removes old new x → length new.objects ≤ length old.objects → Shrinks old new
Shrinks-remove {old} {new} {x} u s n = record {
  same_made = s.same_made;
  same_room = s.same_room;
  fewer = n;
  same_busy = λ y. elim (cases_eq y x) [
    | inl e ↦ s.busy_set y ∙ but_same x false (busy old) y e ∙ sym (ap (busy old) e ∙ unused-idle old x u)
    | inr m ↦ s.busy_set y ∙ but_other x false (busy old) y m
  ];
  same_leaves = λ y k. elim (cases_eq y x) [
    | inl e ↦ ap leaves (s.port_set y k) ∙ rw (eq-eqb y x e) refl ∙ sym (ap (λ z. leaves (port old z k)) e ∙ no-leaves old x (unused-ties old x u) k)
    | inr m ↦ ap leaves (s.port_set y k ∙ ports_other x (λ _. Closed) (port old) y k m)
  ];
  kept = λ y v. elim (cases_eq y x) [
    | inl e ↦ absurd (false≢true (sym (s.live_set y ∙ but_same x false (object_lives old) y e) ∙ v))
    | inr m ↦ (sym (s.live_set y ∙ but_other x false (object_lives old) y m) ∙ v, s.rank_set y ∙ but_other x 0 (rank old) y m)
  ];
  opens_fall = let h = s.opens_le.1 in omega arith;
  closes = λ y k. elim (cases_eq y x) [
    | inl e ↦ let z = ap open_count (s.port_set y k) in let w = ap open_count (closed_there x y k (port old) e) in omega arith
    | inr m ↦ let z = ap open_count (s.port_set y k ∙ ports_other x (λ _. Closed) (port old) y k m) in omega arith
  ];
}
  where
    closed_there : (x y k : ℕ) (f : ℕ → ℕ → PortState) → y ≡ x → ports_but x (λ _. Closed) f y k ≡ Closed
    closed_there x y k f e = rw (eq-eqb y x e) refl

pub Shrinks-settle : {old new : Ledger} {before after : Heard} {id : ObjId} → Settles old new before after id → Shrinks old new
Shrinks-settle {old} {new} {before} {after} {id} s = elim s.how [
  | inl h ↦ subst (Shrinks old) (sym h.0) (Shrinks-refl old)
  | inr h ↦ Shrinks-remove h.0 h.1 (settled-length s)
]

-- another object is used as before
pub unused-settle : {old new : Ledger} {before after : Heard} {id : ObjId} (x : ℕ) → (x ≡ id.0 → ⊥) → Settles old new before after id → unused new x ≡ unused old x
unused-settle {old} {new} {before} {after} {id} x n s = elim s.how [
  | inl h ↦ ap (λ l. unused l x) h.0
  | inr h ↦ unused-same old new x (h.1.holds_set x ∙ but_other id.0 0 (holds old) x n) (h.1.busy_set x ∙ but_other id.0 false (busy old) x n) (λ k. ap link_count (h.1.port_set x k ∙ ports_other id.0 (λ _. Closed) (port old) x k n))
]

pub live-settle : {old new : Ledger} {before after : Heard} {id : ObjId} (x : ℕ) → (x ≡ id.0 → ⊥) → Settles old new before after id → object_lives new x ≡ object_lives old x
live-settle {old} {new} {before} {after} {id} x n s = elim s.how [
  | inl h ↦ ap (λ l. object_lives l x) h.0
  | inr h ↦ h.1.live_set x ∙ but_other id.0 false (object_lives old) x n
]

-- two objects, the lower serial first
unfoldable pub SettlesTwo-pair : {old mid new : Ledger} {before between after : Heard} {low high : ObjId} → low.0 < high.0 → Settles old mid before between low → Settles mid new between after high → SettlesTwo old new before after low high
SettlesTwo-pair {old} {mid} {new} {before} {between} {after} {low} {high} less s t = record {
  added = s.added ++ t.added;
  told = Tells-append before between after s.added t.added s.told t.told;
  run = λ st a. rw (least, most) (elim (cases_Bool (unused old high.0)) [ inl u ↦ freed st a u | inr u ↦ stays st a u ]);
  shrinks = Shrinks-trans (Shrinks-settle s) (Shrinks-settle t);
}
  where
    least : min low.0 high.0 ≡ low.0
    least = omega arith

    most : max low.0 high.0 ≡ high.0
    most = omega arith

    same : unused mid high.0 ≡ unused old high.0
    same = unused-settle high.0 (λ e. absurd (omega arith)) s

    after_mid : (st : List OnStack) → Agrees old st → Agrees mid st
    after_mid st a = Agrees-busy old mid st (Shrinks-settle s).same_busy a

    freed : (st : List OnStack) → Agrees old st → unused old high.0 ≡ true → GraphRunOf (owed low.0 (owed high.0 (run_state old st))) (s.added ++ t.added) (run_state new st)
    freed st a u =
        rw (owed-unused old st high.0 a u) (Run-append _ (run_state mid (MustFree high.0 ∷ st)) _ s.added t.added (s.run (MustFree high.0 ∷ st) a) (rw (owed-unused mid st high.0 (after_mid st a) (same ∙ u)) at (t.run st (after_mid st a))))

    stays : (st : List OnStack) → Agrees old st → unused old high.0 ≡ false → GraphRunOf (owed low.0 (owed high.0 (run_state old st))) (s.added ++ t.added) (run_state new st)
    stays st a u =
        rw (owed-used old st high.0 a u) (Run-append _ (run_state mid st) _ s.added t.added (s.run st a) (rw (owed-used mid st high.0 (after_mid st a) (same ∙ u)) at (t.run st (after_mid st a))))

-- in the other order
unfoldable pub SettlesTwo-swap : {old new : Ledger} {before after : Heard} {x y : ObjId} → SettlesTwo old new before after x y → SettlesTwo old new before after y x
SettlesTwo-swap {old} {new} {before} {after} {x} {y} s = record {
  added = s.added;
  told = s.told;
  run = λ st a. let e : min y.0 x.0 ≡ min x.0 y.0 = omega arith in let f : max y.0 x.0 ≡ max x.0 y.0 = omega arith in rw (e, f) (s.run st a);
  shrinks = s.shrinks;
}

-- links after an object may have gone
pub IsLinked-settle : {old new : Ledger} {before after : Heard} {id : ObjId} → Settles old new before after id → IsLinked (port old) (rank old) → IsLinked (port new) (rank new)
IsLinked-settle {old} {new} {before} {after} {id} s l = elim s.how [
  | inl h ↦ subst (λ b. IsLinked (port b) (rank b)) (sym h.0) l
  | inr h ↦ IsLinked-gone h.0 h.1 l
]

-- those not counted before but the first are the second alone
pub CountedBut-settle : {old new : Ledger} {before after : Heard} {id : ObjId} (z : ℕ) → Settles old new before after id → CountedButTwo id.0 z old → CountedBut z new
CountedBut-settle {old} {new} {before} {after} {id} z s c = λ y d v. elim (cases_eq y id.0) [
  | inl e ↦ own y e v
  | inr n ↦ unused-settle y n s ∙ c y n d (sym (live-settle y n s) ∙ v)
]
  where
    own : (y : ℕ) → y ≡ id.0 → object_lives new y ≡ true → unused new y ≡ false
    own y e v = elim s.how [
      | inl h ↦ ap (λ l. unused l y) h.0 ∙ ap (unused old) e ∙ h.1
      | inr h ↦ absurd (false≢true (sym (h.1.live_set y ∙ but_same id.0 false (object_lives old) y e) ∙ v))
    ]

small-settle : {old new : Ledger} {before after : Heard} {id : ObjId} → Settles old new before after id → ((y : ℕ) → rank old y < 256) → (y : ℕ) → rank new y < 256
small-settle {old} {new} {before} {after} {id} s w y = elim s.how [
  | inl h ↦ subst (λ l. rank l y < 256) (sym h.0) (w y)
  | inr h ↦ elim (cases_eq y id.0) [ inl e ↦ rw (h.1.rank_set y ∙ but_same id.0 0 (rank old) y e) (omega arith) | inr n ↦ rw (h.1.rank_set y ∙ but_other id.0 0 (rank old) y n) (w y) ]
]

-- after both, each is counted
pub IsWhole-pair : {old mid new : Ledger} {before between after : Heard} {low high : ObjId} → Settles old mid before between low → Settles mid new between after high → IsLinked (port old) (rank old) → CountedButTwo low.0 high.0 old → ((y : ℕ) → rank old y < 256) → IsBookWhole new
IsWhole-pair {old} {mid} {new} {before} {between} {after} {low} {high} s t l c w =
    IsWhole-settle t (IsLinked-settle s l) (CountedBut-settle high.0 s c) (small-settle s w)

-- a dead object has no rank
dead-rank : (l : Ledger) (x : ℕ) → object_lives l x ≡ false → rank l x ≡ 0
unfolding object_lives rank
dead-rank l x h = found_rank (found l.objects x) h
  where
    found_rank : (o : Option Object) → is_some o ≡ false → option_map_or (λ w. w.rank) o 0 ≡ 0
    found_rank None e = refl
    found_rank (Some o) e = absurd (cc)

-- no rank rises
pub ranks_fall : {old new : Ledger} (x : ℕ) → Shrinks old new → rank new x ≤ rank old x
ranks_fall {old} {new} x s = elim (cases_Bool (object_lives new x)) [
  | inl v ↦ let e = (s.kept x v).1 in omega arith
  | inr d ↦ let e = dead-rank new x d in omega arith
]

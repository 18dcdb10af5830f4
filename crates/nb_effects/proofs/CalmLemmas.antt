-- The parts of a close and of an entry, joined.
use Rattle.nb_ledger.specs.Flat.{Heard}
use Rattle.std.proofs.Common.{◌≡◌, ◌≢◌, ℕ, ◌+◌, ◌≤◌, inl, inr, Bool, true, nat_lt, cond, eqb, List, [], ◌∷◌, Option, Some, refl, ap, sym, ◌∙◌, subst, arith}
use Rattle.std.proofs.lemmas.Bool.{cases_eq}
use Rattle.std.proofs.lemmas.Bool.Decides.{nat_tests}
use Rattle.nb_ledger.specs.declared.port.ObjId.{ObjId}
use Rattle.nb_ledger.specs.declared.port.Port.{Port}
use Rattle.nb_ledger.specs.declared.port.PortState.{PortState}
use Rattle.nb_ledger.specs.declared.port.PortState.TheVariants.{Open, Linked, Leaving, Closed}
use Rattle.nb_ledger.specs.declared.event.Way.{Way}
use Rattle.nb_ledger.specs.declared.event.GraphEvent.TheVariants as event
use Rattle.nb_ledger.specs.GraphRun.{OnStack, Running, Step, owed, running_entries, but_at, port_but, link_count}
use Rattle.nb_ledger.specs.Flat.{Tells}
use Rattle.nb_ledger.specs.Ledger.{Ledger, busy, rank, port, leaves, open_count, run_state}
use Rattle.nb_ledger.specs.Changes.{SetsBusy, SetsPort}
use Rattle.nb_ledger.specs.Settled.{Settles}
use Rattle.nb_ledger.proofs.RunLemmas.{Tells-append}
use Rattle.nb_ledger.proofs.CountLemmas.{count-state, owed-some, used-busy}
use Rattle.nb_ledger.proofs.PortLemmas.{live_by, IsUsed}
use Rattle.nb_effects.specs.Whole.{IsLinked, CountedBut, IsCounted, IsBookWhole, port_at}
use Rattle.nb_effects.specs.Calm.{HalfCloses, EndsEntry}
use Rattle.nb_effects.proofs.LinkLemmas.{cases_port, port_but-same, port_but-other, IsLinked-same, IsLinked-close}
use Rattle.nb_effects.proofs.WholeLemmas.{but_same, but_other, unused-same, ties-at, two_ports, counted-all, IsWhole-settle}
use Rattle.nb_effects.proofs.GraphLemmas.{same-length}
use Rattle.nb_effects.proofs.ShrinkLemmas.{Shrinks-settle}

-- a reading of the states that one write keeps
pub but-keeps : {A : Type 0} (m : PortState → A) (p : Port) (v : PortState) (f : ℕ → ℕ → PortState) → m v ≡ m (f p.obj.0 p.slot) → (x k : ℕ) → m (port_but p v f x k) ≡ m (f x k)
but-keeps m p v f h x k = elim (cases_port x k p) [
  | inl i ↦ ap m (port_but-same p v f x k i.0 i.1) ∙ h ∙ sym (ap (λ y. m (f y k)) i.0 ∙ ap (λ j. m (f p.obj.0 j)) i.1)
  | inr n ↦ ap m (port_but-other p v f x k n)
]

-- and that two keep
pub two-keeps : {A : Type 0} (m : PortState → A) (p q : Port) (v w : PortState) (f : ℕ → ℕ → PortState) → m v ≡ m (f p.obj.0 p.slot) → m w ≡ m (f q.obj.0 q.slot) → (x k : ℕ) → m (port_but q w (port_but p v f) x k) ≡ m (f x k)
two-keeps m p q v w f h i x k = elim (cases_port x k q) [
  | inl j ↦ ap m (port_but-same q w (port_but p v f) x k j.0 j.1) ∙ i ∙ sym (ap (λ y. m (f y k)) j.0 ∙ ap (λ z. m (f q.obj.0 z)) j.1)
  | inr n ↦ ap m (port_but-other q w (port_but p v f) x k n) ∙ but-keeps m p v f h x k
]

-- the ends of a link are two ports, of two objects
pub linked-apart : (l : Ledger) (p q : Port) → IsLinked (port l) (rank l) → port l p.obj.0 p.slot ≡ Linked q → p.obj.0 ≢ q.obj.0
linked-apart l p q s h = λ e. elim (cases_eq p.slot 0) [
  | inl z ↦ let a = s.falls p.obj.0 q (subst (λ k. port l p.obj.0 k ≡ Linked q) z h) in let r = ap (rank l) e in absurd (omega arith)
  | inr n ↦
      let one : 1 ≤ p.slot = omega arith in
      let low = s.lower p.obj.0 p.slot q one h in
      let b = s.back p.obj.0 p.slot q h in
      let a = s.falls q.obj.0 (port_at p.obj.0 p.slot) (subst (λ k. port l q.obj.0 k ≡ Linked (port_at p.obj.0 p.slot)) low b) in
      let r = ap (rank l) e in
      absurd (omega arith)
]

-- the other end leads back
pub linked-back : (l : Ledger) (p q : Port) → IsLinked (port l) (rank l) → port l p.obj.0 p.slot ≡ Linked q → port l q.obj.0 q.slot ≡ Linked p
linked-back l p q s h = s.back p.obj.0 p.slot q h

-- a half-closed port, by its peer
pub leaving-is : (v : PortState) (q : Port) → leaves v ≡ Some q → v ≡ Leaving q
leaving-is Open q h = absurd (cc)
leaving-is (Linked p) q h = absurd (cc)
leaving-is (Leaving p) q h = cc
leaving-is Closed q h = absurd (cc)

-- an object with a link is not freed
pub owed-port : (l : Ledger) (st : List OnStack) (x k : ℕ) (v : PortState) → port l x k ≡ v → link_count v ≡ 1 → IsUsed v → owed x (run_state l st) ≡ run_state l st
owed-port l st x k v h n u =
    let small = (live_by l x k v u h).1 in
    let t = ties-at l x k small in
    let w = ap link_count h in
    let c = count-state l st x in
    owed-some (run_state l st) x (omega arith)

-- flags after an entry begins
pub agrees-enter : (f : ℕ → Bool) (st : List OnStack) (y : ℕ) → ((x : ℕ) → f x ≡ nat_lt 0 (running_entries st x)) → (x : ℕ) → but_at y true f x ≡ nat_lt 0 (cond (eqb x y) 1 0 + running_entries st x)
agrees-enter f st y e x = let a = e x in grind (arith, nat_tests)

-- and after it ends
pub agrees-leave : (f g : ℕ → Bool) (st : List OnStack) (y : ℕ) (was : Bool) → was ≡ f y → ((x : ℕ) → (x ≡ y → ⊥) → g x ≡ f x) → ((x : ℕ) → f x ≡ nat_lt 0 (running_entries st x)) → (x : ℕ) → but_at y was g x ≡ nat_lt 0 (running_entries st x)
agrees-leave f g st y was h e a x = elim (cases_eq x y) [
  | inl i ↦ but_same y was g x i ∙ h ∙ ap f (sym i) ∙ a x
  | inr n ↦ but_other y was g x n ∙ e x n ∙ a x
]

-- the flags are as before
pub flags-back : (f g : ℕ → Bool) (y : ℕ) (was : Bool) → was ≡ f y → ((x : ℕ) → (x ≡ y → ⊥) → g x ≡ f x) → (x : ℕ) → but_at y was g x ≡ f x
flags-back f g y was h e x = elim (cases_eq x y) [
  | inl i ↦ but_same y was g x i ∙ h ∙ ap f (sym i)
  | inr n ↦ but_other y was g x n ∙ e x n
]

module _ {b0 b1 b2 b3 : Ledger} {p q : Port} (l : IsLinked (port b0) (rank b0)) (h : port b0 p.obj.0 p.slot ≡ Linked q) (a : SetsPort b0 b1 p (Leaving q)) (b : SetsPort b1 b2 q (Leaving p)) (c : SetsBusy b2 b3 q.obj.0 true) where
  ports3 : (x k : ℕ) → port b3 x k ≡ port_but q (Leaving p) (port_but p (Leaving q) (port b0)) x k
  ports3 x k = c.same_port x k ∙ two_ports a b x k

  same3 : (x k : ℕ) → link_count (port b3 x k) ≡ link_count (port b0 x k)
  same3 x k = ap link_count (ports3 x k) ∙ two-keeps link_count p q (Leaving q) (Leaving p) (port b0) (sym (ap link_count h)) (sym (ap link_count (linked-back b0 p q l h))) x k

  pub HalfCloses-both : port b1 q.obj.0 q.slot ≡ Linked p → HalfCloses b0 b3 p q
  HalfCloses-both there = record {
    same_made = c.objects.same_made ∙ b.objects.same_made ∙ a.objects.same_made;
    same_room = c.objects.same_room ∙ b.objects.same_room ∙ a.objects.same_room;
    same_length = same-length c.objects ∙ same-length b.objects ∙ same-length a.objects;
    same_live = λ x. c.objects.same_live x ∙ b.objects.same_live x ∙ a.objects.same_live x;
    same_rank = λ x. c.objects.same_rank x ∙ b.objects.same_rank x ∙ a.objects.same_rank x;
    busy_set = λ x. c.busy_set x ∙ but-flags x;
    ports_set = ports3;
    opens_set = let i = a.opens_set in let j = b.opens_set in let k = c.same_opens in let m = ap open_count h in let n = ap open_count there in omega arith;
  }
    where
      but-flags : (x : ℕ) → but_at q.obj.0 true (busy b2) x ≡ but_at q.obj.0 true (busy b0) x
      but-flags x = elim (cases_eq x q.obj.0) [
        | inl i ↦ but_same q.obj.0 true (busy b2) x i ∙ sym (but_same q.obj.0 true (busy b0) x i)
        | inr n ↦ but_other q.obj.0 true (busy b2) x n ∙ b.same_busy x ∙ a.same_busy x ∙ sym (but_other q.obj.0 true (busy b0) x n)
      ]

  pub IsWhole-both : IsBookWhole b0 → IsBookWhole b3
  IsWhole-both w = record {
    links = IsLinked-close p q (Leaving q) (Leaving p) (port b0) (port b3) (rank b0) (rank b3) tt tt h ports3 (λ x. c.objects.same_rank x ∙ b.objects.same_rank x ∙ a.objects.same_rank x) l;
    counted = counted-all q.obj.0 b3
        (λ y n v. unused-same b0 b3 y (c.same_holds y ∙ b.same_holds y ∙ a.same_holds y) (c.busy_set y ∙ but_other q.obj.0 true (busy b2) y n ∙ b.same_busy y ∙ a.same_busy y) (same3 y) ∙ w.counted y (sym (c.objects.same_live y ∙ b.objects.same_live y ∙ a.objects.same_live y) ∙ v))
        (λ _. used-busy b3 q.obj.0 (c.busy_set q.obj.0 ∙ but_same q.obj.0 true (busy b2) q.obj.0 refl));
    small = λ y. rw (c.objects.same_rank y ∙ b.objects.same_rank y ∙ a.objects.same_rank y) (w.small y);
  }

-- the first end is closed, the other one is as before
pub other-end : {b0 b1 : Ledger} {p q : Port} {v : PortState} → IsLinked (port b0) (rank b0) → port b0 p.obj.0 p.slot ≡ Linked q → SetsPort b0 b1 p v → port b1 q.obj.0 q.slot ≡ Linked p
other-end {b0} {b1} {p} {q} {v} l h a =
    a.port_set q.obj.0 q.slot ∙ port_but-other p v (port b0) q.obj.0 q.slot (λ i. linked-apart b0 p q l h (sym i.0)) ∙ linked-back b0 p q l h

-- a flag is written, and the object is used
pub IsWhole-enter : {old new : Ledger} {x : ℕ} → SetsBusy old new x true → IsBookWhole old → IsBookWhole new
IsWhole-enter {old} {new} {x} c w = record {
  links = IsLinked-same (port old) (port new) (rank old) (rank new) c.same_port c.objects.same_rank w.links;
  counted = counted-all x new
      (λ y n v. unused-same old new y (c.same_holds y) (c.busy_set y ∙ but_other x true (busy old) y n) (λ k. ap link_count (c.same_port y k)) ∙ w.counted y (sym (c.objects.same_live y) ∙ v))
      (λ _. used-busy new x (c.busy_set x ∙ but_same x true (busy old) x refl));
  small = λ y. rw (c.objects.same_rank y) (w.small y);
}

-- a flag is written, and the others are counted
pub CountedBut-flag : {old new : Ledger} {x : ℕ} {b : Bool} → SetsBusy old new x b → IsCounted old → CountedBut x new
CountedBut-flag {old} {new} {x} {b} c w = λ y n v.
    unused-same old new y (c.same_holds y) (c.busy_set y ∙ but_other x b (busy old) y n) (λ k. ap link_count (c.same_port y k)) ∙ w y (sym (c.objects.same_live y) ∙ v)

pub IsLinked-flag : {old new : Ledger} {x : ℕ} {b : Bool} → SetsBusy old new x b → IsLinked (port old) (rank old) → IsLinked (port new) (rank new)
IsLinked-flag {old} {new} {x} {b} c l = IsLinked-same (port old) (port new) (rank old) (rank new) c.same_port c.objects.same_rank l

-- an entry ends, and what is owed is done
unfoldable pub Ends-leave : {old mid new : Ledger} {before between after : Heard} {p : Port} {was : Bool} (by : Way) → SetsBusy old mid p.obj.0 was → Tells before between (event.Left p ∷ []) → ((w : Way) (st : List OnStack) → Step (run_state old (Running p w ∷ st)) (event.Left p) (owed p.obj.0 (run_state mid st))) → Settles mid new between after p.obj → EndsEntry old new before after p.obj.0 was (λ st. Running p by ∷ st) (port old)
Ends-leave {old} {mid} {new} {before} {between} {after} {p} {was} by c told step s =
    let k = Shrinks-settle s in
    record {
      added = event.Left p ∷ s.added;
      told = Tells-append before between after (event.Left p ∷ []) s.added told s.told;
      run = λ st a. (owed p.obj.0 (run_state mid st), step by st, s.run st (λ y. c.busy_set y ∙ a y));
      same_made = k.same_made ∙ c.objects.same_made;
      same_room = k.same_room ∙ c.objects.same_room;
      fewer = let i = k.fewer in let j = same-length c.objects in omega arith;
      busy_is = λ y. k.same_busy y ∙ c.busy_set y;
      leaves_is = λ y j. k.same_leaves y j ∙ ap leaves (c.same_port y j);
      kept = λ y v. let i = k.kept y v in (sym (c.objects.same_live y) ∙ i.0, i.1 ∙ c.objects.same_rank y);
      opens_fall = let i = k.opens_fall in let j = c.same_opens in omega arith;
      closes = λ y j. let i = k.closes y j in let m = ap open_count (c.same_port y j) in omega arith;
    }

pub IsWhole-leave : {old mid new : Ledger} {between after : Heard} {x : ObjId} {was : Bool} → SetsBusy old mid x.0 was → Settles mid new between after x → IsBookWhole old → IsBookWhole new
IsWhole-leave {old} {mid} {new} {between} {after} {x} {was} c s w =
    IsWhole-settle s (IsLinked-flag c w.links) (CountedBut-flag c w.counted) (λ y. rw (c.objects.same_rank y) (w.small y))

-- What is true of a book between events stays true.
use Rattle.nb_ledger.specs.Flat.{Heard}
use Rattle.std.proofs.Common.{◌≡◌, ℕ, ◌<◌, ◌≤◌, ◌⊎◌, inl, inr, true, false, ltb, zero, suc, List, Option, None, refl, ap, sym, ◌∙◌, subst, arith}
use Rattle.std.proofs.lemmas.Bool.{cases_eq, ne_eqb, eq-eqb, false≢true, cases_Bool}
use Rattle.nb_ledger.specs.declared.port.ObjId.{ObjId}
use Rattle.nb_ledger.specs.declared.port.Port.{Port}
use Rattle.nb_ledger.specs.declared.port.PortState.{PortState}
use Rattle.nb_ledger.specs.declared.port.PortState.TheVariants.{Open, Linked, Leaving, Closed}
use Rattle.nb_ledger.specs.GraphRun.{port_but, ports_but, but_at, link_count, new_ports}
use Rattle.nb_ledger.specs.Ledger.{Ledger, object_lives, holds, busy, rank, port, ties, unused, leaves}
use Rattle.nb_ledger.specs.Changes.{SetsHolds, SetsPort, Adds, Removes}
use Rattle.nb_ledger.specs.Settled.{Settles}
use Rattle.nb_ledger.proofs.CountLemmas.{used-ties, used-holds}
use Rattle.nb_ledger.proofs.PortLemmas.{live_by, IsUsed}
use Rattle.nb_effects.specs.Whole.{IsLinked, IsCounted, CountedBut, IsBookWhole, IsQuiet}
use Rattle.nb_effects.proofs.LinkLemmas.{IsLoose, IsLinked-same, IsLinked-ports, IsLinked-plug, port_but-same, port_but-other, cases_port}

-- elsewhere
pub but_other : {A : Type 0} (x : ℕ) (v : A) (f : ℕ → A) (y : ℕ) → (y ≡ x → ⊥) → but_at x v f y ≡ f y
but_other x v f y n = rw (ne_eqb y x n) refl

-- there
pub but_same : {A : Type 0} (x : ℕ) (v : A) (f : ℕ → A) (y : ℕ) → y ≡ x → but_at x v f y ≡ v
but_same x v f y e = rw (eq-eqb y x e) refl

-- ports elsewhere
pub ports_other : (x : ℕ) (v : ℕ → PortState) (f : ℕ → ℕ → PortState) (y k : ℕ) → (y ≡ x → ⊥) → ports_but x v f y k ≡ f y k
ports_other x v f y k n = rw (ne_eqb y x n) refl

-- ports there
pub ports_same : (x : ℕ) (v : ℕ → PortState) (f : ℕ → ℕ → PortState) (y k : ℕ) → y ≡ x → ports_but x v f y k ≡ v k
ports_same x v f y k e = rw (eq-eqb y x e) refl

-- the links of an object depend on its ports
pub ties-same : (old new : Ledger) (x y : ℕ) → ((k : ℕ) → link_count (port new y k) ≡ link_count (port old x k)) → ties new y ≡ ties old x
unfolding ties
ties-same old new x y p = let a = p 0 in let b = p 1 in let c = p 2 in let d = p 3 in omega arith

-- one of the links
pub ties-at : (l : Ledger) (x k : ℕ) → k < 4 → link_count (port l x k) ≤ ties l x
unfolding ties
ties-at l x zero h = omega arith
ties-at l x (suc zero) h = omega arith
ties-at l x (suc (suc zero)) h = omega arith
ties-at l x (suc (suc (suc zero))) h = omega arith
ties-at l x (suc (suc (suc (suc k)))) h = absurd (omega arith)

-- an object that is as before is used as before
pub unused-same : (old new : Ledger) (x : ℕ) → holds new x ≡ holds old x → busy new x ≡ busy old x → ((k : ℕ) → link_count (port new x k) ≡ link_count (port old x k)) → unused new x ≡ unused old x
unfolding unused
unused-same old new x h b p = rw (h, b, ties-same old new x x p) refl

-- all are, where x is
pub counted-all : (x : ℕ) (l : Ledger) → CountedBut x l → (object_lives l x ≡ true → unused l x ≡ false) → IsCounted l
counted-all x l c h y v = elim (cases_eq y x) [
  | inl e ↦ subst (λ z. unused l z ≡ false) (sym e) (h (subst (λ z. object_lives l z ≡ true) e v))
  | inr n ↦ c y n v
]

-- a change of the holds of x leaves the others counted
pub CountedBut-holds : {old new : Ledger} {x n : ℕ} → SetsHolds old new x n → CountedBut x old → CountedBut x new
CountedBut-holds {old} {new} {x} {n} s c y d v =
    unused-same old new y (s.holds_set y ∙ but_other x n (holds old) y d) (s.same_busy y) (λ k. ap link_count (s.same_port y k)) ∙ c y d (sym (s.objects.same_live y) ∙ v)

-- a change of holds leaves the links
pub IsLinked-holds : {old new : Ledger} {x n : ℕ} → SetsHolds old new x n → IsLinked (port old) (rank old) → IsLinked (port new) (rank new)
IsLinked-holds {old} {new} {x} {n} s l = IsLinked-same (port old) (port new) (rank old) (rank new) s.same_port s.objects.same_rank l

pub IsQuiet-holds : {old new : Ledger} {x n : ℕ} → SetsHolds old new x n → IsQuiet old → IsQuiet new
IsQuiet-holds {old} {new} {x} {n} s q = record { idle = λ y. s.same_busy y ∙ q.idle y; settled = λ y k. ap leaves (s.same_port y k) ∙ q.settled y k }

-- more than 0 holds
pub IsWhole-hold : {old new : Ledger} {x n : ℕ} → SetsHolds old new x n → 0 < n → IsLinked (port old) (rank old) → CountedBut x old → ((y : ℕ) → rank old y < 256) → IsBookWhole new
IsWhole-hold {old} {new} {x} {n} s h l c w = record {
  small = λ y. rw (s.objects.same_rank y) (w y);
  links = IsLinked-holds s l;
  counted = counted-all x new (CountedBut-holds s c) (λ _. used-holds new x (rw (s.holds_set x ∙ but_same x n (holds old) x refl) h));
}

-- a new object's ports have no link
new-loose : (k : ℕ) → IsLoose (new_ports k)
new-loose k = elim (cases_Bool (ltb k 4)) [ inl e ↦ rw e tt | inr e ↦ rw e tt ]

-- a new object
pub IsLinked-add : {old new : Ledger} {x r : ℕ} → Adds old new x r → ((k : ℕ) → IsLoose (port old x k)) → IsLinked (port old) (rank old) → IsLinked (port new) (rank new)
IsLinked-add {old} {new} {x} {r} s e l =
    IsLinked-ports x new_ports (port old) (port new) (rank old) (rank new) new-loose e s.port_set (λ y n. s.rank_set y ∙ but_other x r (rank old) y n) l

pub CountedBut-add : {old new : Ledger} {x r : ℕ} → Adds old new x r → IsCounted old → CountedBut x new
CountedBut-add {old} {new} {x} {r} s c y d v =
    unused-same old new y (s.holds_set y ∙ but_other x 0 (holds old) y d) (s.busy_set y ∙ but_other x false (busy old) y d) (λ k. ap link_count (s.port_set y k ∙ ports_other x new_ports (port old) y k d)) ∙ c y (sym (s.live_set y ∙ but_other x true (object_lives old) y d) ∙ v)

new-settled : (k : ℕ) → leaves (new_ports k) ≡ None
new-settled k = elim (cases_Bool (ltb k 4)) [ inl e ↦ rw e refl | inr e ↦ rw e refl ]

pub IsQuiet-add : {old new : Ledger} {x r : ℕ} → Adds old new x r → IsQuiet old → IsQuiet new
IsQuiet-add {old} {new} {x} {r} s q = record {
  idle = λ y. elim (cases_eq y x) [ inl e ↦ s.busy_set y ∙ but_same x false (busy old) y e | inr n ↦ s.busy_set y ∙ but_other x false (busy old) y n ∙ q.idle y ];
  settled = λ y k. elim (cases_eq y x) [ inl e ↦ ap leaves (s.port_set y k) ∙ rw (eq-eqb y x e) (new-settled k) | inr n ↦ ap leaves (s.port_set y k ∙ ports_other x new_ports (port old) y k n) ∙ q.settled y k ];
}

-- an object without links has loose ports
loose-ties : (l : Ledger) (x : ℕ) → ties l x ≡ 0 → (k : ℕ) → IsLoose (port l x k)
loose-ties l x e k = by_state (port l x k) refl
  where
    by_state : (v : PortState) → port l x k ≡ v → IsLoose v
    by_state Open h = tt
    by_state (Linked p) h = let small = (live_by l x k (Linked p) tt h).1 in let t = ties-at l x k small in let w = ap link_count h in absurd (omega arith)
    by_state (Leaving p) h = tt
    by_state Closed h = tt

-- one that is not used has no links
pub unused-ties : (l : Ledger) (x : ℕ) → unused l x ≡ true → ties l x ≡ 0
unused-ties l x h = elim (cases_eq (ties l x) 0) [ inl e ↦ e | inr n ↦ absurd (false≢true (sym (used-ties l x (omega arith)) ∙ h)) ]

pub IsLinked-gone : {old new : Ledger} {x : ℕ} → unused old x ≡ true → Removes old new x → IsLinked (port old) (rank old) → IsLinked (port new) (rank new)
IsLinked-gone {old} {new} {x} u s l = IsLinked-ports x (λ _. Closed) (port old) (port new) (rank old) (rank new) (λ _. tt) (loose-ties old x (unused-ties old x u)) s.port_set (λ y n. s.rank_set y ∙ but_other x 0 (rank old) y n) l

-- an object without use is gone
pub IsWhole-remove : {old new : Ledger} {x : ℕ} → unused old x ≡ true → Removes old new x → IsLinked (port old) (rank old) → CountedBut x old → ((y : ℕ) → rank old y < 256) → IsBookWhole new
IsWhole-remove {old} {new} {x} u s l c w = record {
  small = λ y. elim (cases_eq y x) [ inl e ↦ rw (s.rank_set y ∙ but_same x 0 (rank old) y e) (omega arith) | inr n ↦ rw (s.rank_set y ∙ but_other x 0 (rank old) y n) (w y) ];
  links = IsLinked-ports x (λ _. Closed) (port old) (port new) (rank old) (rank new) (λ _. tt) (loose-ties old x (unused-ties old x u)) s.port_set (λ y n. s.rank_set y ∙ but_other x 0 (rank old) y n) l;
  counted = counted-all x new
      (λ y d v. unused-same old new y (s.holds_set y ∙ but_other x 0 (holds old) y d) (s.busy_set y ∙ but_other x false (busy old) y d) (λ k. ap link_count (s.port_set y k ∙ ports_other x (λ _. Closed) (port old) y k d)) ∙ c y d (sym (s.live_set y ∙ but_other x false (object_lives old) y d) ∙ v))
      (λ v. absurd (false≢true (sym (s.live_set x ∙ but_same x false (object_lives old) x refl) ∙ v)));
}

-- after what was owed for x is done, all are counted
pub IsWhole-settle : {old new : Ledger} {before after : Heard} {id : ObjId} → Settles old new before after id → IsLinked (port old) (rank old) → CountedBut id.0 old → ((y : ℕ) → rank old y < 256) → IsBookWhole new
IsWhole-settle {old} {new} {before} {after} {id} s l c w =
    elim s.how [
      | inl h ↦ subst IsBookWhole (sym h.0) (record { links = l; counted = counted-all id.0 old c (λ _. h.1); small = w })
      | inr h ↦ IsWhole-remove h.0 h.1 l c w
    ]

pub IsQuiet-remove : {old new : Ledger} {x : ℕ} → Removes old new x → IsQuiet old → IsQuiet new
IsQuiet-remove {old} {new} {x} s q = record {
  idle = λ y. elim (cases_eq y x) [ inl e ↦ s.busy_set y ∙ but_same x false (busy old) y e | inr n ↦ s.busy_set y ∙ but_other x false (busy old) y n ∙ q.idle y ];
  settled = λ y k. elim (cases_eq y x) [ inl e ↦ ap leaves (s.port_set y k) ∙ rw (eq-eqb y x e) refl | inr n ↦ ap leaves (s.port_set y k ∙ ports_other x (λ _. Closed) (port old) y k n) ∙ q.settled y k ];
}

pub IsQuiet-settle : {old new : Ledger} {before after : Heard} {id : ObjId} → Settles old new before after id → IsQuiet old → IsQuiet new
IsQuiet-settle {old} {new} {before} {after} {id} s q =
    elim s.how [ inl h ↦ subst IsQuiet (sym h.0) q | inr h ↦ IsQuiet-remove h.1 q ]

-- two ports of one book are written, one after the other
pub two_ports : {old mid new : Ledger} {p q : Port} {v w : PortState} → SetsPort old mid p v → SetsPort mid new q w → (x k : ℕ) → port new x k ≡ port_but q w (port_but p v (port old)) x k
two_ports {old} {mid} {new} {p} {q} {v} {w} a b x k = b.port_set x k ∙ again (cases_port x k q)
  where
    again : ((x ≡ q.obj.0) × (k ≡ q.slot)) ⊎ ((x ≡ q.obj.0) × (k ≡ q.slot) → ⊥) → port_but q w (port mid) x k ≡ port_but q w (port_but p v (port old)) x k
    again (inl i) = port_but-same q w (port mid) x k i.0 i.1 ∙ sym (port_but-same q w (port_but p v (port old)) x k i.0 i.1)
    again (inr n) = port_but-other q w (port mid) x k n ∙ a.port_set x k ∙ sym (port_but-other q w (port_but p v (port old)) x k n)

-- an object with a link is used
pub used-port : (l : Ledger) (x k : ℕ) (v : PortState) → port l x k ≡ v → link_count v ≡ 1 → IsUsed v → unused l x ≡ false
used-port l x k v h n u =
    let small = (live_by l x k v u h).1 in
    let t = ties-at l x k small in
    let w = ap link_count h in
    used-ties l x (omega arith)

-- two open ports are joined
pub IsWhole-plug : {old mid new : Ledger} {p q : Port} → SetsPort old mid p (Linked q) → SetsPort mid new q (Linked p) → port old p.obj.0 p.slot ≡ Open → port old q.obj.0 q.slot ≡ Open → 1 ≤ p.slot → q.slot ≡ 0 → rank old q.obj.0 < rank old p.obj.0 → IsLinked (port old) (rank old) → CountedBut q.obj.0 old → ((y : ℕ) → rank old y < 256) → IsBookWhole new
IsWhole-plug {old} {mid} {new} {p} {q} a b op oq ps qs less l c w = record {
  small = λ y. rw (b.objects.same_rank y ∙ a.objects.same_rank y) (w y);
  links = IsLinked-plug p q (port old) (port new) (rank old) (rank new) op oq ps qs less (two_ports a b) (λ x. b.objects.same_rank x ∙ a.objects.same_rank x) l;
  counted = λ y v. elim (cases_eq y q.obj.0) [
    | inl e ↦ used-port new y q.slot (Linked p) (two_ports a b y q.slot ∙ port_but-same q (Linked p) (port_but p (Linked q) (port old)) y q.slot e refl) refl tt
    | inr n ↦ elim (cases_eq y p.obj.0) [
      | inl e ↦ used-port new y p.slot (Linked q) (two_ports a b y p.slot ∙ port_but-other q (Linked p) (port_but p (Linked q) (port old)) y p.slot (λ i. n i.0) ∙ port_but-same p (Linked q) (port old) y p.slot e refl) refl tt
      | inr m ↦ unused-same old new y (b.same_holds y ∙ a.same_holds y) (b.same_busy y ∙ a.same_busy y) (λ k. ap link_count (two_ports a b y k ∙ port_but-other q (Linked p) (port_but p (Linked q) (port old)) y k (λ i. n i.0) ∙ port_but-other p (Linked q) (port old) y k (λ i. m i.0))) ∙ c y n (sym (b.objects.same_live y ∙ a.objects.same_live y) ∙ v)
    ]
  ];
}

pub IsQuiet-plug : {old mid new : Ledger} {p q : Port} → SetsPort old mid p (Linked q) → SetsPort mid new q (Linked p) → IsQuiet old → IsQuiet new
IsQuiet-plug {old} {mid} {new} {p} {q} a b w = record {
  idle = λ y. b.same_busy y ∙ a.same_busy y ∙ w.idle y;
  settled = λ y k. elim (cases_port y k q) [
    | inl i ↦ ap leaves (two_ports a b y k ∙ port_but-same q (Linked p) (port_but p (Linked q) (port old)) y k i.0 i.1)
    | inr n ↦ elim (cases_port y k p) [
      | inl i ↦ ap leaves (two_ports a b y k ∙ port_but-other q (Linked p) (port_but p (Linked q) (port old)) y k n ∙ port_but-same p (Linked q) (port old) y k i.0 i.1)
      | inr m ↦ ap leaves (two_ports a b y k ∙ port_but-other q (Linked p) (port_but p (Linked q) (port old)) y k n ∙ port_but-other p (Linked q) (port old) y k m) ∙ w.settled y k
    ]
  ];
}

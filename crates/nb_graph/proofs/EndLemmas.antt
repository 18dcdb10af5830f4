-- A graph between calls, after calm calls and at its end.
use Rattle.nb_ledger.specs.Flat.{Heard}
use Rattle.std.proofs.Common.{◌≡◌, ℕ, ◌-◌, ◌<◌, ◌≤◌, inl, inr, true, false, List, [], ◌∷◌, length, Option, None, is_some, refl, ap, sym, ◌∙◌, subst, arith}
use Rattle.std.proofs.lemmas.Bool.{cases_Bool, cases_order, eq-eqb, false≢true, cases_eq}
use Rattle.nb_ledger.specs.declared.object.Object.{Object}
use Rattle.nb_ledger.specs.declared.port.ObjId.{ObjId}
use Rattle.nb_ledger.specs.declared.port.PortState.{PortState}
use Rattle.nb_ledger.specs.declared.port.PortState.TheVariants.{Open, Linked, Leaving, Closed}
use Rattle.nb_ledger.specs.GraphRun.{link_count}
use Rattle.nb_ledger.specs.Ledger.{Ledger, found, object_lives, holds, busy, port, ties, unused, leaves, open_count}
use Rattle.nb_ledger.specs.Changes.{SetsHolds}
use Rattle.nb_ledger.specs.Settled.{Settles}
use Rattle.nb_effects.specs.Whole.{IsQuiet, IsGraph, KeepsRanks}
use Rattle.nb_effects.specs.Calm.{Shrinks, IsSteady}
use Rattle.nb_graph.specs.Ending.{OnlyLetsGo}
use Rattle.nb_effects.proofs.WholeLemmas.{but_same, but_other}
use Rattle.nb_effects.proofs.AgesLemmas.{Ages-refl, Ages-same, Ages-settle, Ages-trans}
use Rattle.nb_effects.proofs.ShrinkLemmas.{Shrinks-settle}

pub IsQuiet-shrinks : {old new : Ledger} → Shrinks old new → IsQuiet old → IsQuiet new
IsQuiet-shrinks {old} {new} s q = record { idle = λ x. s.same_busy x ∙ q.idle x; settled = λ x k. s.same_leaves x k ∙ q.settled x k }

pub KeepsRanks-shrinks : {old new : Ledger} → Shrinks old new → KeepsRanks old new
KeepsRanks-shrinks {old} {new} s = λ x v u. (s.kept x u).1

-- after a calm call
pub IsGraph-calm : {N : Type 0} {rank_of : N → ℕ} {old new : Ledger} {nodes more : List N} {cap big : ℕ} → Shrinks old new → IsSteady rank_of new more big → IsGraph rank_of old nodes cap → IsGraph rank_of new more big
IsGraph-calm {N} {rank_of} {old} {new} {nodes} {more} {cap} {big} s t g = record {
  whole = t.whole;
  quiet = IsQuiet-shrinks s g.quiet;
  manned = t.manned;
  small = let e = s.same_room in let b = g.small in omega arith;
}

pub IsSteady-graph : {N : Type 0} {rank_of : N → ℕ} {l : Ledger} {nodes : List N} {cap : ℕ} → IsGraph rank_of l nodes cap → IsSteady rank_of l nodes cap
IsSteady-graph {N} {rank_of} {l} {nodes} {cap} g = record { whole = g.whole; manned = g.manned }

pub LetsGo-refl : (l : Ledger) → OnlyLetsGo l l
LetsGo-refl l = record { same_made = refl; ages = Ages-refl l; holds_fall = λ x. omega arith; closes = λ x k. omega arith }

pub LetsGo-trans : {a b c : Ledger} → OnlyLetsGo a b → OnlyLetsGo b c → OnlyLetsGo a c
LetsGo-trans {a} {b} {c} p q = record {
  same_made = q.same_made ∙ p.same_made;
  ages = Ages-trans p.ages q.ages;
  holds_fall = λ x. let i = p.holds_fall x in let j = q.holds_fall x in omega arith;
  closes = λ x k. let i = p.closes x k in let j = q.closes x k in omega arith;
}

-- no hold comes where an object may go
holds-settle : {old new : Ledger} {before after : Heard} {id : ObjId} → Settles old new before after id → (x : ℕ) → holds new x ≤ holds old x
holds-settle {old} {new} {before} {after} {id} s x = elim s.how [
  | inl h ↦ let e = ap (λ l. holds l x) h.0 in omega arith
  | inr h ↦ elim (cases_eq x id.0) [
    | inl e ↦ let z = h.1.holds_set x ∙ but_same id.0 0 (holds old) x e in omega arith
    | inr n ↦ let z = h.1.holds_set x ∙ but_other id.0 0 (holds old) x n in omega arith
  ]
]

-- a hold goes
pub LetsGo-let_go : {old mid new : Ledger} {before after : Heard} {id : ObjId} → 0 < holds old id.0 → SetsHolds old mid id.0 (holds old id.0 - 1) → Settles mid new before after id → OnlyLetsGo old new
LetsGo-let_go {old} {mid} {new} {before} {after} {id} h s t = record {
  same_made = (Shrinks-settle t).same_made ∙ s.objects.same_made;
  ages = Ages-trans (Ages-same s.objects) (Ages-settle t);
  holds_fall = λ x. let i = holds-settle t x in elim (cases_eq x id.0) [
    | inl e ↦ let z = s.holds_set x ∙ but_same id.0 (holds old id.0 - 1) (holds old) x e in let y = ap (holds old) e in omega arith
    | inr n ↦ let z = s.holds_set x ∙ but_other id.0 (holds old id.0 - 1) (holds old) x n in omega arith
  ];
  closes = λ x k. let i = (Shrinks-settle t).closes x k in let z = ap open_count (s.same_port x k) in omega arith;
}

pub falls-let_go : {old mid new : Ledger} {before after : Heard} {id : ObjId} → 0 < holds old id.0 → SetsHolds old mid id.0 (holds old id.0 - 1) → Settles mid new before after id → holds new id.0 < holds old id.0
falls-let_go {old} {mid} {new} {before} {after} {id} h s t =
    let i = holds-settle t id.0 in
    let z = s.holds_set id.0 ∙ but_same id.0 (holds old id.0 - 1) (holds old) id.0 refl in
    omega arith

-- what holds of x, of those between, and of those above, holds of all above
pub all-above : (P : ℕ → Type 0) (low x : ℕ) → ((y : ℕ) → low < y → y < x → P y) → P x → ((y : ℕ) → x < y → P y) → (y : ℕ) → low < y → P y
all-above P low x a b c y h = elim (cases_order y x) [
  | inl e ↦ subst P (sym e) b
  | inr j ↦ elim j [ inl l ↦ a y h l | inr l ↦ c y l ]
]

-- nothing is found in a list without objects
pub none-live : (os : List Object) → ((x : ℕ) → is_some (found os x) ≡ false) → length os ≡ 0
none-live [] h = refl
none-live (o ∷ os) h = absurd (false≢true (sym (h o.id.0) ∙ here))
  where
    here : is_some (found (o ∷ os) o.id.0) ≡ true
    here = rw (eq-eqb o.id.0 o.id.0 refl) refl

pub none-objects : (l : Ledger) → ((x : ℕ) → object_lives l x ≡ false) → length l.objects ≡ 0
unfolding object_lives
none-objects l h = none-live l.objects h

-- no open and no half-closed port is no link
closed-link : (v : PortState) → open_count v ≡ 0 → leaves v ≡ None → link_count v ≡ 0
closed-link Open h n = refl
closed-link (Linked p) h n = absurd (omega arith)
closed-link (Leaving p) h n = absurd (cc)
closed-link Closed h n = refl

no-ties : (l : Ledger) (x : ℕ) → ((k : ℕ) → link_count (port l x k) ≡ 0) → ties l x ≡ 0
unfolding ties
no-ties l x h = let a = h 0 in let b = h 1 in let c = h 2 in let d = h 3 in omega arith

is-unused : (l : Ledger) (x : ℕ) → holds l x ≡ 0 → ties l x ≡ 0 → busy l x ≡ false → unused l x ≡ true
unfolding unused
is-unused l x h t b = rw (h, t, b) refl

-- an object that is counted, with no hold and no link, is none
pub dead-all : {N : Type 0} {rank_of : N → ℕ} {l : Ledger} {nodes : List N} {cap : ℕ} → IsGraph rank_of l nodes cap → (x : ℕ) → holds l x ≡ 0 → ((k : ℕ) → open_count (port l x k) ≡ 0) → object_lives l x ≡ false
dead-all {N} {rank_of} {l} {nodes} {cap} g x h o = elim (cases_Bool (object_lives l x)) [
  | inl v ↦ absurd (false≢true (sym (g.whole.counted x v) ∙ is-unused l x h (no-ties l x (λ k. closed-link (port l x k) (o k) (g.quiet.settled x k))) (g.quiet.idle x)))
  | inr d ↦ d
]

-- serials begin at 1
pub dead-zero : (l : Ledger) → ((x : ℕ) → 0 < x → object_lives l x ≡ false) → object_lives l 0 ≡ false → length l.objects ≡ 0
dead-zero l h z = none-objects l (λ x. elim (cases_eq x 0) [ inl e ↦ subst (λ y. object_lives l y ≡ false) (sym e) z | inr n ↦ h x (omega arith) ])

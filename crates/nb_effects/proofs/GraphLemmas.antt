-- A graph between calls stays one.
use Rattle.nb_ledger.specs.Flat.{Heard}
use Rattle.std.proofs.Common.{◌≡◌, ℕ, ◌+◌, ◌<◌, ◌≤◌, true, false, List, [], ◌∷◌, ◌++◌, length, slice_get, Some, inl, inr, Option, refl, ap, sym, ◌∙◌, subst, arith}
use Rattle.std.proofs.lemmas.Bool.{false≢true, cases_eq}
use Rattle.nb_ledger.specs.declared.port.ObjId.{ObjId}
use Rattle.nb_ledger.specs.declared.port.Port.{Port}
use Rattle.nb_ledger.specs.declared.port.PortState.{PortState}
use Rattle.nb_ledger.specs.declared.port.PortState.TheVariants.{Open, Linked, Leaving, Closed}
use Rattle.nb_ledger.specs.Ledger.{Ledger, object_lives, busy, rank, ranks, port, place}
use Rattle.nb_ledger.specs.Changes.{SameObjects, SetsHolds, SetsPort, Adds}
use Rattle.nb_ledger.specs.Settled.{Settles}
use Rattle.nb_ledger.proofs.PortLemmas.{live_by}
use Rattle.nb_effects.specs.Whole.{IsLinked, IsCounted, CountedBut, IsQuiet, IsManned, IsGraph, IsMade, KeepsRanks}
use Rattle.nb_effects.proofs.LinkLemmas.{IsLoose}
use Rattle.nb_effects.proofs.MannedLemmas.{removed-length, IsManned-same, length-ranks}
use Rattle.nb_effects.proofs.WholeLemmas.{but_other, but_same, CountedBut-add, IsLinked-add, IsQuiet-add, IsQuiet-holds, IsQuiet-plug, IsWhole-hold, IsWhole-plug, IsWhole-settle, IsQuiet-settle}

-- the last element of a list
pub slice_get-push : {A : Type 0} (xs : List A) (x : A) → slice_get (xs ++ x ∷ []) (length xs) ≡ Some x
slice_get-push [] x = refl
slice_get-push (y ∷ ys) x = slice_get-push ys x

-- as many objects
pub same-length : {old new : Ledger} → SameObjects old new → length new.objects ≡ length old.objects
same-length {old} {new} s = sym (length-ranks new) ∙ ap length s.same_ranks ∙ length-ranks old

-- all but x are counted where all are
pub but-counted : (l : Ledger) (x : ℕ) → IsCounted l → CountedBut x l
but-counted l x c = λ y n v. c y v

-- a dead object's ports have no link
pub dead-loose : (l : Ledger) (x : ℕ) → object_lives l x ≡ false → (k : ℕ) → IsLoose (port l x k)
dead-loose l x d k = by_state (port l x k) refl
  where
    by_state : (v : PortState) → port l x k ≡ v → IsLoose v
    by_state Open h = tt
    by_state (Linked p) h = absurd (false≢true (sym d ∙ (live_by l x k (Linked p) tt h).0))
    by_state (Leaving p) h = tt
    by_state Closed h = tt

-- nothing lives
pub IsGraph-empty : {N : Type 0} (rank_of : N → ℕ) (cap room : ℕ) → cap ≤ 64 → cap ≤ room → IsGraph rank_of (record { made = 0; room = cap; objects = [] }) [] room
unfolding object_lives busy port ranks rank
IsGraph-empty rank_of cap room small fits = record {
  whole = record {
    links = record { back = λ x k p h. absurd (cc); upper = λ x p h. absurd (cc); lower = λ x k p i h. absurd (cc); falls = λ x p h. absurd (cc) };
    counted = λ x h. absurd (cc);
    small = λ x. omega arith;
  };
  quiet = record { idle = λ x. refl; settled = λ x k. refl };
  manned = record { same_ranks = refl; room = fits; in_room = omega arith };
  small = small;
}

-- a hold is added
pub IsGraph-hold : {N : Type 0} {rank_of : N → ℕ} {old new : Ledger} {nodes : List N} {cap x n : ℕ} → SetsHolds old new x n → 0 < n → IsGraph rank_of old nodes cap → IsGraph rank_of new nodes cap
IsGraph-hold {N} {rank_of} {old} {new} {nodes} {cap} {x} {n} s h g = record {
  whole = IsWhole-hold s h g.whole.links (but-counted old x g.whole.counted) g.whole.small;
  quiet = IsQuiet-holds s g.quiet;
  manned = IsManned-same s.objects g.manned;
  small = let e = s.objects.same_room in let b = g.small in omega arith;
}

-- a link is made
pub IsGraph-plug : {N : Type 0} {rank_of : N → ℕ} {old mid new : Ledger} {nodes : List N} {cap : ℕ} {p q : Port} → SetsPort old mid p (Linked q) → SetsPort mid new q (Linked p) → port old p.obj.0 p.slot ≡ Open → port old q.obj.0 q.slot ≡ Open → 1 ≤ p.slot → q.slot ≡ 0 → rank old q.obj.0 < rank old p.obj.0 → IsGraph rank_of old nodes cap → IsGraph rank_of new nodes cap
IsGraph-plug {N} {rank_of} {old} {mid} {new} {nodes} {cap} {p} {q} a b op oq ps qs less g = record {
  whole = IsWhole-plug a b op oq ps qs less g.whole.links (but-counted old q.obj.0 g.whole.counted) g.whole.small;
  quiet = IsQuiet-plug a b g.quiet;
  manned = IsManned-same b.objects (IsManned-same a.objects g.manned);
  small = let e = a.objects.same_room in let f = b.objects.same_room in let h = g.small in omega arith;
}

-- ranks stay small
pub small-add : {old new : Ledger} {x r : ℕ} → Adds old new x r → r < 256 → ((y : ℕ) → rank old y < 256) → (y : ℕ) → rank new y < 256
small-add {old} {new} {x} {r} a sm w y = elim (cases_eq y x) [ inl e ↦ rw (a.rank_set y ∙ but_same x r (rank old) y e) sm | inr n ↦ rw (a.rank_set y ∙ but_other x r (rank old) y n) (w y) ]

-- an object is made and held
pub IsGraph-make : {N : Type 0} {rank_of : N → ℕ} {old mid new : Ledger} {nodes more : List N} {cap big x r n : ℕ} → Adds old mid x r → object_lives old x ≡ false → SetsHolds mid new x n → 0 < n → r < 256 → IsManned rank_of mid more big → IsGraph rank_of old nodes cap → IsGraph rank_of new more big
IsGraph-make {N} {rank_of} {old} {mid} {new} {nodes} {more} {cap} {big} {x} {r} {n} a d s h sm m g = record {
  whole = IsWhole-hold s h (IsLinked-add a (dead-loose old x d) g.whole.links) (CountedBut-add a g.whole.counted) (λ y. small-add a sm g.whole.small y);
  quiet = IsQuiet-holds s (IsQuiet-add a g.quiet);
  manned = IsManned-same s.objects m;
  small = let e = a.same_room in let f = s.objects.same_room in let b = g.small in omega arith;
}

-- no more objects
pub settled-length : {old new : Ledger} {before after : Heard} {id : ObjId} → Settles old new before after id → length new.objects ≤ length old.objects
settled-length {old} {new} {before} {after} {id} s = elim s.how [
  | inl h ↦ let e = ap (λ l. length l.objects) h.0 in omega arith
  | inr h ↦ let e = ap length h.1.ranks_set in let a = length-ranks new in let b = length-ranks old in let d = removed-length (ranks old) (place old id.0) in omega arith
]

pub settled-room : {old new : Ledger} {before after : Heard} {id : ObjId} → Settles old new before after id → new.room ≡ old.room
settled-room {old} {new} {before} {after} {id} s = elim s.how [ inl h ↦ ap (λ l. l.room) h.0 | inr h ↦ h.1.same_room ]

-- what was owed is done
pub IsGraph-settle : {N : Type 0} {rank_of : N → ℕ} {old new : Ledger} {nodes : List N} {cap : ℕ} {before after : Heard} {id : ObjId} → Settles old new before after id → IsLinked (port old) (rank old) → CountedBut id.0 old → IsQuiet old → ((y : ℕ) → rank old y < 256) → IsManned rank_of new nodes cap → old.room ≤ 64 → IsGraph rank_of new nodes cap
IsGraph-settle {N} {rank_of} {old} {new} {nodes} {cap} {before} {after} {id} s l c q w m small = record {
  whole = IsWhole-settle s l c w;
  quiet = IsQuiet-settle s q;
  manned = m;
  small = let e = settled-room s in omega arith;
}

-- ranks stay where the objects do
pub KeepsRanks-same : {old new : Ledger} → SameObjects old new → KeepsRanks old new
KeepsRanks-same {old} {new} s = λ x _ _. s.same_rank x

-- and where one is made
pub KeepsRanks-make : {old mid new : Ledger} {x r : ℕ} → Adds old mid x r → object_lives old x ≡ false → SameObjects mid new → KeepsRanks old new
KeepsRanks-make {old} {mid} {new} {x} {r} a d s = λ y v _. s.same_rank y ∙ a.rank_set y ∙ but_other x r (rank old) y (λ e. false≢true (sym d ∙ subst (λ z. object_lives old z ≡ true) e v))

-- and where one is gone
pub KeepsRanks-settle : {old mid new : Ledger} {before after : Heard} {id : ObjId} → SameObjects old mid → Settles mid new before after id → KeepsRanks old new
KeepsRanks-settle {old} {mid} {new} {before} {after} {id} s t = elim t.how [
  | inl h ↦ λ y v u. ap (λ l. rank l y) h.0 ∙ s.same_rank y
  | inr h ↦ λ y v u. h.1.rank_set y ∙ but_other id.0 0 (rank mid) y (λ e. false≢true (sym (h.1.live_set y ∙ but_same id.0 false (object_lives mid) y e) ∙ u)) ∙ s.same_rank y
]

-- what is known of an object just made
pub IsMade-make : {N : Type 0} {old mid new : Ledger} {nodes : List N} {x : ObjId} {r n : ℕ} (node : N) → Adds old mid x.0 r → x.0 ≡ old.made + 1 → SetsHolds mid new x.0 n → place mid x.0 ≡ length nodes → IsMade (record { book = old; nodes = nodes }) (record { book = new; nodes = nodes ++ node ∷ [] }) node r x
IsMade-make {N} {old} {mid} {new} {nodes} {x} {r} {n} node a e s h = record {
  serial = e;
  lives = s.objects.same_live x.0 ∙ a.live_set x.0 ∙ but_same x.0 true (object_lives old) x.0 refl;
  at_rank = s.objects.same_rank x.0 ∙ a.rank_set x.0 ∙ but_same x.0 r (rank old) x.0 refl;
  is_node = rw (s.objects.same_place x.0, h) (slice_get-push nodes node);
}

-- Serials rise, and ranks stay.
use Rattle.nb_ledger.specs.Flat.{Heard}
use Rattle.std.proofs.Common.{◌≡◌, ℕ, ◌+◌, inl, inr, true, false, List, Option, refl, sym, ◌∙◌, subst, arith}
use Rattle.std.proofs.lemmas.Bool.{cases_eq, false≢true}
use Rattle.nb_ledger.specs.declared.port.ObjId.{ObjId}
use Rattle.nb_ledger.specs.Ledger.{Ledger, object_lives, rank}
use Rattle.nb_ledger.specs.Changes.{SameObjects, Adds, Removes}
use Rattle.nb_ledger.specs.Settled.{Settles}
use Rattle.nb_effects.specs.Calm.{Shrinks}
use Rattle.nb_effects.specs.Whole.{Ages}
use Rattle.nb_effects.proofs.WholeLemmas.{but_other, but_same}

pub Ages-refl : (l : Ledger) → Ages l l
Ages-refl l = record { later = omega arith; kept = λ x h v. (v, refl) }

pub Ages-trans : {a b c : Ledger} → Ages a b → Ages b c → Ages a c
Ages-trans {a} {b} {c} p q =
    let first = p.later in
    let then = q.later in
    record {
      later = omega arith;
      kept = λ x h v. let m = q.kept x (omega arith) v in let n = p.kept x h m.0 in (n.0, m.1 ∙ n.1);
    }

-- no object is made, and those that stay keep their rank
pub Ages-within : {old new : Ledger} → new.made ≡ old.made → ((x : ℕ) → object_lives new x ≡ true → (object_lives old x ≡ true) × (rank new x ≡ rank old x)) → Ages old new
Ages-within {old} {new} e kept = record { later = omega (arith, e); kept = λ x h v. kept x v }

pub Ages-shrinks : {old new : Ledger} → Shrinks old new → Ages old new
Ages-shrinks {old} {new} s = Ages-within s.same_made s.kept

pub Ages-same : {old new : Ledger} → SameObjects old new → Ages old new
Ages-same {old} {new} s = let e = s.same_made in record { later = omega arith; kept = λ x h v. (sym (s.same_live x) ∙ v, s.same_rank x) }

pub Ages-adds : {old new : Ledger} {y r : ℕ} → y ≡ old.made + 1 → Adds old new y r → Ages old new
Ages-adds {old} {new} {y} {r} e a =
    let m = a.made_set in
    record {
      later = omega arith;
      kept = λ x h v.
          let other : (x ≡ y → ⊥) = λ z. absurd (omega arith) in
          (sym (a.live_set x ∙ but_other y true (object_lives old) x other) ∙ v, a.rank_set x ∙ but_other y r (rank old) x other);
    }

pub Ages-removes : {old new : Ledger} {y : ℕ} → Removes old new y → Ages old new
Ages-removes {old} {new} {y} r =
    let m = r.same_made in
    record {
      later = omega arith;
      kept = λ x h v. elim (cases_eq x y) [
        | inl e ↦ absurd (false≢true (sym (r.live_set x ∙ but_same y false (object_lives old) x e) ∙ v))
        | inr n ↦ (sym (r.live_set x ∙ but_other y false (object_lives old) x n) ∙ v, r.rank_set x ∙ but_other y 0 (rank old) x n)
      ];
    }

pub Ages-settle : {old new : Ledger} {before after : Heard} {id : ObjId} → Settles old new before after id → Ages old new
Ages-settle {old} {new} {id = id} s = elim s.how [
  | inl h ↦ subst (Ages old) (sym h.0) (Ages-refl old)
  | inr h ↦ Ages-removes h.1
]

-- When an object is to be freed, by the book.
use Rattle.std.proofs.Common.{◌≡◌, ℕ, ◌+◌, ◌<◌, true, false, List, ◌∷◌, refl, sym, ◌∙◌, arith, ltb}
use Rattle.std.proofs.lemmas.Bool.{eq-eqb, ne_eqb, eqb-true, and_parts, not-true}
use Rattle.std.proofs.lemmas.Bool.Decides.{nat_tests}
use Rattle.nb_ledger.specs.GraphRun.{GraphState, OnStack, MustFree, with_stack, object_count, owed, running_entries}
use Rattle.nb_ledger.specs.Ledger.{Ledger, holds, busy, ties, unused, run_state, Agrees}

-- the count of the state is what the book has and the entries on the stack
pub count-state : (l : Ledger) (st : List OnStack) (x : ℕ) → object_count (run_state l st) x ≡ holds l x + ties l x + running_entries st x
unfolding object_count ties
count-state l st x = refl

-- at 0 it is to be freed
pub owed-zero : (s : GraphState) (x : ℕ) → object_count s x ≡ 0 → owed x s ≡ with_stack (MustFree x ∷ s.stack) s
unfolding owed
owed-zero s x h = rw (eq-eqb (object_count s x) 0 h) refl

-- above 0 it isn't
pub owed-some : (s : GraphState) (x : ℕ) → 0 < object_count s x → owed x s ≡ s
unfolding owed
owed-some s x h = rw (ne_eqb (object_count s x) 0 (omega arith)) refl

-- an object that is not used is to be freed
pub owed-unused : (l : Ledger) (st : List OnStack) (x : ℕ) → Agrees l st → unused l x ≡ true → owed x (run_state l st) ≡ run_state l (MustFree x ∷ st)
unfolding unused
owed-unused l st x a h =
    let p = and_parts _ _ h in
    let q = and_parts _ _ p.1 in
    let none : holds l x ≡ 0 = eqb-true _ _ p.0 in
    let loose : ties l x ≡ 0 = eqb-true _ _ q.0 in
    let still = not-true _ q.1 in
    let e : ltb 0 (running_entries st x) ≡ false = sym (a x) ∙ still in
    let c = count-state l st x in
    owed-zero _ x (let g : running_entries st x ≡ 0 = grind (arith, nat_tests, e) in omega (arith, c, none, loose, g))

-- an object that is used isn't
pub owed-used : (l : Ledger) (st : List OnStack) (x : ℕ) → Agrees l st → unused l x ≡ false → owed x (run_state l st) ≡ run_state l st
unfolding unused
owed-used l st x a h =
    let e = a x in
    let c = count-state l st x in
    owed-some _ x (grind (arith, nat_tests))

-- an object with a link is used
pub used-ties : (l : Ledger) (x : ℕ) → 0 < ties l x → unused l x ≡ false
unfolding unused
used-ties l x h = grind (arith, nat_tests)

-- so is one with a hold
pub used-holds : (l : Ledger) (x : ℕ) → 0 < holds l x → unused l x ≡ false
unfolding unused
used-holds l x h = grind (arith, nat_tests)

-- so is one of which an entry runs
pub used-busy : (l : Ledger) (x : ℕ) → busy l x ≡ true → unused l x ≡ false
unfolding unused
used-busy l x h = grind (arith, nat_tests)

-- What `node` lends.
use Rattle.std.proofs.Common.{◌≡◌, ℕ, ◌<◌, ◌≤◌, ◌↔◌, inl, inr, true, false, List, length, get_or, slice_get, Option, Some, None, is_some, IfSome, IsNone, zero, suc, [], ◌∷◌, refl, ap, sym, ◌∙◌, arith}
use Rattle.std.specs.Borrow.{Bor}
use Rattle.std.specs.Option.{option_copied}
use Rattle.std.proofs.lemmas.Bool.{cases_Bool, false≢true, ltb-false}
use Rattle.nb_ledger.specs.Ledger.{Ledger, object_lives, rank, place}
use Rattle.nb_ledger.proofs.PlaceLemmas.{live_place}
use Rattle.nb_effects.specs.Whole.{IsManned}
use Rattle.nb_graph.specs.Noded.{HasNode}
use Rattle.nb_effects.proofs.MannedLemmas.{manned-length, manned-place}
use Rattle.nb_graph.proofs.LivelyLemmas.{manned-rank, slice_get-at, slice_get-past, some_inj}

-- there is an element within
slice_get-in : {A : Type 0} (xs : List A) (i : ℕ) → i < length xs → is_some (slice_get xs i) ≡ true
slice_get-in [] i h = absurd (omega arith)
slice_get-in (x ∷ xs) zero h = refl
slice_get-in (x ∷ xs) (suc i) h = slice_get-in xs i (omega arith)

-- where there is not something, there is nothing
pub nothing-there : {A : Type 0} (o : Option A) → is_some o ≡ false → o ≡ None
nothing-there None h = refl
nothing-there (Some a) h = absurd (cc)

-- a dead object stands at no place
dead-past : (l : Ledger) (x : ℕ) → object_lives l x ≡ false → length l.objects ≤ place l x
unfolding object_lives
dead-past l x h = ltb-false _ _ (live_place l.objects x ∙ h)

pub node-dead : {N : Type 0} {rank_of : N → ℕ} {l : Ledger} {nodes : List N} {cap : ℕ} (x : ℕ) (r : Option (Bor N)) → IsManned rank_of l nodes cap → option_copied r ≡ slice_get nodes (place l x) → IsNone r ↔ (object_lives l x ≡ false)
node-dead {N} {rank_of} {l} {nodes} {cap} x None m e = (
  λ _. elim (cases_Bool (object_lives l x)) [
    | inl v ↦ some_there v
    | inr d ↦ d
  ],
  λ _. refl,
)
  where
    some_there : object_lives l x ≡ true → object_lives l x ≡ false
    some_there v = absurd (false≢true (ap is_some e ∙ slice_get-in nodes (place l x) (manned-place x m v)))
node-dead {N} {rank_of} {l} {nodes} {cap} x (Some b) m e =
    (λ n. absurd (cc), λ d. absurd (let h = dead-past l x d in let k = manned-length m in let p = slice_get-past nodes (place l x) (omega arith) in cc))

pub node-rank : {N : Type 0} {rank_of : N → ℕ} {l : Ledger} {nodes : List N} {cap : ℕ} (x : ℕ) (r : Option (Bor N)) → IsManned rank_of l nodes cap → option_copied r ≡ slice_get nodes (place l x) → IfSome r (λ n. rank_of n.now ≡ rank l x)
node-rank {N} {rank_of} {l} {nodes} {cap} x None m e = tt
node-rank {N} {rank_of} {l} {nodes} {cap} x (Some b) m e = elim (cases_Bool (object_lives l x)) [
  | inl v ↦
      let h = manned-place x m v in
      let d : b.now ≡ get_or nodes (place l x) b.now = some_inj (e ∙ slice_get-at nodes (place l x) b.now h) in
      sym (manned-rank x b.now m v h d)
  | inr d ↦ absurd (let h = dead-past l x d in let k = manned-length m in let p = slice_get-past nodes (place l x) (omega arith) in cc)
]

-- each live object has a node, of the rank that the book has
pub are-noded : {N : Type 0} {rank_of : N → ℕ} {l : Ledger} {nodes : List N} {cap : ℕ} → IsManned rank_of l nodes cap → (x : ℕ) → object_lives l x ≡ true → HasNode rank_of (record { book = l; nodes = nodes }) x
are-noded {N} {rank_of} {l} {nodes} {cap} m x v = there (slice_get nodes (place l x)) refl (slice_get-in nodes (place l x) (manned-place x m v))
  where
    there : (o : Option N) → o ≡ slice_get nodes (place l x) → is_some o ≡ true → HasNode rank_of (record { book = l; nodes = nodes }) x
    there None e h = absurd (false≢true h)
    there (Some n) e h = record {
      node = n;
      is_node = sym e;
      at_rank = sym (manned-rank x n m v (manned-place x m v) (some_inj (e ∙ slice_get-at nodes (place l x) n (manned-place x m v))));
    }

-- A fact of each of two lists of objects.
use Rattle.std.proofs.Common.{inl, inr, ◌≡◌, ◌⊎◌, ℕ, ◌==◌, ◌||◌, Bool, true, false, List, [], ◌∷◌, ◌++◌, refl, sym, ◌∙◌}
use Rattle.std.proofs.lemmas.Bool.{false≢true}
use Rattle.nb_ledger.specs.Flat.{Heard, Notice}
use Rattle.nb_graph.specs.Whole.{Objects}
use Rattle.nb_frames.specs.Frames.{is_one_of, KeepsOthers}
use Rattle.nb_frames.specs.Within.{IsEventWithin}
use Rattle.nb_frames.proofs.OwnCallLemmas.{either_way}
use Rattle.nb_nodes.specs.declared.obj.Obj.{Obj}
use Rattle.nb_chains.specs.Chains.{AreOthers}
use Rattle.nb_chains.specs.Giving.{CallGives}
use Rattle.nb_chains.proofs.GivingLemmas.{gives_more, more_within}

or_first : (a b : Bool) → a ≡ true → (a || b) ≡ true
or_first true b e = refl
or_first false b e = absurd (false≢true e)

or_last : (a b : Bool) → b ≡ true → (a || b) ≡ true
or_last true b e = refl
or_last false b e = e

or_either : (a b : Bool) → (a || b) ≡ true → (a ≡ true) ⊎ (b ≡ true)
or_either true b e = inl refl
or_either false b e = inr e

-- one of the first is one of both, and so is one of the last
pub in_first : (xs ys : List ℕ) (x : ℕ) → is_one_of xs x ≡ true → is_one_of (xs ++ ys) x ≡ true
in_first [] ys x o = absurd (false≢true o)
in_first (y ∷ xs) ys x o = elim (or_either (x == y) (is_one_of xs x) o) [
  | inl e ↦ or_first (x == y) (is_one_of (xs ++ ys) x) e
  | inr e ↦ or_last (x == y) (is_one_of (xs ++ ys) x) (in_first xs ys x e)
]

pub in_last : (xs ys : List ℕ) (x : ℕ) → is_one_of ys x ≡ true → is_one_of (xs ++ ys) x ≡ true
in_last [] ys x o = o
in_last (y ∷ xs) ys x o = or_last (x == y) (is_one_of (xs ++ ys) x) (in_last xs ys x o)

pub in_either : (xs ys : List ℕ) (x : ℕ) → is_one_of (xs ++ ys) x ≡ true → (is_one_of xs x ≡ true) ⊎ (is_one_of ys x ≡ true)
in_either [] ys x o = inr o
in_either (y ∷ xs) ys x o = elim (or_either (x == y) (is_one_of (xs ++ ys) x) o) [
  | inl e ↦ inl (or_first (x == y) (is_one_of xs x) e)
  | inr e ↦ elim (in_either xs ys x e) [ inl f ↦ inl (or_last (x == y) (is_one_of xs x) f) | inr f ↦ inr f ]
]

-- where none of the others is one of these, none of these is one of the others
pub away_from : (ids others : List ℕ) → AreOthers ids others → AreOthers others ids
away_from ids others apart x o = elim (either_way (is_one_of others x)) [ inl p ↦ absurd (false≢true (sym (apart x p) ∙ o)) | inr p ↦ p ]

-- what leaves all but some leaves all but more
pub others_of_more : (own more : ℕ → Bool) (g h : Objects Obj) → ((x : ℕ) → own x ≡ true → more x ≡ true) → KeepsOthers own g h → KeepsOthers more g h
others_of_more own more g h within k = record {
  same_made = k.same_made;
  others = λ y low far. k.others y low (elim (either_way (own y)) [ inl p ↦ absurd (false≢true (sym far ∙ within y p)) | inr p ↦ p ]);
}

-- what some objects give is given by more
pub gives_of_more : (own more : ℕ → Bool) (g h : Objects Obj) (m n : Heard) (ns : List Notice) → ((x : ℕ) → own x ≡ true → more x ≡ true) → CallGives (IsEventWithin own) g h m n ns → CallGives (IsEventWithin more) g h m n ns
gives_of_more own more g h m n ns within k = gives_more (IsEventWithin own) (IsEventWithin more) (more_within own more within) g h m n ns k

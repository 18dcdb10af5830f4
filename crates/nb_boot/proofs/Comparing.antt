-- Two lists of records that spell the start of one input.
use Rattle.std.proofs.Common.{◌≡◌, ℕ, List, [], ◌∷◌, ◌++◌, refl, sym, ◌∙◌, ap, append_assoc}
use Rattle.nb_defs.specs.Records.{In, in_text, in_texts}
use Rattle.nb_defs.proofs.RecordLaws.{in_text_apart}
use Rattle.nb_boot.proofs.Spelled.{AreIn}

-- two lists of records, whose spellings begin the same bytes
pub data Compared (xs ys : List In) (a b : List ℕ) : Type 0 where
  equal : xs ≡ ys → a ≡ b → Compared xs ys a b
  longer : (q : In) (qs : List In) → xs ≡ ys ++ q ∷ qs → in_text q ++ (in_texts qs ++ a) ≡ b → Compared xs ys a b
  shorter : (q : In) (qs : List In) → ys ≡ xs ++ q ∷ qs → a ≡ in_text q ++ (in_texts qs ++ b) → Compared xs ys a b

further : (x y : In) (xs ys : List In) (a b : List ℕ) → x ≡ y → Compared xs ys a b → Compared (x ∷ xs) (y ∷ ys) a b
further x y xs ys a b e (equal h k) = equal (ap (λ z. z ∷ xs) e ∙ ap (λ z. y ∷ z) h) k
further x y xs ys a b e (longer q qs h k) = longer q qs (ap (λ z. z ∷ xs) e ∙ ap (λ z. y ∷ z) h) k
further x y xs ys a b e (shorter q qs h k) = shorter q qs (ap (λ z. z ∷ ys) (sym e) ∙ ap (λ z. x ∷ z) h) k

pub compare : (xs ys : List In) (a b : List ℕ) → AreIn xs → AreIn ys → in_texts xs ++ a ≡ in_texts ys ++ b → Compared xs ys a b
compare [] [] a b v w e = equal refl e
compare [] (q ∷ qs) a b v w e = shorter q qs refl (e ∙ append_assoc (in_text q) (in_texts qs) b)
compare (q ∷ qs) [] a b v w e = longer q qs refl (sym (append_assoc (in_text q) (in_texts qs) a) ∙ e)
compare (x ∷ xs) (y ∷ ys) a b v w e =
    let s = in_text_apart x y (in_texts xs ++ a) (in_texts ys ++ b) v.0 w.0 (sym (append_assoc (in_text x) (in_texts xs) a) ∙ e ∙ append_assoc (in_text y) (in_texts ys) b) in
    further x y xs ys a b s.record_is (compare xs ys a b v.1 w.1 s.rest_is)

-- the last of some records
pub ending : (q : In) (qs : List In) → (front : List In) × (last : In) × (q ∷ qs ≡ front ++ last ∷ [])
ending q [] = ([], q, refl)
ending q (r ∷ qs) = let k = ending r qs in (q ∷ k.0, k.1, ap (λ z. q ∷ z) k.2)

-- Texts among a table's bytes: cut off from their start, and where they stand.
use Rattle.std.proofs.Common.{◌≡◌, ℕ, ◌+◌, ◌<◌, ◌≤◌, List, [], ◌∷◌, ◌++◌, length, Option, Some, None, MatchOption, IfSome, IsSomeAnd, ◌≢◌, refl, sym, ap, ◌∙◌, append_assoc, append-nil, arith, Bor, ◌↔◌}
use Rattle.std.proofs.lemmas.List.{length-append}
use Rattle.nb_wire.proofs.BytesLaws.{append_one}
use Rattle.nb_ibft.specs.Tables.{kept, texts_joined}
use Rattle.nb_ibft.specs.Infos.{IsShortText}
use Rattle.nb_ibft.specs.Places.{AllStandAt}

-- a text of some bytes, and what follows it, is the text, a zero and that
pub kept_rest : (text rest : List ℕ) → 0 < length text → kept text ++ rest ≡ text ++ (0 ∷ rest)
kept_rest [] rest h = absurd (omega arith)
kept_rest (x ∷ xs) rest h = ap (λ l. x ∷ l) (append_assoc xs (0 ∷ []) rest)

-- what a cut of these first bytes says
pub after_is : (s p : List ℕ) (r : Option (Bor (List ℕ))) → MatchOption r ((rest : List ℕ) → s ≢ p ++ rest) (λ x. s ≡ p ++ x.now) → IfSome r (λ x. s ≡ p ++ x.now) × ((rest : List ℕ) → s ≡ p ++ rest → IsSomeAnd r (λ x. x.now ≡ rest))
after_is s p None h = (tt, λ rest e. absurd (h rest e))
after_is s p (Some x) h = (h, λ rest e. (append_one p x.now p rest refl (sym h ∙ e)).1)

-- texts that are joined stand one after another
pub all_stand : (bytes before after : List ℕ) (texts : List (List ℕ)) (at : ℕ) → bytes ≡ before ++ (texts_joined texts ++ after) → length before ≡ at → AllStandAt bytes at texts
all_stand bytes before after [] at e l = tt
all_stand bytes before after (t ∷ ts) at e l =
    let first : bytes ≡ before ++ (kept t ++ (texts_joined ts ++ after)) = e ∙ ap (λ x. before ++ x) (append_assoc (kept t) (texts_joined ts) after) in (
      record { before = before; after = texts_joined ts ++ after; spelled = first; place = l },
      all_stand bytes (before ++ kept t) after ts (at + length (kept t)) (first ∙ sym (append_assoc before (kept t) (texts_joined ts ++ after))) (length-append before (kept t) ∙ ap (λ n. n + length (kept t)) l),
    )

-- a short text takes at most 1,089 bytes
pub kept_short : (text : List ℕ) → IsShortText text → length (kept text) ≤ 1089
kept_short [] h = omega arith
kept_short (x ∷ xs) h = omega (arith, length-append xs (0 ∷ []), h)

-- nothing is left of bytes exactly where they are these
pub ends_there : (s p : List ℕ) (r : Option (Bor (List ℕ))) → IfSome r (λ x. s ≡ p ++ x.now) → ((rest : List ℕ) → s ≡ p ++ rest → IsSomeAnd r (λ x. x.now ≡ rest)) → IsSomeAnd r (λ x. x.now ≡ []) ↔ (s ≡ p)
ends_there s p None sound complete = (λ h. absurd h, λ e. complete [] (e ∙ sym (append-nil p)))
ends_there s p (Some x) sound complete = (λ h. sound ∙ ap (λ y. p ++ y) h ∙ append-nil p, λ e. complete [] (e ∙ sym (append-nil p)))

-- texts of two lists, one after another
pub joined-append : (xs ys : List (List ℕ)) → texts_joined (xs ++ ys) ≡ texts_joined xs ++ texts_joined ys
joined-append [] ys = refl
joined-append (x ∷ xs) ys = ap (λ l. kept x ++ l) (joined-append xs ys) ∙ sym (append_assoc (kept x) (texts_joined xs) (texts_joined ys))

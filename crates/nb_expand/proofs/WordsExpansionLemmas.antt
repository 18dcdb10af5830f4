-- Words expanded one after another, and words that are their own expansion.
use Rattle.std.proofs.Common.{◌≡◌, ℕ, suc, ◌≤◌, ◌==◌, ◌+◌, ◌<◌, false, List, [], ◌∷◌, ◌++◌, length, get_or, drop, Option, Some, Ok, Err, refl, sym, ap, ◌∙◌, append_assoc, append-nil, add-one}
use Rattle.std.proofs.Math.ListN.{drop_of_length-le}
use Rattle.std.proofs.Math.Seq.{drop-cons}
use Rattle.std.specs.Prelude.{Result}
use Rattle.std.specs.List.{list_any}
use Rattle.std.proofs.Math.Logic.{⊎_elim}
use Rattle.std.proofs.lemmas.Bool.{cases_Bool, eqb-true, le-leb, or_parts}
use Rattle.nb_expand.specs.declared.token.Token.{Token}
use Rattle.nb_expand.specs.declared.error.ExpandError.{ExpandError}
use Rattle.nb_expand.specs.Expansion.{token_of, tokens, expansion_from, expanded}
use Rattle.nb_expand.specs.WordsExpansion.{word_before, expanded_each}

-- A WORD WITHOUT `$`

-- outside of open parts a byte stands for itself
alone : (value : List ℕ → Option (List ℕ)) (inner : List ℕ) (b : ℕ) (rest : List Token) → expansion_from value inner [] (token_of b ∷ rest) ≡ expansion_from value (inner ++ b ∷ []) [] rest
alone value inner b rest = ⊎_elim
    (λ on. rw on (ap (λ (x : ℕ). expansion_from value (inner ++ x ∷ []) [] rest) (sym (eqb-true b 125 on))))
    (λ off. rw off refl)
    (cases_Bool (b == 125))

plain_from : (value : List ℕ → Option (List ℕ)) (text inner : List ℕ) → list_any (λ y. y == 36) text ≡ false → expansion_from value inner [] (tokens text) ≡ Some (inner ++ text)
plain_from value [] inner h = ap Some (sym (append-nil inner))
plain_from value (b ∷ []) inner h = alone value inner b []
plain_from value (b ∷ c ∷ rest) inner h =
    let off = or_parts (b == 36) (list_any (λ y. y == 36) (c ∷ rest)) h in
    rw off.0 (alone value inner b (tokens (c ∷ rest)) ∙ plain_from value (c ∷ rest) (inner ++ b ∷ []) off.1 ∙ ap Some (append_assoc inner (b ∷ []) (c ∷ rest)))

pub expanded_plain : (value : List ℕ → Option (List ℕ)) (text : List ℕ) → list_any (λ y. y == 36) text ≡ false → length text ≤ 4096 → expanded value text ≡ Ok text
unfolding expanded
expanded_plain value text plain short = rw (plain_from value text [] plain, le-leb (length text) 4096 short) refl

-- ONE WORD AFTER ANOTHER

-- words before the answer for what is left
abbrev pub after : List (List ℕ) → Result (List (List ℕ)) ExpandError → Result (List (List ℕ)) ExpandError
after list (Err why) = Err why
after list (Ok others) = Ok (list ++ others)

pub after_none : (answer : Result (List (List ℕ)) ExpandError) → after [] answer ≡ answer
after_none (Err why) = refl
after_none (Ok others) = refl

after_word : (list : List (List ℕ)) (new : List ℕ) (answer : Result (List (List ℕ)) ExpandError) → after list (word_before (Ok new) answer) ≡ after (list ++ new ∷ []) answer
after_word list new (Err why) = refl
after_word list new (Ok others) = ap Ok (sym (append_assoc list (new ∷ []) others))

-- one word more
pub after_next : (value : List ℕ → Option (List ℕ)) (words list : List (List ℕ)) (i : ℕ) (new : List ℕ) → i < length words → expanded value (get_or words i []) ≡ Ok new → after (list ++ new ∷ []) (expanded_each value (drop (i + 1) words)) ≡ after list (expanded_each value (drop i words))
after_next value words list i new h e =
    rw (add-one, drop-cons words i [], e) (sym (after_word list new (expanded_each value (drop (suc i) words))))

-- a word that is refused
pub after_refused : (value : List ℕ → Option (List ℕ)) (words list : List (List ℕ)) (i : ℕ) (why : ExpandError) → i < length words → expanded value (get_or words i []) ≡ Err why → after list (expanded_each value (drop i words)) ≡ Err why
after_refused value words list i why h e = rw (drop-cons words i [], e) refl

-- no word is left
pub after_all : (value : List ℕ → Option (List ℕ)) (words list : List (List ℕ)) (i : ℕ) → length words ≤ i → after list (expanded_each value (drop i words)) ≡ Ok list
after_all value words list i h = rw (drop_of_length-le words h) (ap Ok (append-nil list))

-- A text that is longer than any name, in texts that are longer than any word, decides the answer.
use Rattle.std.proofs.Common.{◌≡◌, ℕ, ◌<◌, ◌≤◌, nat_le, false, List, [], ◌∷◌, ◌++◌, length, codes, Option, Some, None, Err, refl, sym, subst, ap, ◌∙◌, inl, inr, arith, length-append}
use Rattle.std.specs.Prelude.{option_and_then}
use Rattle.std.proofs.lemmas.Bool.{lt-leb}
use Rattle.nb_expand.specs.declared.token.Token.{Token}
use Rattle.nb_expand.specs.declared.token.Token.TheVariants.{Open, Close, Byte}
use Rattle.nb_expand.specs.declared.error.ExpandError.TheVariants.{TooLong}
use Rattle.nb_expand.specs.Expansion.{put_back, expansion_from, expansion_answer}
use Rattle.nb_expand.specs.Gathering.{Parts, IsAlike, with_more, answer_from}
use Rattle.nb_expand.proofs.GatheringLemmas.{put_back-append, put_back-cons}

-- no name is longer than 201 bytes
abbrev pub KnowsNames : (List ℕ → Option (List ℕ)) → Type 0
KnowsNames value = (name : List ℕ) → 201 < length name → value name ≡ None

-- a text that decides the answer, under parts opened in it
abbrev inner_of : List (List ℕ) → List ℕ → List ℕ
inner_of [] text = text
inner_of (part ∷ parts) text = part

abbrev around_of : List (List ℕ) → List ℕ → List (List ℕ) → List (List ℕ)
around_of [] text around = around
around_of (part ∷ parts) text around = parts ++ text ∷ around

abbrev Decides : List ℕ → List (List ℕ) → Type 0
Decides text around = (201 < length text) × (4096 < length (put_back text around))

Decides-more : (text more : List ℕ) (around : List (List ℕ)) → Decides text around → Decides (text ++ more) around
Decides-more text more around h =
    let whole = ap length (put_back-append text more around) in
    (omega (arith, h.0, length-append text more), omega (arith, h.1, whole, length-append (put_back text around) more))

put_back-longer : (parts : List (List ℕ)) (text part : List ℕ) (around : List (List ℕ)) → length (put_back text around) ≤ length (put_back part (parts ++ text ∷ around))
put_back-longer [] text part around =
    let whole = ap length (put_back-cons part text around) in
    omega (arith, whole, length-append (put_back text around) (codes "${" ++ part))
put_back-longer (next ∷ parts) text part around =
    let whole = ap length (put_back-cons part next (parts ++ text ∷ around)) in
    let longer = put_back-longer parts text next around in
    omega (arith, whole, longer, length-append (put_back next (parts ++ text ∷ around)) (codes "${" ++ part))

too_long : (text : List ℕ) → 4096 < length text → expansion_answer (Some text) ≡ Err TooLong
too_long text h = let off : nat_le (length text) 4096 ≡ false = lt-leb (length text) 4096 h in rw off refl

end_same : (parts : List (List ℕ)) (text text' : List ℕ) (around : List (List ℕ)) → Decides text around → Decides text' around
    → expansion_answer (Some (put_back (inner_of parts text) (around_of parts text around))) ≡ expansion_answer (Some (put_back (inner_of parts text') (around_of parts text' around)))
end_same [] text text' around h h' = too_long (put_back text around) h.1 ∙ sym (too_long (put_back text' around) h'.1)
end_same (part ∷ parts) text text' around h h' =
    too_long (put_back part (parts ++ text ∷ around)) (omega (arith, h.1, put_back-longer parts text part around))
    ∙ sym (too_long (put_back part (parts ++ text' ∷ around)) (omega (arith, h'.1, put_back-longer parts text' part around)))

-- two results of a name that is looked up once
same_value : (found : Option (List ℕ)) (f g : List ℕ → Option (List ℕ)) → ((text : List ℕ) → expansion_answer (f text) ≡ expansion_answer (g text)) → expansion_answer (option_and_then f found) ≡ expansion_answer (option_and_then g found)
same_value None f g h = refl
same_value (Some text) f g h = h text

-- whichever of two such texts was gathered, the answer is the same
pub same_answer : (value : List ℕ → Option (List ℕ)) → KnowsNames value → (rest : List Token) (parts : List (List ℕ)) (text text' : List ℕ) (around : List (List ℕ)) → Decides text around → Decides text' around
    → expansion_answer (expansion_from value (inner_of parts text) (around_of parts text around) rest) ≡ expansion_answer (expansion_from value (inner_of parts text') (around_of parts text' around) rest)
same_answer value knows [] parts text text' around h h' = end_same parts text text' around h h'
same_answer value knows (Open ∷ rest) [] text text' around h h' = same_answer value knows rest ([] ∷ []) text text' around h h'
same_answer value knows (Open ∷ rest) (part ∷ parts) text text' around h h' = same_answer value knows rest ([] ∷ part ∷ parts) text text' around h h'
same_answer value knows (Byte b ∷ rest) [] text text' around h h' =
    same_answer value knows rest [] (text ++ b ∷ []) (text' ++ b ∷ []) around (Decides-more text (b ∷ []) around h) (Decides-more text' (b ∷ []) around h')
same_answer value knows (Byte b ∷ rest) (part ∷ parts) text text' around h h' = same_answer value knows rest ((part ++ b ∷ []) ∷ parts) text text' around h h'
same_answer value knows (Close ∷ rest) [] text text' [] h h' =
    same_answer value knows rest [] (text ++ 125 ∷ []) (text' ++ 125 ∷ []) [] (Decides-more text (125 ∷ []) [] h) (Decides-more text' (125 ∷ []) [] h')
same_answer value knows (Close ∷ rest) [] text text' (outer ∷ around) h h' = rw (knows text h.0, knows text' h'.0) refl
same_answer value knows (Close ∷ rest) (part ∷ []) text text' around h h' =
    same_value (value part) (λ v. expansion_from value (text ++ v) around rest) (λ v. expansion_from value (text' ++ v) around rest)
    (λ v. same_answer value knows rest [] (text ++ v) (text' ++ v) around (Decides-more text v around h) (Decides-more text' v around h'))
same_answer value knows (Close ∷ rest) (part ∷ next ∷ parts) text text' around h h' =
    same_value (value part) (λ v. expansion_from value (next ++ v) (parts ++ text ∷ around) rest) (λ v. expansion_from value (next ++ v) (parts ++ text' ∷ around) rest)
    (λ v. same_answer value knows rest ((next ++ v) ∷ parts) text text' around h h')

-- texts of which the answer is the same
pub alike_answer : (value : List ℕ → Option (List ℕ)) → KnowsNames value → (parts kept : Parts) → IsAlike parts kept → (rest : List Token) → answer_from value parts rest ≡ answer_from value kept rest
alike_answer value knows parts kept (inl same) rest = sym (ap (λ p. answer_from value p rest) same)
alike_answer value knows parts kept (inr h) rest =
    let texts = same_answer value knows rest [] parts.inner kept.inner parts.around h.1 (subst (λ (around : List (List ℕ)). Decides kept.inner around) h.0 h.2) in
    texts ∙ ap (λ around. expansion_answer (expansion_from value kept.inner around rest)) (sym h.0)

-- a closed part's text is at the end of the text around it
pub after_close : (value : List ℕ → Option (List ℕ)) → KnowsNames value → (parts outer new : Parts) (text : List ℕ) → parts.around ≡ outer.inner ∷ outer.around → value parts.inner ≡ Some text → IsAlike (with_more outer text) new → (rest : List Token)
    → answer_from value parts (Close ∷ rest) ≡ answer_from value new rest
after_close value knows parts outer new text around some alike rest =
    let step : expansion_from value parts.inner parts.around (Close ∷ rest) ≡ expansion_from value (outer.inner ++ text) outer.around rest = rw (around, some) refl in
    ap expansion_answer step ∙ alike_answer value knows (with_more outer text) new alike rest

-- with no part open, `}` is a character
pub after_plain_close : (value : List ℕ → Option (List ℕ)) → KnowsNames value → (parts new : Parts) → parts.around ≡ [] → IsAlike (with_more parts (125 ∷ [])) new → (rest : List Token)
    → answer_from value parts (Close ∷ rest) ≡ answer_from value new rest
after_plain_close value knows parts new around alike rest =
    let step : expansion_from value parts.inner parts.around (Close ∷ rest) ≡ expansion_from value (parts.inner ++ 125 ∷ []) parts.around rest = rw around refl in
    ap expansion_answer step ∙ alike_answer value knows (with_more parts (125 ∷ [])) new alike rest

pub none_open : (around : List (List ℕ)) → (0 < length around → ⊥) → around ≡ []
none_open [] h = refl
none_open (part ∷ around) h = absurd (h (omega arith))

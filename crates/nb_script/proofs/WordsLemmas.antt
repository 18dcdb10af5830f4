-- What the words of a line are, word by word.
use Rattle.std.proofs.Common.{◌≡◌, ℕ, suc, ◌+◌, ◌<◌, Bool, true, false, not, cond, ◌&&◌, List, [], ◌∷◌, length, take, drop, Option, Some, None, refl, ◌∙◌, arith, nat_eq, nat_lt, is_none}
use Rattle.std.specs.Prelude.{position, codes, IfSome}
use Rattle.std.specs.List.{starts_with, position_or_len}
use Rattle.std.specs.Borrow.{Bor}
use Rattle.std.proofs.lemmas.List.{drop_all, length-take-le}
use Rattle.nb_defs.specs.ScriptText.{is_blank, pieces, all_words, line_words, is_label, is_label_word}
use Rattle.nb_script.proofs.PiecesLemmas.{position_some, position_none, words_by_skip, words_by_cut, starts_at, prefix_fits}

-- a line of blanks has no word
pub all_words_none : (line : List ℕ) → position (λ b. not (is_blank b)) line ≡ None → all_words line ≡ []
unfolding all_words pieces
all_words_none line h =
    let past = position_none (λ b. not (is_blank b)) line h in
    words_by_skip is_blank line ∙ rw (drop_all (position_or_len (λ b. not (is_blank b)) line) line past) refl

-- the first word, and those after it
pub all_words_some : (line : List ℕ) (start : ℕ) → position (λ b. not (is_blank b)) line ≡ Some start → let rest = drop start line in let end = position_or_len is_blank rest in (0 < end) × (all_words line ≡ take end rest ∷ all_words (drop end rest))
unfolding all_words
all_words_some line start h =
    let at = position_some (λ b. not (is_blank b)) line start h in
    let e = at.0 in
    let word = starts_at is_blank line (omega arith) in
    let skips = words_by_skip is_blank line in
    let begins : 0 < position_or_len is_blank (drop start line) = rw e at word in
    (begins, (rw e at skips) ∙ words_by_cut is_blank (drop start line) begins)

-- a cut that takes the first word off
pub cut_at : (line rest : List ℕ) (start end : ℕ) (w behind : List ℕ) → position (λ b. not (is_blank b)) line ≡ Some start → rest ≡ drop start line → end ≡ position_or_len is_blank rest → w ≡ take end rest → behind ≡ drop end rest → (0 < length w) × (all_words line ≡ w ∷ all_words behind)
cut_at line rest start end w behind h r e f b =
    let some = all_words_some line start h in
    let fits = prefix_fits is_blank rest in
    let long = length-take-le end rest (omega (arith, e, fits)) in
    let begins : 0 < position_or_len is_blank rest = rw r some.0 in
    let long_word : 0 < length w = rw f (omega (arith, long, begins, e)) in
    (long_word, rw (f, b, e, r) some.1)

-- no word at all
pub words_none : (line : List ℕ) → all_words line ≡ [] → line_words line ≡ []
unfolding line_words
words_none line h = rw h refl

comment_step : (w : List ℕ) (ws : List (List ℕ)) (k : ℕ) (t : Bool) → t ≡ true → take (cond (not t) (1 + k) 0) (w ∷ ws) ≡ []
comment_step w ws k true e = refl
comment_step w ws k false e = cc

-- a comment
pub words_comment : (line w : List ℕ) (ws : List (List ℕ)) → all_words line ≡ w ∷ ws → starts_with nat_eq w (codes "#") ≡ true → line_words line ≡ []
unfolding line_words
words_comment line w ws h comment = rw h (comment_step w ws _ (starts_with nat_eq w (codes "#")) comment)

word_step : (w : List ℕ) (ws : List (List ℕ)) (k : ℕ) (t : Bool) → t ≡ false → take (cond (not t) (1 + k) 0) (w ∷ ws) ≡ w ∷ take k ws
word_step w ws k true e = cc
word_step w ws k false e =
    let one : 1 + k ≡ suc k = omega arith in
    rw one refl

-- a word, and the words after it
pub words_more : (line w rest : List ℕ) → all_words line ≡ w ∷ all_words rest → starts_with nat_eq w (codes "#") ≡ false → line_words line ≡ w ∷ line_words rest
unfolding line_words
words_more line w rest h plain = rw h (word_step w (all_words rest) _ (starts_with nat_eq w (codes "#")) plain)

and_true : (t : Bool) → t ≡ (t && true)
and_true true = refl
and_true false = refl

and_false : (t : Bool) → false ≡ (t && false)
and_false true = refl
and_false false = refl

no_name : (w : List ℕ) (ws : List (List ℕ)) → (starts_with nat_eq w (codes ":") && nat_lt 1 (length w)) ≡ false → is_label_word (w ∷ ws) ≡ false
no_name w [] h = h
no_name w (v ∷ ws) h = refl

-- a word that is no label's name
pub label_no_name : (line w : List ℕ) (ws : List (List ℕ)) → all_words line ≡ w ∷ ws → (starts_with nat_eq w (codes ":") && nat_lt 1 (length w)) ≡ false → is_label line ≡ false
unfolding is_label
label_no_name line w ws h e = rw h (no_name w ws e)

-- a label, by what a second cut gives
pub label_is : (line w rest : List ℕ) (r : Option (Bor (List ℕ) × Bor (List ℕ))) → all_words line ≡ w ∷ all_words rest → (r ≡ None → all_words rest ≡ []) → IfSome r (λ cut. all_words rest ≡ cut.0.now ∷ all_words cut.1.now) → is_label line ≡ ((starts_with nat_eq w (codes ":") && nat_lt 1 (length w)) && is_none r)
unfolding is_label
label_is line w rest None h none some = rw (h, none refl) (and_true _)
label_is line w rest (Some cut) h none some = rw (h, some) (and_false _)

pub label_none : (line : List ℕ) → all_words line ≡ [] → is_label line ≡ false
unfolding is_label
label_none line h = rw h refl

-- Laws of scripts: how the lines after joining stand to the lines of the text, and how large words are.
use Rattle.std.proofs.Common.{◌≡◌, ℕ, suc, ◌+◌, ◌-◌, ◌≤◌, Bool, true, false, not, cond, List, [], ◌∷◌, length, take, filter, refl, arith, cond}
use Rattle.std.specs.Prelude.{sum_by}
use Rattle.std.specs.List.{prefix_len}
use Rattle.std.proofs.lemmas.List.Sums.{sum_by-take-le, sum_by-cons}
use Rattle.std.proofs.lemmas.List.Filters.{sum_by-filter_both}
use Rattle.nb_defs.specs.ScriptText.{is_line_feed, is_blank, pieces, onto_first, without_cr, line_contents, lines, all_words, line_words, is_some_byte, is_before_comment, ends_in_backslash}
use Rattle.nb_defs.specs.ScriptLines.{joined_onto, line_before, joined_contents, joined_lines}

length_onto : (front : List ℕ) (behind : List (List ℕ)) → length (joined_onto front behind) ≡ length behind + 1
length_onto front [] = refl
length_onto front (line ∷ behind) = omega arith

length_before : (line : List ℕ) (behind : List (List ℕ)) → length (line_before line behind) ≡ length behind + 1
length_before line behind =
    elim (ends_in_backslash line) as (λ t. length (cond t (joined_onto (take (length line - 1) line) behind) (line ∷ behind)) ≡ length behind + 1) [
      | true ↦ length_onto (take (length line - 1) line) behind
      | false ↦ omega arith
    ]

length_contents : (ps : List (List ℕ)) → length (joined_contents ps) ≡ length (line_contents ps)
unfolding joined_contents line_contents
length_contents [] = refl
length_contents (p ∷ []) = refl
length_contents (p ∷ q ∷ ps) =
    let ih = length_contents (q ∷ ps) in
    omega (arith, length_before (without_cr p) (joined_contents (q ∷ ps)), ih)

-- each line keeps its number
pub length-joined_lines : (text : List ℕ) → length (joined_lines text) ≡ length (lines text)
unfolding joined_lines lines
length-joined_lines text = length_contents (pieces is_line_feed text)

onto_small : (b : ℕ) (ps : List (List ℕ)) → sum_by length (onto_first b ps) ≤ 1 + sum_by length ps
onto_small b [] = omega arith
onto_small b (p ∷ ps) = rw (sum_by-cons length (b ∷ p) ps, sum_by-cons length p ps) (omega arith)

pieces_small : (sep : ℕ → Bool) (bytes : List ℕ) → sum_by length (pieces sep bytes) ≤ length bytes
unfolding pieces
pieces_small sep [] = omega arith
pieces_small sep (b ∷ bytes) =
    let ih = pieces_small sep bytes in
    elim (sep b) as (λ t. sum_by length (cond t ([] ∷ pieces sep bytes) (onto_first b (pieces sep bytes))) ≤ suc (length bytes)) [
      | true ↦ rw (sum_by-cons length [] (pieces sep bytes)) (omega (arith, ih))
      | false ↦ omega (arith, ih, onto_small b (pieces sep bytes))
    ]

filter_small : (p : List ℕ → Bool) (ws : List (List ℕ)) → sum_by length (filter p ws) ≤ sum_by length ws
filter_small p ws = omega (arith, sum_by-filter_both p (λ w. not (p w)) (λ w. refl) length ws)

-- a line's words have no more bytes than the line
pub words_small : (line : List ℕ) → sum_by length (line_words line) ≤ length line
unfolding line_words all_words
words_small line =
    let all = filter is_some_byte (pieces is_blank line) in
    let front : sum_by length (line_words line) ≤ sum_by length all = sum_by-take-le length all (prefix_len is_before_comment all) in
    omega (arith, front, filter_small is_some_byte (pieces is_blank line), pieces_small is_blank line)

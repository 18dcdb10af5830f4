-- What a text is, by its parts, and what its lines are.
use Rattle.std.proofs.Common.{◌≡◌, ℕ, zero, suc, ◌<◌, ◌≤◌, Bool, true, false, not, cond, inl, inr, get_or, List, [], ◌∷◌, length, map, Option, Some, None, refl, arith, nat_le, nat_lt, ap, ◌∙◌}
use Rattle.std.specs.List.{list_all, slice_get, position_or_len}
use Rattle.std.proofs.lemmas.List.Sums.{position_or_len_is}
use Rattle.std.proofs.lemmas.Option.{slice_get_cases, slice_get-get_or}
use Rattle.std.proofs.lemmas.Bool.{and_parts}
use Rattle.std.proofs.lemmas.Bool.Decides.{nat_tests}
use Rattle.std.proofs.lemmas.List.{length-map}
use Rattle.nb_defs.proofs.ScriptLaws.{length-joined_lines}
use Rattle.nb_defs.specs.ScriptText.{lines, is_line_feed, pieces, begins_script, is_short_line, line_words}
use Rattle.nb_defs.specs.ScriptLines.{Line, empty, script_line, Reading, joined_lines, script_lines, script_reading, script, no_script, script_too_long, line_too_long, is_label_of, label_place, first_join, cut_words, are_few, items}
use Rattle.nb_script.specs.declared.kind.ScriptLine.{ScriptLine}
use Rattle.nb_script.specs.declared.kind.ScriptLine.TheVariants as on
use Rattle.nb_script.specs.ShownLine.{HasAtMost, is_label_at}

-- a text whose first line isn't that of a script
pub reads_none : (text : List ℕ) → begins_script (pieces is_line_feed text) ≡ false → script_reading text ≡ no_script
unfolding script_reading
reads_none text begun = rw begun refl

-- one that is too long
pub reads_too_long : (text : List ℕ) → begins_script (pieces is_line_feed text) ≡ true → 1048576 < length text → script_reading text ≡ script_too_long
unfolding script_reading
reads_too_long text begun long =
    let e : nat_lt 1048576 (length text) ≡ true = grind (arith, nat_tests) in
    rw (begun, e) refl

-- a text of which neither holds
pub record IsCut (text : List ℕ) (lines : List (List ℕ)) : Type 0 where
  pub begun : begins_script (pieces is_line_feed text) ≡ true
  pub fits : length text ≤ 1048576
  pub lines_are : lines ≡ joined_lines text

is_no_longer : (text : List ℕ) → length text ≤ 1048576 → nat_lt 1048576 (length text) ≡ false
is_no_longer text fits = grind (arith, nat_tests)

-- one with a line that is too long
pub reads_line_too_long : (text : List ℕ) (lines : List (List ℕ)) → IsCut text lines → list_all is_short_line lines ≡ false → script_reading text ≡ line_too_long
unfolding script_reading
reads_line_too_long text lines cut long =
    rw (cut.begun, is_no_longer text cut.fits, ← cut.lines_are, long) refl

-- a script
pub reads_script : (text : List ℕ) (lines : List (List ℕ)) → IsCut text lines → list_all is_short_line lines ≡ true → script_reading text ≡ script (map script_line lines)
unfolding script_reading script_lines
reads_script text lines cut short =
    rw (cut.begun, is_no_longer text cut.fits, ← cut.lines_are, short) refl

-- each line keeps its number
pub keeps_numbers : (text : List ℕ) (found : List (List ℕ)) → IsCut text found → length (map script_line found) ≡ length (lines text)
keeps_numbers text found cut = length-map found script_line ∙ ap length cut.lines_are ∙ length-joined_lines text

neither : (r : Reading) (b : Bool) (code : List Line) → r ≡ cond (not b) line_too_long (script code) → (r ≡ no_script → ⊥) × (r ≡ script_too_long → ⊥)
neither r true code e = (λ h. cc, λ h. cc)
neither r false code e = (λ h. cc, λ h. cc)

-- neither holds of such a text
pub reads_lines : (text : List ℕ) → begins_script (pieces is_line_feed text) ≡ true → length text ≤ 1048576 → (script_reading text ≡ no_script → ⊥) × (script_reading text ≡ script_too_long → ⊥)
unfolding script_reading
reads_lines text begun fits =
    neither (script_reading text) (list_all is_short_line (joined_lines text)) (script_lines text) (rw (begun, is_no_longer text fits) refl)

at_none : (name : List ℕ) (o : Option Line) → o ≡ None → is_label_at name o ≡ true → ⊥
at_none name o e h = let f : is_label_at name None ≡ true = rw e at h in cc

-- the place of a label, where no line before it is that label
pub label_first : (name : List ℕ) (code : List Line) (i : ℕ) → ((k : ℕ) → k < i → is_label_at name (slice_get code k) ≡ false) → is_label_at name (slice_get code i) ≡ true → label_place name code ≡ Some i
unfolding label_place
label_first name code i before here =
    elim (slice_get_cases code i).1 [
      | inl found ↦
          let fits = found.1 in
          let at : is_label_of name (get_or code i empty) ≡ true = rw (slice_get-get_or code i empty fits) at here in
          let place : position_or_len (is_label_of name) code ≡ i =
          position_or_len_is (is_label_of name) code i empty (omega arith) (λ k h. rw (slice_get-get_or code k empty (omega arith)) at (before k h)) (λ _. at) in
          let e : nat_lt i (length code) ≡ true = grind (arith, nat_tests) in
          rw (place, e) refl
      | inr past ↦ absurd (at_none name (slice_get code i) past.1 here)
    ]

-- where no line is that label
pub label_none : (name : List ℕ) (code : List Line) → ((k : ℕ) → k < length code → is_label_at name (slice_get code k) ≡ false) → label_place name code ≡ None
unfolding label_place
label_none name code before =
    let place : position_or_len (is_label_of name) code ≡ length code =
    position_or_len_is (is_label_of name) code (length code) empty (omega arith) (λ k h. rw (slice_get-get_or code k empty h) at (before k h)) (λ h. absurd (omega arith)) in
    let e : nat_lt (length code) (length code) ≡ false = grind (arith, nat_tests) in
    rw (place, e) refl

-- what stands on a short line is short
pub short_at : (lines : List (List ℕ)) (i : ℕ) (line : List ℕ) → list_all is_short_line lines ≡ true → Some line ≡ slice_get lines i → length line ≤ 4096
short_at [] i line h e = cc
short_at (l ∷ lines) zero line h e =
    let here : l ≡ line = cc in
    let short : nat_le (length l) 4096 ≡ true = (and_parts (nat_le (length l) 4096) (list_all is_short_line lines) h).0 in
    let fits : length l ≤ 4096 = grind (arith, nat_tests) in
    rw (← here) fits
short_at (l ∷ lines) (suc i) line h e = short_at lines i line (and_parts (nat_le (length l) 4096) (list_all is_short_line lines) h).1 e

pub at_most : (n : ℕ) (line : ScriptLine) → n ≤ 4096 → HasAtMost n line → HasAtMost 4096 line
at_most n (on.Label name) l h = omega arith
at_most n (on.List line) l h = omega arith
at_most n on.Nothing l h = tt

-- the commands of a list
pub items_some : (line : List ℕ) → are_few (line_words line) ≡ true → items line ≡ Some (cut_words first_join (line_words line))
unfolding items
items_some line e = rw e refl

pub items_none : (line : List ℕ) → are_few (line_words line) ≡ false → items line ≡ None
unfolding items
items_none line e = rw e refl

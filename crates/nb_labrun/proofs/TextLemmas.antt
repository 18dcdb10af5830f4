-- The text of a lab's script, line by line.
use Rattle.std.proofs.Common.{◌≡◌, ◌⊎◌, inl, inr, ℕ, zero, suc, ◌+◌, ◌<◌, ◌≤◌, ◌-◌, ◌/◌, ◌%◌, nat_lt, length, ◌==◌, Bool, true, false, not, ◌&&◌, ◌||◌, if◌then◌else◌, List, [], ◌∷◌, ◌++◌, map, codes, decimal, Option, Some, None, IfSome, refl, sym, ap, subst, ◌∙◌, arith, append_assoc}
use Rattle.std.specs.List.{flat_map, list_all, range_with_len}
use Rattle.std.specs.Str.{bytes_eq}
use Rattle.std.proofs.lemmas.Grind.{flat_map-append}
use Rattle.std.proofs.lemmas.Bool.{false≢true}
use Rattle.std.proofs.lemmas.Slice.Eq.{bytes_eq-Decides}
use Rattle.std.proofs.lemmas.Fmt.{decimal_digit, decimal_step}
use borrow.Author.Tests.{ltb-true, ltb-false}
use Rattle.nb_defs.specs.Records.{start}
use Rattle.nb_defs.specs.ScriptLines.{Item, Line, label, list, empty, items, script, no_script, script_too_long, line_too_long, joined_contents, joined_lines, line_kind, trimmed, without_blanks_before, without_blanks_behind, cut_words, join_of, script_line, script_lines, script_reading}
use Rattle.nb_defs.specs.ScriptText.{all_words, is_label, line_words, ends_in_backslash, is_line_feed, is_short_line, pieces, begins_script, without_cr, onto_first}
use Rattle.nb_machine.specs.FirstText.{first_text}
use Rattle.nb_lab.specs.Scripts.{fetch_lines, lab_start, scheme_of, script_text}
use Rattle.nb_labrun.specs.Keeping.{IsLabName, IsLabCommand, AreLabCommands, IsLabLine, AreLabLines}
use Rattle.nb_labrun.proofs.KeepingLemmas.{IsLabRecord}

-- A LINE, AS A TEST

abbrev is_lab_name : List ℕ → Bool
is_lab_name name = bytes_eq name (codes "imgfetch") || (bytes_eq name (codes "imgfree") || bytes_eq name (codes "exit"))

abbrev is_lab_command : List (List ℕ) → Bool
is_lab_command [] = true
is_lab_command (name ∷ args) = is_lab_name name

abbrev are_lab_commands : List Item → Bool
are_lab_commands [] = true
are_lab_commands (i ∷ others) = is_lab_command i.words && are_lab_commands others

abbrev are_lab_if : Option (List Item) → Bool
are_lab_if None = true
are_lab_if (Some commands) = are_lab_commands commands

abbrev is_lab_line : Line → Bool
is_lab_line (label name) = true
is_lab_line (list text) = are_lab_if (items text)
is_lab_line empty = true

both : (a b : Bool) → (a && b) ≡ true → (a ≡ true) × (b ≡ true)
both true b h = (refl, h)
both false b h = absurd (false≢true h)

one : (a b : Bool) → (a || b) ≡ true → (a ≡ true) ⊎ (b ≡ true)
one true b h = inl refl
one false b h = inr h

name_is : (name : List ℕ) → is_lab_name name ≡ true → IsLabName name
name_is name h =
    elim (one (bytes_eq name (codes "imgfetch")) (bytes_eq name (codes "imgfree") || bytes_eq name (codes "exit")) h) [
      | inl a ↦ inl ((bytes_eq-Decides name (codes "imgfetch")).0 a)
      | inr more ↦ elim (one (bytes_eq name (codes "imgfree")) (bytes_eq name (codes "exit")) more) [
        | inl a ↦ inr (inl ((bytes_eq-Decides name (codes "imgfree")).0 a))
        | inr a ↦ inr (inr ((bytes_eq-Decides name (codes "exit")).0 a))
      ]
    ]

command_is : (words : List (List ℕ)) → is_lab_command words ≡ true → IsLabCommand words
command_is [] h = tt
command_is (name ∷ args) h = name_is name h

commands_are : (commands : List Item) → are_lab_commands commands ≡ true → AreLabCommands commands
commands_are [] h = tt
commands_are (i ∷ others) h = let parts = both (is_lab_command i.words) (are_lab_commands others) h in (command_is i.words parts.0, commands_are others parts.1)

found_are : (found : Option (List Item)) → are_lab_if found ≡ true → IfSome found AreLabCommands
found_are None h = tt
found_are (Some commands) h = commands_are commands h

line_is : (line : Line) → is_lab_line line ≡ true → IsLabLine line
line_is (label name) h = tt
line_is (list text) h = found_are (items text) h
line_is empty h = tt

-- LINES OF A TEXT

abbrev is_no_feed : ℕ → Bool
is_no_feed b = not (is_line_feed b)

-- it is one line, and stands alone
unfoldable is_lab_text : List ℕ → Bool
is_lab_text line = list_all is_no_feed line && (not (ends_in_backslash (without_cr line)) && is_lab_line (script_line (without_cr line)))

abbrev terminated : List ℕ → List ℕ
terminated line = line ++ 10 ∷ []

feed_after : (b : Bool) (byte : ℕ) (line : List ℕ) (found : List (List ℕ)) → not b ≡ true → (if b then [] ∷ (line ∷ found) else onto_first byte (line ∷ found)) ≡ (byte ∷ line) ∷ found
feed_after true byte line found h = absurd (false≢true h)
feed_after false byte line found h = refl

pieces_line : (line rest : List ℕ) → list_all is_no_feed line ≡ true → pieces is_line_feed (line ++ 10 ∷ rest) ≡ line ∷ pieces is_line_feed rest
unfolding pieces
pieces_line [] rest h = refl
pieces_line (b ∷ bytes) rest h =
    let parts = both (is_no_feed b) (list_all is_no_feed bytes) h in
    let P : List (List ℕ) → Type 0 = λ found. (if is_line_feed b then [] ∷ found else onto_first b found) ≡ (b ∷ bytes) ∷ pieces is_line_feed rest in
    subst P (sym (pieces_line bytes rest parts.1)) (feed_after (is_line_feed b) b bytes (pieces is_line_feed rest) parts.0)

onto_some : (b : Bool) (byte : ℕ) (found : List (List ℕ)) → (q : List ℕ) × (qs : List (List ℕ)) × ((if b then [] ∷ found else onto_first byte found) ≡ q ∷ qs)
onto_some true byte found = ([], found, refl)
onto_some false byte [] = (byte ∷ [], [], refl)
onto_some false byte (p ∷ ps) = (byte ∷ p, ps, refl)

pieces_some : (bytes : List ℕ) → (q : List ℕ) × (qs : List (List ℕ)) × (pieces is_line_feed bytes ≡ q ∷ qs)
unfolding pieces
pieces_some [] = ([], [], refl)
pieces_some (b ∷ bytes) = onto_some (is_line_feed b) b (pieces is_line_feed bytes)

line_alone : (b : Bool) (line : List ℕ) (joined behind : List (List ℕ)) → not b ≡ true → (if b then joined else line ∷ behind) ≡ line ∷ behind
line_alone true line joined behind h = absurd (false≢true h)
line_alone false line joined behind h = refl

joined_line : (line rest : List ℕ) → is_lab_text line ≡ true → joined_lines (terminated line ++ rest) ≡ without_cr line ∷ joined_lines rest
unfolding joined_lines joined_contents is_lab_text
joined_line line rest h =
    let parts = both (list_all is_no_feed line) (not (ends_in_backslash (without_cr line)) && is_lab_line (script_line (without_cr line))) h in
    let more = both (not (ends_in_backslash (without_cr line))) (is_lab_line (script_line (without_cr line))) parts.1 in
    let (q, qs, are) = pieces_some rest in
    let cut : pieces is_line_feed (terminated line ++ rest) ≡ line ∷ q ∷ qs =
    ap (pieces is_line_feed) (append_assoc line (10 ∷ []) rest) ∙ pieces_line line rest parts.0 ∙ ap (λ (found : List (List ℕ)). line ∷ found) are in
    ap joined_contents cut
    ∙ line_alone (ends_in_backslash (without_cr line)) (without_cr line) _ (joined_contents (q ∷ qs)) more.0
    ∙ ap (λ (found : List (List ℕ)). without_cr line ∷ joined_contents found) (sym are)

text_is : (line : List ℕ) → is_lab_text line ≡ true → IsLabLine (script_line (without_cr line))
unfolding is_lab_text
text_is line h =
    let parts = both (list_all is_no_feed line) (not (ends_in_backslash (without_cr line)) && is_lab_line (script_line (without_cr line))) h in
    let more = both (not (ends_in_backslash (without_cr line))) (is_lab_line (script_line (without_cr line))) parts.1 in
    line_is (script_line (without_cr line)) more.1

no_lines : AreLabLines (map script_line (joined_lines []))
unfolding joined_lines joined_contents pieces
no_lines = tt

texts_are : (lines : List (List ℕ)) → list_all is_lab_text lines ≡ true → AreLabLines (map script_line (joined_lines (flat_map terminated lines)))
texts_are [] h = no_lines
texts_are (line ∷ lines) h =
    let parts = both (is_lab_text line) (list_all is_lab_text lines) h in
    subst (λ (found : List (List ℕ)). AreLabLines (map script_line found)) (sym (joined_line line (flat_map terminated lines) parts.0)) (text_is line parts.0, texts_are lines parts.1)

-- THE LINES OF THE SCRIPT

-- a number of at most two digits
abbrev two_digits : ℕ → List ℕ
two_digits n = if nat_lt n 10 then (48 + n) ∷ [] else (48 + n / 10) ∷ (48 + n % 10) ∷ []

two_digits_by : (n : ℕ) (b : Bool) → nat_lt n 10 ≡ b → n < 100 → decimal n ≡ (if b then (48 + n) ∷ [] else (48 + n / 10) ∷ (48 + n % 10) ∷ [])
two_digits_by n true is few = decimal_digit n (omega (arith, ltb-true))
two_digits_by n false is few =
    decimal_step n (omega (arith, ltb-false)) (omega arith) ∙ ap (λ (ds : List ℕ). ds ++ (48 + n % 10) ∷ []) (decimal_digit (n / 10) (omega arith))

fetch_line : ℕ → List ℕ
fetch_line i = codes "imgfetch " ++ scheme_of i ++ codes "://10.0.0.1/" ++ two_digits i

is_fetch_fine : ℕ → Bool
is_fetch_fine i = is_lab_text (fetch_line i)

all_fine : list_all is_fetch_fine (range_with_len 0 64) ≡ true
unfolding is_fetch_fine fetch_line is_lab_text without_cr ends_in_backslash script_line trimmed without_blanks_before without_blanks_behind line_kind is_label all_words line_words items cut_words join_of pieces
all_fine = refl

-- and after some the line `imgfree`
abbrev free_lines : Bool → List (List ℕ)
free_lines b = if b then codes "imgfree" ∷ [] else []

abbrev image_lines : ℕ → List (List ℕ)
image_lines i = fetch_line i ∷ free_lines (i % 4 == 3)

free_text : (b : Bool) → (if b then codes "imgfree\n" else []) ≡ flat_map terminated (free_lines b)
free_text true = refl
free_text false = refl

image_text : (i : ℕ) → i < 64 → fetch_lines i ≡ flat_map terminated (image_lines i)
unfolding fetch_lines fetch_line
image_text i few =
    let number : decimal i ≡ two_digits i = two_digits_by i (nat_lt i 10) refl (omega arith) in
    let written : codes "imgfetch " ++ scheme_of i ++ codes "://10.0.0.1/" ++ two_digits i ++ codes "\n" ++ flat_map terminated (free_lines (i % 4 == 3))
    ≡ ((codes "imgfetch " ++ scheme_of i ++ codes "://10.0.0.1/" ++ two_digits i) ++ 10 ∷ []) ++ flat_map terminated (free_lines (i % 4 == 3)) = simp append_assoc in
    ap (λ (ds : List ℕ). codes "imgfetch " ++ scheme_of i ++ codes "://10.0.0.1/" ++ ds ++ codes "\n" ++ (if i % 4 == 3 then codes "imgfree\n" else [])) number
    ∙ ap (λ (more : List ℕ). codes "imgfetch " ++ scheme_of i ++ codes "://10.0.0.1/" ++ two_digits i ++ codes "\n" ++ more) (free_text (i % 4 == 3))
    ∙ written

images_text : (from count : ℕ) → from + count ≤ 64 → flat_map fetch_lines (range_with_len from count) ≡ flat_map terminated (flat_map image_lines (range_with_len from count))
images_text from zero few = refl
images_text from (suc count) few =
    ap (λ (more : List ℕ). fetch_lines from ++ more) (images_text (from + 1) count (omega arith))
    ∙ ap (λ (first : List ℕ). first ++ flat_map terminated (flat_map image_lines (range_with_len (from + 1) count))) (image_text from (omega arith))
    ∙ sym (flat_map-append terminated (image_lines from) (flat_map image_lines (range_with_len (from + 1) count)))

abbrev all_lines : ℕ → List (List ℕ)
all_lines images = codes "#!ipxe" ∷ (flat_map image_lines (range_with_len 0 images) ++ codes "exit" ∷ [])

script_is : (images : ℕ) → images ≤ 64 → script_text images ≡ flat_map terminated (all_lines images)
unfolding script_text
script_is images few =
    ap (λ (more : List ℕ). codes "#!ipxe\n" ++ more ++ codes "exit\n") (images_text 0 images (omega arith))
    ∙ ap (λ (more : List ℕ). codes "#!ipxe\n" ++ more) (sym (flat_map-append terminated (flat_map image_lines (range_with_len 0 images)) (codes "exit" ∷ [])))

-- EACH IS ONE OF THEM

joined_fine : (a b : Bool) → a ≡ true → b ≡ true → (a && b) ≡ true
joined_fine true b p q = q
joined_fine false b p q = absurd (false≢true p)

fine_both : (xs ys : List (List ℕ)) → list_all is_lab_text xs ≡ true → list_all is_lab_text ys ≡ true → list_all is_lab_text (xs ++ ys) ≡ true
fine_both [] ys p q = q
fine_both (x ∷ xs) ys p q = let parts = both (is_lab_text x) (list_all is_lab_text xs) p in joined_fine (is_lab_text x) (list_all is_lab_text (xs ++ ys)) parts.0 (fine_both xs ys parts.1 q)

fine_free : (b : Bool) → list_all is_lab_text (free_lines b) ≡ true
unfolding is_lab_text without_cr ends_in_backslash script_line trimmed without_blanks_before without_blanks_behind line_kind is_label all_words line_words items cut_words join_of pieces
fine_free true = refl
fine_free false = refl

fine_exit : list_all is_lab_text (codes "exit" ∷ []) ≡ true
unfolding is_lab_text without_cr ends_in_backslash script_line trimmed without_blanks_before without_blanks_behind line_kind is_label all_words line_words items cut_words join_of pieces
fine_exit = refl

fine_first : is_lab_text (codes "#!ipxe") ≡ true
unfolding is_lab_text without_cr ends_in_backslash script_line trimmed without_blanks_before without_blanks_behind line_kind is_label all_words line_words items cut_words join_of pieces
fine_first = refl

fine_range : (from count more : ℕ) → list_all is_fetch_fine (range_with_len from (count + more)) ≡ true → list_all is_lab_text (flat_map image_lines (range_with_len from count)) ≡ true
unfolding is_fetch_fine
fine_range from zero more h = refl
fine_range from (suc count) more h =
    let next : suc count + more ≡ suc (count + more) = omega arith in
    let parts = both (is_fetch_fine from) (list_all is_fetch_fine (range_with_len (from + 1) (count + more))) (subst (λ (n : ℕ). list_all is_fetch_fine (range_with_len from n) ≡ true) next h) in
    fine_both (image_lines from) (flat_map image_lines (range_with_len (from + 1) count)) (joined_fine (is_lab_text (fetch_line from)) (list_all is_lab_text (free_lines (from % 4 == 3))) parts.0 (fine_free (from % 4 == 3)))
    (fine_range (from + 1) count more parts.1)

fine_script : (images : ℕ) → images ≤ 64 → list_all is_lab_text (all_lines images) ≡ true
fine_script images few =
    let more : 64 ≡ images + (64 - images) = omega arith in
    joined_fine (is_lab_text (codes "#!ipxe")) (list_all is_lab_text (flat_map image_lines (range_with_len 0 images) ++ codes "exit" ∷ [])) fine_first
    (fine_both (flat_map image_lines (range_with_len 0 images)) (codes "exit" ∷ []) (fine_range 0 images (64 - images) (subst (λ (n : ℕ). list_all is_fetch_fine (range_with_len 0 n) ≡ true) more all_fine)) fine_exit)

lines_are : (images : ℕ) → images ≤ 64 → AreLabLines (script_lines (script_text images))
unfolding script_lines
lines_are images few = subst (λ (text : List ℕ). AreLabLines (map script_line (joined_lines text))) (sym (script_is images few)) (texts_are (all_lines images) (fine_script images few))

-- what a text is read as, where it is a script
read_as : (a b c : Bool) (lines code : List Line) → (if a then no_script else if b then script_too_long else if c then line_too_long else script lines) ≡ script code → lines ≡ code
read_as true b c lines code e = absurd (cc e)
read_as false true c lines code e = absurd (cc e)
read_as false false true lines code e = absurd (cc e)
read_as false false false lines code e = cc e

code_is : (text : List ℕ) (code : List Line) → script_reading text ≡ script code → script_lines text ≡ code
unfolding script_reading
code_is text code e =
    read_as (not (begins_script (pieces is_line_feed text))) (nat_lt 1048576 (length text)) (not (list_all is_short_line (joined_lines text))) (script_lines text) code e

first_is : (images : ℕ) → first_text (script_text images) ≡ script_text images
unfolding script_text
first_is images = refl

pub start_is_lab : (images : ℕ) → images ≤ 64 → IsLabRecord (start (lab_start images))
unfolding lab_start
start_is_lab images few = λ code reading.
    subst AreLabLines (code_is (script_text images) code (ap script_reading (sym (first_is images)) ∙ reading)) (lines_are images few)

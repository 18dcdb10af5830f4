-- A script that runs, by its lines and the commands of their lists: what it comes to next. And scripts within one another:
-- how one begins within another or in its place, and how one goes on when the one within it is left. No word of records used.
use Rattle.std.specs.Prelude.{◌≡◌, ◌≤◌, ℕ, ◌+◌, Bool, true, not, List, [], ◌∷◌, Option, Some, None, slice_get, length, drop, if◌then◌else◌}
use Rattle.nb_terms.specs.declared.cause.Cause.{Cause}
use Rattle.nb_defs.specs.Causes.{ok, is_ok_cause}
use Rattle.nb_scripts.specs.Results.{kept_result}
use Rattle.nb_defs.specs.ScriptLines.{Line, label, list, empty, Join, first_join, and_join, or_join, then_join, Item, items}

pub record Running : Type 0 where
  -- how many scripts are within one another, with this one
  pub depth : ℕ
  -- the URI that it was fetched from; the first script has none
  pub base : Option (List ℕ)
  -- its lines as numbered
  pub code : List Line
  -- how many of them were passed, with the one whose list is under way
  pub passed : ℕ
  -- the commands of that list which are still to come, and the place of the first of them
  pub rest : List Item
  pub place : ℕ
  -- the last result
  pub last : Cause
  -- how many commands began in this step
  pub begun : ℕ

-- the first script, before its first line, which is a comment
abbrev pub first_script : List Line → Running
first_script code = record { depth = 1; base = None; code = code; passed = 0; rest = []; place = 0; last = ok; begun = 0 }

-- a line further, with the commands of its list
abbrev pub onto_line : Running → List Item → Running
onto_line s commands = record s { passed = s.passed + 1; rest = commands; place = 0 }

-- after lines that were passed, up to this place
abbrev pub behind_lines : Running → ℕ → Running
behind_lines s line = record s { passed = line }

-- a command further
abbrev pub behind_command : Running → Running
behind_command s = record s { rest = drop 1 s.rest; place = s.place + 1 }

abbrev pub with_result : Running → Cause → Running
with_result s cause = record s { last = kept_result cause }

-- a command has begun
abbrev pub entered : Running → Running
entered s = record s { rest = drop 1 s.rest; place = s.place + 1; begun = s.begun + 1 }

-- a command is over, with this result
abbrev pub further : Running → Cause → Running
further s cause = with_result (entered s) cause

-- `goto` goes on after the line at this place
abbrev pub behind_line : Running → ℕ → Running
behind_line s line = record s { passed = line + 1; rest = []; place = 0; last = ok; begun = s.begun + 1 }

-- a step begins
abbrev pub anew : Running → Running
anew s = record s { begun = 0 }

-- a script that was fetched from this URI, before its first line, within another; it counts on
abbrev pub script_within : Running → List ℕ → List Line → Running
script_within s uri code = record { depth = s.depth + 1; base = Some uri; code = code; passed = 0; rest = []; place = 0; last = ok; begun = s.begun }

-- and in its place
abbrev pub script_in_place : Running → List ℕ → List Line → Running
script_in_place s uri code = record { depth = s.depth; base = Some uri; code = code; passed = 0; rest = []; place = 0; last = ok; begun = s.begun }

-- the scripts outside one that is left: the first of them counts on
abbrev pub counting_on : Running → List Running → List Running
counting_on gone [] = []
counting_on gone (s ∷ outer) = record s { begun = gone.begun } ∷ outer

-- each script's depth is how many there are from it outwards
abbrev pub HaveDepths : List Running → Type 0
HaveDepths [] = Unit {0}
HaveDepths (s ∷ outer) = (s.depth ≡ length outer + 1) × HaveDepths outer

-- and there are at most eight
abbrev pub AreNested : List Running → Type 0
AreNested scripts = HaveDepths scripts × (length scripts ≤ 8)

-- a list has more than 64 words or more than 64 joins
abbrev pub too_many_words : Cause
too_many_words = record { code = 7; a = 1; b = 0 }

-- there is no such label
abbrev pub no_label : Cause
no_label = record { code = 13; a = 0; b = 0 }

-- whether a command runs after this result
abbrev pub lets_run : Join → Cause → Bool
lets_run first_join last = true
lets_run and_join last = is_ok_cause last
lets_run or_join last = not (is_ok_cause last)
lets_run then_join last = true

-- what a script comes to next
pub data Coming : Type 0 where
  -- it passes a line, or a command that doesn't run or has no words
  passing : Running → Coming
  -- it is left with this cause
  leaving : Cause → Coming
  -- a command begins, with these words, its name first
  beginning : (name : List ℕ) → (args : List (List ℕ)) → Coming

-- a command without words succeeds
abbrev pub words_come : Running → List (List ℕ) → Coming
words_come s [] = passing (with_result (behind_command s) ok)
words_come s (name ∷ args) = beginning name args

-- a line's list, where it has few words
abbrev pub list_comes : Running → Option (List Item) → Coming
list_comes s None = leaving too_many_words
list_comes s (Some commands) = passing (onto_line s commands)

-- the next line; after the last the script is left with Ok
abbrev pub line_comes : Running → Option Line → Coming
line_comes s None = leaving ok
line_comes s (Some (label name)) = passing (onto_line s [])
line_comes s (Some empty) = passing (onto_line s [])
line_comes s (Some (list text)) = list_comes s (items text)

-- the list goes on, or is over: one that ends in failure leaves its script with that
abbrev pub rest_comes : Running → List Item → Coming
rest_comes s [] = if is_ok_cause s.last then line_comes s (slice_get s.code s.passed) else leaving s.last
rest_comes s (i ∷ behind) = if lets_run i.join s.last then words_come s i.words else passing (behind_command s)

unfoldable pub coming : Running → Coming
coming s = rest_comes s s.rest

-- a script passes lines and commands, or none
pub data PassesOn : Running → Running → Type 0 where
  here : (s : Running) → PassesOn s s
  further_on : (s t u : Running) → coming s ≡ passing t → PassesOn t u → PassesOn s u

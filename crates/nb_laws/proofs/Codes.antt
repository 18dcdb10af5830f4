-- The lines of the script that runs: what leaves them as they were.
use Rattle.std.proofs.Common.{◌≡◌, ℕ, Bool, true, false, cond, List, [], ◌∷◌, Option, Some, None, refl, subst}
use Rattle.std.specs.Prelude.{slice_get}
use Rattle.nb_defs.specs.Causes.{is_ok_cause}
use Rattle.nb_defs.specs.ScriptLines.{Line, label, list, empty, Item, items}
use Rattle.nb_machine.specs.Running.{Running, Coming, passing, leaving, beginning, behind_command, lets_run, words_come, list_comes, line_comes, rest_comes, coming}
use Rattle.nb_laws.specs.Agreement.{as_so_far}

-- the same script, with as many commands begun
pub record IsSame (t s : Running) : Type 0 where
  pub same : as_so_far t ≡ as_so_far s
  pub depth : t.depth ≡ s.depth
  pub begun : t.begun ≡ s.begun

-- a script that passes a line or a command is the same
abbrev KeepsCode : Running → Coming → Type 0
KeepsCode s (passing t) = IsSame t s
KeepsCode s (leaving cause) = Unit {0}
KeepsCode s (beginning name args) = Unit {0}

either_keeps : (s : Running) (b : Bool) (x y : Coming) → KeepsCode s x → KeepsCode s y → KeepsCode s (cond b x y)
either_keeps s true x y p q = p
either_keeps s false x y p q = q

words_keep : (s : Running) (ws : List (List ℕ)) → KeepsCode s (words_come s ws)
words_keep s [] = (record { same = refl; depth = refl; begun = refl })
words_keep s (name ∷ args) = tt

list_keeps : (s : Running) (commands : Option (List Item)) → KeepsCode s (list_comes s commands)
list_keeps s None = tt
list_keeps s (Some commands) = (record { same = refl; depth = refl; begun = refl })

line_keeps : (s : Running) (line : Option Line) → KeepsCode s (line_comes s line)
line_keeps s None = tt
line_keeps s (Some (label name)) = (record { same = refl; depth = refl; begun = refl })
line_keeps s (Some empty) = (record { same = refl; depth = refl; begun = refl })
line_keeps s (Some (list text)) = list_keeps s (items text)

rest_keeps : (s : Running) (rest : List Item) → KeepsCode s (rest_comes s rest)
rest_keeps s [] = either_keeps s (is_ok_cause s.last) (line_comes s (slice_get s.code s.passed)) (leaving s.last) (line_keeps s (slice_get s.code s.passed)) tt
rest_keeps s (i ∷ behind) = either_keeps s (lets_run i.join s.last) (words_come s i.words) (passing (behind_command s)) (words_keep s i.words) (record { same = refl; depth = refl; begun = refl })

all_keep : (s : Running) → KeepsCode s (coming s)
unfolding coming
all_keep s = rest_keeps s s.rest

pub coming_code : (s t : Running) → coming s ≡ passing t → IsSame t s
coming_code s t e = subst (KeepsCode s) e (all_keep s)

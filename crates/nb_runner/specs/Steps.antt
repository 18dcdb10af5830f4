-- What a command that is over at once does to its script and to the log, and how many moves a script has left in a step.
use Rattle.std.specs.Prelude.{◌≡◌, ℕ, ◌+◌, ◌-◌, ◌*◌, length, sum_by, true, false, List, [], ◌∷◌, ◌++◌, Option, Some, None}
use Rattle.nb_terms.specs.declared.cause.Cause.{Cause}
use Rattle.nb_defs.specs.Causes.{ok}
use Rattle.nb_defs.specs.ScriptLines.{Line}
use Rattle.nb_record.specs.Logged.{Logged, Puts}
use Rattle.nb_defs.specs.Records.{out_texts, leave}
use Rattle.nb_defs.specs.Commands.{CommandOutcome, refused}
use Rattle.nb_machine.specs.Effects.{ShownWords}
use Rattle.nb_machine.specs.Running.{Running, entered, further, behind_line, no_label}
use Rattle.nb_machine.specs.CommandRecords.{command_records}

-- its records are put, and the list goes on, or the script is left with its cause
abbrev pub Does : ShownWords → CommandOutcome → Option Cause → Running → Running → Logged → Logged → Type 0
Does ws o None s t old new = (o.leaves ≡ false) × (t ≡ further s o.cause)
    × Puts old new (out_texts (command_records s ws o))
Does ws o (Some cause) s t old new = (o.leaves ≡ true) × (cause ≡ o.cause) × (t ≡ entered s)
    × Puts old new (out_texts (command_records s ws o ++ (leave s.depth cause ∷ [])))

-- `goto` is put, and the script goes on after the line at the label's place, or in its list where there is none
abbrev pub GoesToLabel : ShownWords → Option ℕ → Running → Running → Logged → Logged → Type 0
GoesToLabel ws (Some line) s t old new = (t ≡ behind_line s line)
    × Puts old new (out_texts (command_records s ws (refused ok)))
GoesToLabel ws None s t old new = (t ≡ further s no_label) × Puts old new (out_texts (command_records s ws (refused no_label)))

-- a script of this depth, before its first line, where so many commands began in this step
abbrev pub script_begun : ℕ → Option (List ℕ) → List Line → ℕ → Running
script_begun depth base code begun = record { depth = depth; base = base; code = code; passed = 0; rest = []; place = 0; last = ok; begun = begun }

-- the innermost of the scripts outside, if there are any, and the others
abbrev pub IsPopped : Option Running → List Running → List Running → Type 0
IsPopped None old new = (old ≡ []) × (new ≡ [])
IsPopped (Some script) old new = old ≡ script ∷ new

-- how many moves stand at most between two commands: a text has at most 1,048,576 lines, and a list at most 65 commands
abbrev pub moves_between : ℕ
moves_between = 70254700

-- how many moves a script has left up to its end, if no command leads it elsewhere
abbrev pub moves_left : Running → ℕ
moves_left s = (length s.code - s.passed) * 67 + length s.rest

-- how many moves a script has left in this step at most, with those within it
abbrev pub moves_in : Running → ℕ
moves_in s = (4096 - s.begun) * moves_between + moves_left s

-- and those outside it
abbrev pub moves_outside : List Running → ℕ
moves_outside outer = sum_by (λ s. moves_left s + 2) outer

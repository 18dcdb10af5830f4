-- Each move of a script brings the end of its step nearer.
use Rattle.std.proofs.Common.{◌≡◌, ℕ, ◌+◌, ◌-◌, ◌*◌, ◌<◌, ◌≤◌, List, [], length, ◌∙◌, ap, arith, length-drop}
use Rattle.nb_terms.specs.declared.cause.Cause.{Cause}
use Rattle.nb_defs.specs.ScriptLines.{Item, Line}
use Rattle.nb_machine.specs.Running.{Running, entered, onto_line, behind_command, further, behind_line}
use Rattle.nb_runner.specs.Steps.{moves_in, moves_between, moves_left}

-- one command fewer leaves one stretch of moves fewer
stretch : (b m : ℕ) → b < 4096 → (4096 - b) * m ≡ (4096 - (b + 1)) * m + m
stretch b m h =
    let less : 4096 - b ≡ (4096 - (b + 1)) + 1 = omega (arith, h) in
    ap (λ k. k * m) less ∙ omega arith

-- a command is over
pub further_nearer : (s : Running) (cause : Cause) → s.begun < 4096 → moves_in (further s cause) < moves_in s
further_nearer s cause h =
    omega (arith, stretch s.begun moves_between h, length-drop 1 s.rest)

-- a script begins within another, or in its place
pub within_nearer : (s : Running) (code : List Line) → s.begun < 4096 → length code ≤ 1048576 →
    (4096 - (s.begun + 1)) * moves_between + (length code * 67 + (moves_left (entered s) + 2)) < moves_in s
within_nearer s code h short = omega (arith, stretch s.begun moves_between h, length-drop 1 s.rest, short)

-- `goto` has gone on after a line
pub jump_nearer : (s : Running) (line : ℕ) → s.begun < 4096 → length s.code ≤ 1048576 → moves_in (behind_line s line) < moves_in s
jump_nearer s line h short =
    omega (arith, stretch s.begun moves_between h, short)

-- a line was passed, with at most 65 commands
pub line_nearer : (s : Running) (list : List Item) → s.rest ≡ [] → s.passed < length s.code → length list ≤ 65 → moves_in (onto_line s list) < moves_in s
line_nearer s list none there few = omega (arith, there, few)

-- a command was passed
pub command_nearer : (s : Running) → 0 < length s.rest → moves_in (behind_command s) < moves_in s
command_nearer s some = omega (arith, some, length-drop 1 s.rest)

-- Own: what follows the magic word of a script's first line, byte by byte.
use Rattle.std.specs.Prelude.{ℕ, Bool, true, ◌==◌, List, [], ◌∷◌, if◌then◌else◌}
use Rattle.nb_defs.specs.ScriptText.{is_line_feed, is_blank}

-- a line ends here: a line feed comes, or nothing
abbrev pub ends_line : List ℕ → Bool
ends_line [] = true
ends_line (b ∷ bytes) = is_line_feed b

-- only blanks come before the line's end, and then at most one carriage return
unfoldable pub ends_blank : List ℕ → Bool
ends_blank [] = true
ends_blank (b ∷ bytes) = if b == 13 then ends_line bytes else if is_blank b then ends_blank bytes else is_line_feed b

-- Own: which words come to nothing, word by word.
use Rattle.std.specs.Prelude.{ℕ, Bool, true, ◌&&◌, List, [], ◌∷◌, if◌then◌else◌}
use Rattle.nb_defs.specs.ScriptText.{is_join}
use Rattle.nb_defs.specs.ScriptLines.{Join, join_of, is_or_join}

-- whether no command cut from these words has words to run after a success, the first joined so
unfoldable pub are_idle_words : Join → List (List ℕ) → Bool
are_idle_words join [] = true
are_idle_words join (word ∷ ws) =
    if is_join word then are_idle_words (join_of word) ws else is_or_join join && are_idle_words join ws

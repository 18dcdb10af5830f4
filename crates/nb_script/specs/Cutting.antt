-- Own: the commands of a list while they are cut.
use Rattle.std.specs.Prelude.{ℕ, Bool, true, false, not, List, [], ◌∷◌, ◌++◌, map}
use Rattle.nb_defs.specs.ScriptText.{is_join}
use Rattle.nb_defs.specs.ScriptLines as defs
use Rattle.nb_script.specs.declared.item.Cutting.{Cutting}
use Rattle.nb_script.specs.ShownJoin.{shown_join}
use Rattle.nb_script.specs.Shown.{shown_item}

-- words before those of the first of these commands
abbrev pub words_onto : List (List ℕ) → List defs.Item → List defs.Item
words_onto ws [] = []
words_onto ws (i ∷ behind) = defs.item i.join (ws ++ i.words) ∷ behind

-- all commands, where these words are still to come
abbrev pub commands_before : Cutting → List (List ℕ) → List defs.Item
commands_before c behind = map shown_item c.done.items ++ words_onto c.words.items (defs.cut_words (shown_join c.join) behind)

-- whether a word is a join, or whether it is none
abbrev pub is_join_as : Bool → List ℕ → Bool
is_join_as true word = is_join word
is_join_as false word = not (is_join word)

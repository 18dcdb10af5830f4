-- Own: the commands of a list, as the definitions have them.
use Rattle.std.specs.Prelude.{◌≤◌, List, length, sum_by, All}
use Rattle.nb_defs.specs.ScriptLines as defs
use Rattle.nb_script.specs.declared.item.Item.{Item}
use Rattle.nb_script.specs.ShownJoin.{shown_join}

abbrev pub shown_item : Item → defs.Item
shown_item i = defs.item (shown_join i.join) i.words

-- a command of at most 64 words, with at most 4,096 bytes in all
abbrev pub IsSmallItem : Item → Type 0
IsSmallItem i = (length i.words ≤ 64) × (sum_by length i.words ≤ 4096)

-- at most 65 such commands
pub record FitList (list : List Item) : Type 0 where
  pub few : length list ≤ 65
  pub small : All IsSmallItem list

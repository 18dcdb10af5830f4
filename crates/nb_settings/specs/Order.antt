-- own: which of the blocks is looked up first
use Rattle.std.specs.Prelude.{ℕ, int_lt, map, filter, slice_get, option_map, ◌&&◌, Bool, List, Option, Some, None, if◌then◌else◌}
use Rattle.std.specs.List.{list_any}
use Rattle.nb_settings.specs.declared.block.Block.{Block}
use Rattle.nb_settings.specs.declared.setting.OwnedKey.{OwnedKey}
use Rattle.nb_settings.specs.declared.setting.Setting.{Setting}
use Rattle.nb_settings.specs.Tables.{TableLists, SettingValue, setting_value, by_priority, is_behind, is_setting, settings_in}

-- of two blocks the earlier one, unless the later has the higher priority
abbrev pub sooner : Option Block → Block → Block
sooner None later = later
sooner (Some earlier) later = if int_lt earlier.priority later.priority then later else earlier

-- a block is looked up after another, and has the key
abbrev pub has_behind : Option (List ℕ) → OwnedKey → List Setting → Block → Bool
has_behind block key settings candidate = is_behind block candidate && list_any (is_setting candidate.name key) settings

-- the value of a key in the blocks after another: that of the first such setting
unfoldable pub value_behind : Option (List ℕ) → OwnedKey → TableLists → Option SettingValue
value_behind block key table =
    option_map setting_value
    (slice_get (settings_in (map (λ other. other.name) (filter (is_behind block) (by_priority table.blocks))) key table.settings) 0)

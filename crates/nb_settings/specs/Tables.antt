-- own, after ipxe.org's settings: the table of blocks and settings, its look-up, and what the calls do to it
use Rattle.std.specs.Prelude.{◌≡◌, ◌≢◌, ℕ, ◌+◌, ◌≤◌, ℤ, int_lt, ◌==◌, ◌&&◌, ◌||◌, Bool, true, not, List, [], ◌∷◌, ◌++◌, length, map, filter, count_by, find, position, nat_eq, nat_lt, nat_le, Option, Some, None, option_map, is_none, unwrap_or, slice_index, slice_get, slice_set, if◌then◌else◌}
use Rattle.std.specs.List.{All, AllPairs, flat_map, list_all, list_any, starts_with}
use Rattle.std.specs.Str.{bytes_eq}
use Rattle.nb_settings.specs.declared.block.Block.{Block}
use Rattle.nb_settings.specs.declared.error.SetError.{SetError}
use Rattle.nb_settings.specs.declared.error.SetError.TheVariants.{BadName, TooMany, TooLong}
use Rattle.nb_settings.specs.declared.kind.Kind.{Kind}
use Rattle.nb_settings.specs.declared.setting.OwnedKey.{OwnedKey}
use Rattle.nb_settings.specs.declared.setting.Setting.{Setting}
use Rattle.nb_settings.specs.declared.setting.Value.{Value}
use Rattle.nb_settings.specs.Keys.{same_key}
use Rattle.nb_settings.specs.Listed.{IsByTag}

-- the blocks beside the root, in the order in which they were registered, and the settings of all blocks;
-- the root is the block with the empty name, and is always there
pub record TableLists : Type 0 where
  pub blocks : List Block
  pub settings : List Setting

-- the root alone, empty
abbrev pub root_alone : TableLists
root_alone = record { blocks = []; settings = [] }

-- a value, without where its bytes lie in memory
pub record SettingValue : Type 0 where
  pub kind : Kind
  pub bytes : List ℕ

abbrev pub value_of : Value → SettingValue
value_of value = record { kind = value.kind; bytes = value.bytes.now }

abbrev pub setting_value : Setting → SettingValue
setting_value setting = record { kind = setting.kind; bytes = setting.bytes }

abbrev pub block_of : List ℕ → ℤ → Block
block_of name priority = record { name = name; priority = priority }

abbrev pub setting_of : List ℕ → OwnedKey → Kind → List ℕ → Setting
setting_of block key kind bytes = record { block = block; key = key; kind = kind; bytes = bytes }

abbrev pub is_root : List ℕ → Bool
is_root name = length name == 0

abbrev pub is_named : List ℕ → Block → Bool
is_named name block = bytes_eq block.name name

-- whether a block is there
abbrev pub has_block : List ℕ → List Block → Bool
has_block name blocks = is_root name || list_any (is_named name) blocks

-- it is a setting of this block
abbrev pub is_of : List ℕ → Setting → Bool
is_of block setting = bytes_eq setting.block block

-- it is the setting of this block with this key
abbrev pub is_setting : List ℕ → OwnedKey → Setting → Bool
is_setting block key setting = is_of block setting && same_key setting.key key

-- LOOK-UP

-- a block among later ones: before those of its own priority and below
abbrev pub put_in : Block → List Block → List Block
put_in block [] = block ∷ []
put_in block (other ∷ others) =
    if int_lt block.priority other.priority then other ∷ put_in block others else block ∷ other ∷ others

-- the blocks by falling priority, of equal ones the earlier first
abbrev pub by_priority : List Block → List Block
by_priority [] = []
by_priority (block ∷ blocks) = put_in block (by_priority blocks)

-- a block's name is this one, a dot and more
abbrev pub is_below : List ℕ → Block → Bool
is_below name block =
    nat_lt (length name + 1) (length block.name) && starts_with nat_eq block.name name && (slice_index block.name (length name) == 46)

-- a block is looked up after the one that is named, or after the root where none is
abbrev pub is_behind : Option (List ℕ) → Block → Bool
is_behind None block = true
is_behind (Some name) block = is_below name block

-- the blocks in which a setting is looked up, in this order: the one that is named, or the root, and then
-- those after it
abbrev pub scope : Option (List ℕ) → List Block → List (List ℕ)
scope block blocks = unwrap_or block [] ∷ map (λ other. other.name) (filter (is_behind block) (by_priority blocks))

-- the settings of a key in these blocks, in the order of the blocks
abbrev pub settings_in : List (List ℕ) → OwnedKey → List Setting → List Setting
settings_in names key settings = flat_map (λ name. filter (is_setting name key) settings) names

-- the value of a key: that of the first such setting
unfoldable pub look : Option (List ℕ) → OwnedKey → TableLists → Option SettingValue
look block key table = option_map setting_value (slice_get (settings_in (scope block table.blocks) key table.settings) 0)

-- the value of a key in one block alone
unfoldable pub own_value : List ℕ → OwnedKey → TableLists → Option SettingValue
own_value block key table = option_map setting_value (find (is_setting block key) table.settings)

-- how many settings a block has
abbrev pub count_of : List ℕ → List Setting → ℕ
count_of block settings = count_by (is_of block) settings

-- that number, where the block is there
abbrev pub count_in : List ℕ → TableLists → Option ℕ
count_in block table = if has_block block table.blocks then Some (count_of block table.settings) else None

-- CHANGES

-- the blocks with one more, which is the latest; the root is there already
abbrev pub with_block : Block → List Block → List Block
with_block block blocks =
    if is_root block.name then blocks else filter (λ other. not (is_named block.name other)) blocks ++ block ∷ []

-- the settings of the other blocks
abbrev pub without_block : List ℕ → List Setting → List Setting
without_block block settings = filter (λ setting. not (is_of block setting)) settings

-- the table with a block more, or with one that was there emptied
abbrev pub registered : Block → TableLists → TableLists
registered block table = record { blocks = with_block block table.blocks; settings = without_block block.name table.settings }

-- why a block isn't registered, if it isn't: there are 16 with the root, and it isn't among them
abbrev pub register_refusal : List ℕ → TableLists → Option SetError
register_refusal block table =
    if nat_le 16 (1 + length table.blocks) && not (has_block block table.blocks) then Some TooMany else None

-- where the setting of a block and a key stands
abbrev pub place_of : List ℕ → OwnedKey → List Setting → Option ℕ
place_of block key settings = position (is_setting block key) settings

-- the settings with one put at a place, or after all where there is no place
abbrev pub put_at : Option ℕ → Setting → List Setting → List Setting
put_at None setting settings = settings ++ setting ∷ []
put_at (Some i) setting settings = slice_set settings i setting

-- the settings with one more: it takes the place of the one of its block and key, or stands after all
abbrev pub with_setting : Setting → List Setting → List Setting
with_setting setting settings = put_at (place_of setting.block setting.key settings) setting settings

-- the table with a setting more
abbrev pub with_value : Setting → TableLists → TableLists
with_value setting table = record { blocks = table.blocks; settings = with_setting setting table.settings }

-- the block has 128 settings, and none of them has the key
abbrev pub is_full : List ℕ → OwnedKey → List Setting → Bool
is_full block key settings = nat_le 128 (count_of block settings) && is_none (place_of block key settings)

-- why a setting isn't put, if it isn't
abbrev pub put_refusal : List ℕ → OwnedKey → List ℕ → TableLists → Option SetError
put_refusal block key bytes table =
    if not (has_block block table.blocks) then Some BadName
    else (if nat_lt 1024 (length bytes) then Some TooLong
    else (if is_full block key table.settings then Some TooMany else None))

-- the settings but for the one of a block and a key
abbrev pub without_setting : List ℕ → OwnedKey → List Setting → List Setting
without_setting block key settings = filter (λ setting. not (is_setting block key setting)) settings

-- the table without a setting
abbrev pub cleared : List ℕ → OwnedKey → TableLists → TableLists
cleared block key table = record { blocks = table.blocks; settings = without_setting block key table.settings }

-- WHAT HOLDS OF EVERY TABLE

-- no two blocks have one name, and none beside the root the root's empty name; no two settings of one block have
-- one key; and there is no setting of a block that isn't there
pub record HasNoDoubles (table : TableLists) : Type 0 where
  pub names : AllPairs (λ one other. one.name ≢ other.name) table.blocks
  pub one_root : All (λ block. block.name ≢ []) table.blocks
  pub keys : AllPairs (λ one other. one.block ≡ other.block → one.key ≢ other.key) table.settings
  pub within : list_all (λ setting. has_block setting.block table.blocks) table.settings ≡ true

-- each setting that has a tag is kept by its tag, so that it isn't there by its name as well
abbrev pub KeepsByTag : TableLists → Type 0
KeepsByTag table = All (λ setting. IsByTag setting.key) table.settings

-- at most 16 blocks with the root; each has at most 128 settings, and each value at most 1,024 bytes; and nothing
-- stands twice
pub record IsTable (table : TableLists) : Type 0 where
  pub few : length table.blocks ≤ 15
  pub at_most : (block : List ℕ) → count_of block table.settings ≤ 128
  pub short : list_all (λ setting. nat_le (length setting.bytes) 1024) table.settings ≡ true
  pub no_doubles : HasNoDoubles table

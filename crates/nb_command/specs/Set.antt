-- own, after ipxe.org's `set name [value]`: the words joined by one space, read by a kind
use Rattle.std.specs.Prelude.{ℕ, List, [], ◌∷◌, unwrap_or, Result, Ok, Err, if◌then◌else◌}
use Rattle.std.specs.List.{join_with_byte}
use Rattle.nb_settings.specs.declared.kind.Kind.{Kind}
use Rattle.nb_settings.specs.declared.kind.Kind.TheVariants.{Str}
use Rattle.nb_settings.specs.Listed.{listed_kind}
use Rattle.nb_settings.specs.Names.{SettingName, name_read}
use Rattle.nb_settings.specs.Tables.{TableLists, cleared}
use Rattle.nb_defs.specs.Commands.{is_option}
use Rattle.nb_command.specs.declared.command_plan.CommandPlan.{CommandPlan}
use Rattle.nb_command.specs.declared.command_plan.CommandPlan.TheVariants.{Set}
use Rattle.nb_imagecmd.specs.declared.error.PlanError.{PlanError}
use Rattle.nb_imagecmd.specs.declared.error.PlanError.TheVariants.{Usage}
use Rattle.nb_command.specs.Settings.{Change, named_block, change_named, put_text}

unfoldable pub set_plan : List (List ℕ) → Result CommandPlan PlanError
set_plan [] = Err Usage
set_plan (name ∷ value) = if is_option name then Err Usage else Ok (Set name value)

-- the kind in the name, else the listed one, else string; the kind kept before doesn't count
abbrev pub set_kind : SettingName → Kind
set_kind name = unwrap_or name.kind (unwrap_or (listed_kind name.key) Str)

-- the table with the value of that name, or without it where the value is empty
abbrev pub set_value : List ℕ → TableLists → SettingName → Change
set_value [] table name = Ok (cleared (named_block name) name.key table)
set_value (byte ∷ bytes) table name = put_text name (set_kind name) (byte ∷ bytes) table

-- the table that the command leaves, or why it refuses
abbrev pub set_table : List ℕ → List (List ℕ) → TableLists → Change
set_table name words table =
    change_named (set_value (join_with_byte 32 words) table) table (name_read name)

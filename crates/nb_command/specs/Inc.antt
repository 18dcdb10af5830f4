-- own, after ipxe.org's `inc name [n]`: the sum, where the setting's kind has it
use Rattle.std.specs.Prelude.{ℕ, List, [], ◌∷◌, Option, Some, None, option_map, if◌then◌else◌}
use Rattle.std.specs.Prelude.{Result, Err, ℤ, pos, ◌+ℤ◌}
use Rattle.std.specs.Fmt.{signed_decimal}
use Rattle.nb_settings.specs.declared.kind.Kind.{Kind}
use Rattle.nb_settings.specs.declared.kind.Kind.TheVariants.{Int32}
use Rattle.nb_settings.specs.Names.{SettingName, name_read}
use Rattle.nb_settings.specs.Tables.{TableLists, SettingValue, own_value}
use Rattle.nb_defs.specs.Commands.{is_option}
use Rattle.nb_expand.specs.Integers.{integer_of}
use Rattle.nb_expand.specs.Numbers.{within, signed_number_of}
use Rattle.nb_command.specs.declared.command_plan.CommandPlan.{CommandPlan}
use Rattle.nb_command.specs.declared.command_plan.CommandPlan.TheVariants.{Inc}
use Rattle.nb_command.specs.declared.error.ApplyError.TheVariants.{BadValue}
use Rattle.nb_imagecmd.specs.declared.error.PlanError.{PlanError}
use Rattle.nb_imagecmd.specs.declared.error.PlanError.TheVariants.{Usage}
use Rattle.nb_command.specs.Plans.{plan_with}
use Rattle.nb_command.specs.Settings.{Change, named_block, change_named, put_text}

abbrev pub inc_plan_by : List ℕ → Option ℤ → Result CommandPlan PlanError
inc_plan_by name by = plan_with (λ n. Inc name n) by

-- the number is -2,147,483,648 to 2,147,483,647, and 1 where it is absent
unfoldable pub inc_plan : List (List ℕ) → Result CommandPlan PlanError
inc_plan [] = Err Usage
inc_plan (name ∷ []) = if is_option name then Err Usage else inc_plan_by name (Some (pos 1))
inc_plan (name ∷ n ∷ []) =
    if is_option name then Err Usage
    else inc_plan_by name (within 2147483648 (signed_number_of n))
inc_plan (name ∷ n ∷ second ∷ others) = Err Usage

-- the kind and the number from which is counted: an unset setting is 0 of int32, and one of another
-- kind than the integers has no number
abbrev pub counted_from : Option SettingValue → Option (Kind × ℤ)
counted_from None = Some (Int32, pos 0)
counted_from (Some value) = option_map (λ n. (value.kind, n)) (integer_of value.kind value.bytes)

-- the same of the setting that a name means
abbrev pub named_count : SettingName → TableLists → Option (Kind × ℤ)
named_count name table = counted_from (own_value (named_block name) name.key table)

-- the table with a number as value; one that the kind doesn't have is BadValue, so nothing wraps
abbrev pub put_number : SettingName → Kind → ℤ → TableLists → Change
put_number name kind number table = put_text name kind (signed_decimal number) table

abbrev pub sum_put : SettingName → ℤ → TableLists → Option (Kind × ℤ) → Change
sum_put name by table None = Err BadValue
sum_put name by table (Some from) = put_number name from.0 (from.1 +ℤ by) table

-- the table in which the setting that a name means has the sum as its value
abbrev pub summed : ℤ → TableLists → SettingName → Change
summed by table name = sum_put name by table (named_count name table)

-- the table that the command leaves: the setting is one of the named block, or of the root, and a kind in
-- the name doesn't count
abbrev pub increased_table : List ℕ → ℤ → TableLists → Change
increased_table name by table = change_named (summed by table) table (name_read name)

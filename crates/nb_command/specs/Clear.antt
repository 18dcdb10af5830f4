-- own, after ipxe.org's `clear name`: the setting of the named block, or of the root
use Rattle.std.specs.Prelude.{ℕ, List, Result, Ok}
use Rattle.nb_settings.specs.Names.{name_read}
use Rattle.nb_settings.specs.Tables.{TableLists, cleared}
use Rattle.nb_command.specs.declared.command_plan.CommandPlan.{CommandPlan}
use Rattle.nb_command.specs.declared.command_plan.CommandPlan.TheVariants.{Clear}
use Rattle.nb_imagecmd.specs.declared.error.PlanError.{PlanError}
use Rattle.nb_command.specs.Plans.{one_word, plan_with}
use Rattle.nb_command.specs.Settings.{Change, named_block, change_named}

abbrev pub clear_plan : List (List ℕ) → Result CommandPlan PlanError
clear_plan args = plan_with (λ name. Clear name) (one_word args)

-- the table that the command leaves; the setting may be unset, and a kind in the name doesn't count
abbrev pub cleared_table : List ℕ → TableLists → Change
cleared_table name table =
    change_named (λ read. Ok (cleared (named_block read) read.key table)) table (name_read name)

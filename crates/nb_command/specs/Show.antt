-- own, after ipxe.org's `show name`: a line of the name as written, ` = `, and the value as text
use Rattle.std.specs.Prelude.{ℕ, List, ◌++◌, Option, Some, None, Result, Ok, Err, codes}
use Rattle.nb_settings.specs.Tables.{TableLists}
use Rattle.nb_expand.specs.Values.{named_text}
use Rattle.nb_command.specs.declared.command_plan.CommandPlan.{CommandPlan}
use Rattle.nb_command.specs.declared.command_plan.CommandPlan.TheVariants.{Show}
use Rattle.nb_command.specs.declared.error.ApplyError.{ApplyError}
use Rattle.nb_command.specs.declared.error.ApplyError.TheVariants.{BadName}
use Rattle.nb_imagecmd.specs.declared.error.PlanError.{PlanError}
use Rattle.nb_command.specs.Plans.{one_word, plan_with}

abbrev pub show_plan : List (List ℕ) → Result CommandPlan PlanError
show_plan args = plan_with (λ name. Show name) (one_word args)

abbrev pub setting_line : List ℕ → List ℕ → List ℕ
setting_line name value = name ++ codes " = " ++ value ++ codes "\n"

abbrev pub value_line : List ℕ → Option (List ℕ) → Result (List ℕ) ApplyError
value_line name None = Err BadName
value_line name (Some value) = Ok (setting_line name value)

-- what is printed: the value is what the name stands for in a word, so it is empty for an unset
-- setting and for a block that isn't there
abbrev pub setting_shown : List ℕ → TableLists → Result (List ℕ) ApplyError
setting_shown name table = value_line name (named_text table name)

-- own, after ipxe.org's `ifopen [net0]`: sets a device up; without a word it is net0
use Rattle.std.specs.Prelude.{ℕ, List, [], ◌∷◌, Some, None, Result, Ok, Err, if◌then◌else◌}
use Rattle.nb_defs.specs.Commands.{is_option}
use Rattle.nb_command.specs.declared.command_plan.CommandPlan.{CommandPlan}
use Rattle.nb_command.specs.declared.command_plan.CommandPlan.TheVariants.{Ifopen}
use Rattle.nb_imagecmd.specs.declared.error.PlanError.{PlanError}
use Rattle.nb_imagecmd.specs.declared.error.PlanError.TheVariants.{Usage}

unfoldable pub ifopen_plan : List (List ℕ) → Result CommandPlan PlanError
ifopen_plan [] = Ok (Ifopen None)
ifopen_plan (word ∷ []) = if is_option word then Err Usage else Ok (Ifopen (Some word))
ifopen_plan (word ∷ second ∷ others) = Err Usage

-- own, after ipxe.org's `ifclose [net0]`: sets a device down, and closes what is open there; without a word it is net0
use Rattle.std.specs.Prelude.{ℕ, List, [], ◌∷◌, Some, None, Result, Ok, Err, if◌then◌else◌}
use Rattle.nb_defs.specs.Commands.{is_option}
use Rattle.nb_command.specs.declared.command_plan.CommandPlan.{CommandPlan}
use Rattle.nb_command.specs.declared.command_plan.CommandPlan.TheVariants.{Ifclose}
use Rattle.nb_imagecmd.specs.declared.error.PlanError.{PlanError}
use Rattle.nb_imagecmd.specs.declared.error.PlanError.TheVariants.{Usage}

unfoldable pub ifclose_plan : List (List ℕ) → Result CommandPlan PlanError
ifclose_plan [] = Ok (Ifclose None)
ifclose_plan (word ∷ []) = if is_option word then Err Usage else Ok (Ifclose (Some word))
ifclose_plan (word ∷ second ∷ others) = Err Usage

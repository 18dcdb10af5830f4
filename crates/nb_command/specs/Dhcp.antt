-- own, after ipxe.org's `dhcp [net0]`: sets a device up and gets a lease for it; without a word it is net0
use Rattle.std.specs.Prelude.{ℕ, List, [], ◌∷◌, Some, None, Result, Ok, Err, if◌then◌else◌}
use Rattle.nb_defs.specs.Commands.{is_option}
use Rattle.nb_command.specs.declared.command_plan.CommandPlan.{CommandPlan}
use Rattle.nb_command.specs.declared.command_plan.CommandPlan.TheVariants.{Dhcp}
use Rattle.nb_imagecmd.specs.declared.error.PlanError.{PlanError}
use Rattle.nb_imagecmd.specs.declared.error.PlanError.TheVariants.{Usage}

unfoldable pub dhcp_plan : List (List ℕ) → Result CommandPlan PlanError
dhcp_plan [] = Ok (Dhcp None)
dhcp_plan (word ∷ []) = if is_option word then Err Usage else Ok (Dhcp (Some word))
dhcp_plan (word ∷ second ∷ others) = Err Usage

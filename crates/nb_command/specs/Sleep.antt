-- own, after ipxe.org's `sleep seconds`: 0 to 4,000,000 seconds
use Rattle.std.specs.Prelude.{ℕ, List, [], ◌∷◌, Result, Err}
use Rattle.nb_defs.specs.Commands.{number_of}
use Rattle.nb_numerals.specs.Numbers.{below}
use Rattle.nb_command.specs.declared.command_plan.CommandPlan.{CommandPlan}
use Rattle.nb_command.specs.declared.command_plan.CommandPlan.TheVariants.{Sleep}
use Rattle.nb_imagecmd.specs.declared.error.PlanError.{PlanError}
use Rattle.nb_imagecmd.specs.declared.error.PlanError.TheVariants.{Usage}
use Rattle.nb_command.specs.Plans.{plan_with}

unfoldable pub sleep_plan : List (List ℕ) → Result CommandPlan PlanError
sleep_plan [] = Err Usage
sleep_plan (seconds ∷ []) = plan_with (λ n. Sleep n) (below 4000001 (number_of seconds))
sleep_plan (seconds ∷ second ∷ others) = Err Usage

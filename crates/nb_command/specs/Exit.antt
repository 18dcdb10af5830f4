-- own, after ipxe.org's `exit [n]`: the number is 0 to 255, and 0 where it is absent
use Rattle.std.specs.Prelude.{ℕ, List, [], ◌∷◌, Result, Ok, Err}
use Rattle.nb_defs.specs.Commands.{number_of}
use Rattle.nb_numerals.specs.Numbers.{below}
use Rattle.nb_command.specs.declared.command_plan.CommandPlan.{CommandPlan}
use Rattle.nb_command.specs.declared.command_plan.CommandPlan.TheVariants.{Exit}
use Rattle.nb_imagecmd.specs.declared.error.PlanError.{PlanError}
use Rattle.nb_imagecmd.specs.declared.error.PlanError.TheVariants.{Usage}
use Rattle.nb_command.specs.Plans.{plan_with}

unfoldable pub exit_plan : List (List ℕ) → Result CommandPlan PlanError
exit_plan [] = Ok (Exit 0)
exit_plan (word ∷ []) = plan_with (λ n. Exit n) (below 256 (number_of word))
exit_plan (word ∷ second ∷ others) = Err Usage

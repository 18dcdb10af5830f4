-- own, after ipxe.org's `iseq a b`: the first word ends the options, so the second may be any
use Rattle.std.specs.Prelude.{ℕ, List, [], ◌∷◌, Result, Ok, Err, if◌then◌else◌}
use Rattle.nb_defs.specs.Commands.{is_option}
use Rattle.nb_command.specs.declared.command_plan.CommandPlan.{CommandPlan}
use Rattle.nb_command.specs.declared.command_plan.CommandPlan.TheVariants.{Iseq}
use Rattle.nb_imagecmd.specs.declared.error.PlanError.{PlanError}
use Rattle.nb_imagecmd.specs.declared.error.PlanError.TheVariants.{Usage}

unfoldable pub iseq_plan : List (List ℕ) → Result CommandPlan PlanError
iseq_plan [] = Err Usage
iseq_plan (a ∷ []) = Err Usage
iseq_plan (a ∷ b ∷ []) = if is_option a then Err Usage else Ok (Iseq a b)
iseq_plan (a ∷ b ∷ c ∷ others) = Err Usage

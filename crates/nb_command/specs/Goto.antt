-- own, after ipxe.org's `goto label`: whether the script has the label is asked by who runs it
use Rattle.std.specs.Prelude.{ℕ, List, Result}
use Rattle.nb_command.specs.declared.command_plan.CommandPlan.{CommandPlan}
use Rattle.nb_command.specs.declared.command_plan.CommandPlan.TheVariants.{Goto}
use Rattle.nb_imagecmd.specs.declared.error.PlanError.{PlanError}
use Rattle.nb_command.specs.Plans.{one_word, plan_with}

abbrev pub goto_plan : List (List ℕ) → Result CommandPlan PlanError
goto_plan args = plan_with (λ label. Goto label) (one_word args)

-- own, after ipxe.org's `ping host`: which address the host has is asked by who carries the wait out
use Rattle.std.specs.Prelude.{ℕ, List, Result}
use Rattle.nb_command.specs.declared.command_plan.CommandPlan.{CommandPlan}
use Rattle.nb_command.specs.declared.command_plan.CommandPlan.TheVariants.{Ping}
use Rattle.nb_imagecmd.specs.declared.error.PlanError.{PlanError}
use Rattle.nb_command.specs.Plans.{one_word, plan_with}

abbrev pub ping_plan : List (List ℕ) → Result CommandPlan PlanError
ping_plan args = plan_with (λ host. Ping host) (one_word args)

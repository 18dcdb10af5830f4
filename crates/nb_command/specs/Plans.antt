-- own, after ipxe.org's commands: what the words of all commands have in common. Options stand
-- before the other words and begin with `--`; the commands of today have none.
use Rattle.std.specs.Prelude.{◌≡◌, ◌⊎◌, ℕ, List, [], ◌∷◌, Option, Some, None, if◌then◌else◌}
use Rattle.std.specs.Prelude.{Result, Ok, Err, MatchResult}
use Rattle.nb_defs.specs.Commands.{is_option}
use Rattle.nb_command.specs.declared.command_plan.CommandPlan.{CommandPlan}
use Rattle.nb_imagecmd.specs.declared.error.PlanError.{PlanError}
use Rattle.nb_imagecmd.specs.declared.error.PlanError.TheVariants.{Usage, NoMemory}

-- the only word, which is no option
abbrev pub one_word : List (List ℕ) → Option (List ℕ)
one_word [] = None
one_word (word ∷ []) = if is_option word then None else Some word
one_word (word ∷ second ∷ others) = None

-- a plan of what the words have, or Usage where they don't have it
abbrev pub plan_with : {T : Type 0} → (T → CommandPlan) → Option T → Result CommandPlan PlanError
plan_with plan None = Err Usage
plan_with plan (Some value) = Ok (plan value)

-- the answer is the one expected, unless memory ran out
abbrev pub PlansAs : Result CommandPlan PlanError → Result CommandPlan PlanError → Type 0
PlansAs result expected =
    MatchResult result (λ plan. expected ≡ Ok plan) (λ why. (why ≡ NoMemory) ⊎ (expected ≡ Err why))

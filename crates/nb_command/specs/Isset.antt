-- own, after ipxe.org's `isset [word]`: an unset setting expands to an empty word
use Rattle.std.specs.Prelude.{ℕ, Bool, false, nat_lt, List, [], ◌∷◌, length, if◌then◌else◌}
use Rattle.std.specs.Prelude.{Option, Some, None, Result, Ok, Err}
use Rattle.nb_defs.specs.Commands.{is_option}
use Rattle.nb_command.specs.declared.command_plan.CommandPlan.{CommandPlan}
use Rattle.nb_command.specs.declared.command_plan.CommandPlan.TheVariants.{Isset}
use Rattle.nb_imagecmd.specs.declared.error.PlanError.{PlanError}
use Rattle.nb_imagecmd.specs.declared.error.PlanError.TheVariants.{Usage}

unfoldable pub isset_plan : List (List ℕ) → Result CommandPlan PlanError
isset_plan [] = Ok (Isset None)
isset_plan (word ∷ []) = if is_option word then Err Usage else Ok (Isset (Some word))
isset_plan (word ∷ second ∷ others) = Err Usage

-- whether it is true
abbrev pub is_word_set : Option (List ℕ) → Bool
is_word_set None = false
is_word_set (Some word) = nat_lt 0 (length word)

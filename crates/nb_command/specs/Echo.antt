-- own, after ipxe.org's `echo [-n] [text]`
use Rattle.std.specs.Prelude.{ℕ, Bool, true, false, List, [], ◌∷◌, ◌++◌, codes, if◌then◌else◌}
use Rattle.std.specs.Prelude.{Result, Ok, Err}
use Rattle.std.specs.List.{join_with_byte}
use Rattle.std.specs.Str.{bytes_eq}
use Rattle.nb_defs.specs.Commands.{is_option, begins_with_option}
use Rattle.nb_command.specs.declared.command_plan.CommandPlan.{CommandPlan}
use Rattle.nb_command.specs.declared.command_plan.CommandPlan.TheVariants.{Echo}
use Rattle.nb_imagecmd.specs.declared.error.PlanError.{PlanError}
use Rattle.nb_imagecmd.specs.declared.error.PlanError.TheVariants.{Usage}

-- the words after `-n`; a second `-n` in option place is Usage
abbrev pub unbroken_plan : List (List ℕ) → Result CommandPlan PlanError
unbroken_plan text = if begins_with_option text then Err Usage else Ok (Echo false text)

-- `-n` is an option where it is the first word; a later one is text
unfoldable pub echo_plan : List (List ℕ) → Result CommandPlan PlanError
echo_plan [] = Ok (Echo true [])
echo_plan (first ∷ others) =
    if bytes_eq first (codes "-n") then unbroken_plan others
    else if is_option first then Err Usage
    else Ok (Echo true (first ∷ others))

-- what is printed: the words joined by one space, and a line feed unless `-n`
abbrev pub echoed : Bool → List (List ℕ) → List ℕ
echoed newline text = join_with_byte 32 text ++ (if newline then codes "\n" else [])

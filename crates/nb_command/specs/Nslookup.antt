-- own, after ipxe.org's `nslookup name host`: the first word ends the options, so the host may be any word
use Rattle.std.specs.Prelude.{ℕ, List, [], ◌∷◌, Result, Ok, Err, if◌then◌else◌}
use Rattle.std.specs.Result.{result_map_both}
use Rattle.nb_settings.specs.Tables.{TableLists}
use Rattle.nb_defs.specs.Commands.{is_option}
use Rattle.nb_command.specs.declared.command_plan.CommandPlan.{CommandPlan}
use Rattle.nb_command.specs.declared.command_plan.CommandPlan.TheVariants as plan
use Rattle.nb_command.specs.declared.error.ApplyError.{ApplyError}
use Rattle.nb_imagecmd.specs.declared.error.PlanError.{PlanError}
use Rattle.nb_imagecmd.specs.declared.error.PlanError.TheVariants.{Usage}
use Rattle.nb_command.specs.declared.outcome.Job.{Job}
use Rattle.nb_command.specs.declared.outcome.Job.TheVariants.{Lookup}
use Rattle.nb_command.specs.Addresses.{address_table}

unfoldable pub nslookup_plan : List (List ℕ) → Result CommandPlan PlanError
nslookup_plan [] = Err Usage
nslookup_plan (name ∷ []) = Err Usage
nslookup_plan (name ∷ host ∷ []) = if is_option name then Err Usage else Ok (plan.Nslookup name host)
nslookup_plan (name ∷ host ∷ third ∷ others) = Err Usage

-- what is waited for; where the setting would refuse an address, nothing is. The address 0.0.0.0 stands
-- for each here: whether one is refused is the same for all, as `refuses_address` says
abbrev pub lookup_job : List ℕ → List ℕ → TableLists → Result Job ApplyError
lookup_job name host table = result_map_both (λ _. Lookup name host) (λ why. why) (address_table name 0 table)

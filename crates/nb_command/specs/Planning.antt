-- own, after ipxe.org's commands: the command that words say, its name first
use Rattle.std.specs.Prelude.{ℕ, List, [], ◌∷◌, Option, Some, None, Result, Ok, Err}
use Rattle.nb_command.specs.declared.command_name.CommandName.{CommandName}
use Rattle.nb_command.specs.declared.command_name.CommandName.TheVariants.{Echo, Goto, Exit}
use Rattle.nb_command.specs.declared.command_name.CommandName.TheVariants.{Isset, Iseq, Set}
use Rattle.nb_command.specs.declared.command_name.CommandName.TheVariants.{Clear, Show, Inc}
use Rattle.nb_command.specs.declared.command_name.CommandName.TheVariants.{Sleep}
use Rattle.nb_command.specs.declared.command_name.CommandName.TheVariants.{Ifopen, Ifclose, Dhcp, Ping, Nslookup}
use Rattle.nb_command.specs.declared.command_plan.CommandPlan.{CommandPlan}
use Rattle.nb_command.specs.declared.command_plan.CommandPlan.TheVariants as plan
use Rattle.nb_drivecmd.specs.declared.commands.DriveCommand.{DriveCommand}
use Rattle.nb_drivecmd.specs.DriveReading.{drive_command}
use Rattle.nb_imagecmd.specs.declared.commands.ImageCommand.{ImageCommand}
use Rattle.nb_imagecmd.specs.declared.error.PlanError.{PlanError}
use Rattle.nb_imagecmd.specs.declared.error.PlanError.TheVariants.{Unknown, Usage, NoMemory}
use Rattle.nb_imagecmd.specs.Reading.{image_command}
use Rattle.nb_command.specs.CommandNames.{command_named}
use Rattle.nb_command.specs.Echo.{echo_plan}
use Rattle.nb_command.specs.Goto.{goto_plan}
use Rattle.nb_command.specs.Exit.{exit_plan}
use Rattle.nb_command.specs.Isset.{isset_plan}
use Rattle.nb_command.specs.Iseq.{iseq_plan}
use Rattle.nb_command.specs.Set.{set_plan}
use Rattle.nb_command.specs.Clear.{clear_plan}
use Rattle.nb_command.specs.Show.{show_plan}
use Rattle.nb_command.specs.Inc.{inc_plan}
use Rattle.nb_command.specs.Ifopen.{ifopen_plan}
use Rattle.nb_command.specs.Ifclose.{ifclose_plan}
use Rattle.nb_command.specs.Dhcp.{dhcp_plan}
use Rattle.nb_command.specs.Ping.{ping_plan}
use Rattle.nb_command.specs.Nslookup.{nslookup_plan}
use Rattle.nb_command.specs.Sleep.{sleep_plan}

abbrev pub plan_named : CommandName → List (List ℕ) → Result CommandPlan PlanError
plan_named Echo args = echo_plan args
plan_named Goto args = goto_plan args
plan_named Exit args = exit_plan args
plan_named Isset args = isset_plan args
plan_named Iseq args = iseq_plan args
plan_named Set args = set_plan args
plan_named Clear args = clear_plan args
plan_named Show args = show_plan args
plan_named Inc args = inc_plan args
plan_named Ifopen args = ifopen_plan args
plan_named Ifclose args = ifclose_plan args
plan_named Dhcp args = dhcp_plan args
plan_named Ping args = ping_plan args
plan_named Nslookup args = nslookup_plan args
plan_named Sleep args = sleep_plan args

-- a command on images, where the words say one
abbrev pub images_planned : Result ImageCommand PlanError → Result CommandPlan PlanError
images_planned (Ok command) = Ok (plan.Images command)
images_planned (Err why) = Err why

-- words that are no drive command are one on images, or none
abbrev pub others_planned : Result DriveCommand PlanError → List (List ℕ) → Result CommandPlan PlanError
others_planned (Ok command) words = Ok (plan.Drives command)
others_planned (Err Unknown) words = images_planned (image_command words)
others_planned (Err Usage) words = Err Usage
others_planned (Err NoMemory) words = Err NoMemory

-- all other names are those of commands on drives or images, or of none
abbrev pub plan_where : Option CommandName → List ℕ → List (List ℕ) → Result CommandPlan PlanError
plan_where None name args = others_planned (drive_command (name ∷ args)) (name ∷ args)
plan_where (Some command) name args = plan_named command args

-- the command, or why the words are none
unfoldable pub planned : List (List ℕ) → Result CommandPlan PlanError
planned [] = Err Unknown
planned (name ∷ args) = plan_where (command_named name) name args

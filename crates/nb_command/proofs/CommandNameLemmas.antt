-- Commands by their names.
use Rattle.std.proofs.Common.{◌≡◌, Some, refl}
use Rattle.nb_command.specs.declared.command_name.CommandName.{CommandName}
use Rattle.nb_command.specs.declared.command_name.CommandName.TheVariants.{Echo, Goto, Exit}
use Rattle.nb_command.specs.declared.command_name.CommandName.TheVariants.{Isset, Iseq, Set}
use Rattle.nb_command.specs.declared.command_name.CommandName.TheVariants.{Clear, Show, Inc}
use Rattle.nb_command.specs.declared.command_name.CommandName.TheVariants.{Sleep}
use Rattle.nb_command.specs.declared.command_name.CommandName.TheVariants.{Ifopen, Ifclose, Dhcp, Ping, Nslookup}
use Rattle.nb_command.specs.CommandNames.{command_text, command_named}

-- a command's name names it
pub command_named-text : (command : CommandName) → command_named (command_text command) ≡ Some command
unfolding command_named
command_named-text Echo = refl
command_named-text Goto = refl
command_named-text Exit = refl
command_named-text Isset = refl
command_named-text Iseq = refl
command_named-text Set = refl
command_named-text Clear = refl
command_named-text Show = refl
command_named-text Inc = refl
command_named-text Ifopen = refl
command_named-text Ifclose = refl
command_named-text Dhcp = refl
command_named-text Ping = refl
command_named-text Nslookup = refl
command_named-text Sleep = refl

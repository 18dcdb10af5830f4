-- own, after ipxe.org's commands: the names by which a script calls them
use Rattle.std.specs.Prelude.{ℕ, List, [], ◌∷◌, Option, codes, find}
use Rattle.std.specs.Str.{bytes_eq}
use Rattle.nb_command.specs.declared.command_name.CommandName.{CommandName}
use Rattle.nb_command.specs.declared.command_name.CommandName.TheVariants.{Echo, Goto, Exit}
use Rattle.nb_command.specs.declared.command_name.CommandName.TheVariants.{Isset, Iseq, Set}
use Rattle.nb_command.specs.declared.command_name.CommandName.TheVariants.{Clear, Show, Inc}
use Rattle.nb_command.specs.declared.command_name.CommandName.TheVariants.{Sleep}
use Rattle.nb_command.specs.declared.command_name.CommandName.TheVariants.{Ifopen, Ifclose, Dhcp, Ping, Nslookup}

abbrev pub command_text : CommandName → List ℕ
command_text Echo = codes "echo"
command_text Goto = codes "goto"
command_text Exit = codes "exit"
command_text Isset = codes "isset"
command_text Iseq = codes "iseq"
command_text Set = codes "set"
command_text Clear = codes "clear"
command_text Show = codes "show"
command_text Inc = codes "inc"
command_text Ifopen = codes "ifopen"
command_text Ifclose = codes "ifclose"
command_text Dhcp = codes "dhcp"
command_text Ping = codes "ping"
command_text Nslookup = codes "nslookup"
command_text Sleep = codes "sleep"

abbrev pub all_commands : List CommandName
all_commands =
    Echo ∷ Goto ∷ Exit ∷ Isset ∷ Iseq ∷ Set ∷ Clear ∷ Show ∷ Inc ∷ Ifopen ∷ Ifclose ∷ Dhcp ∷ Ping ∷ Nslookup ∷ Sleep ∷ []

-- the command of a name
unfoldable pub command_named : List ℕ → Option CommandName
command_named name = find (λ command. bytes_eq name (command_text command)) all_commands

use Rattle.std.proofs.Common.{◌≡◌, ◌∙◌, ap, rules, tests}
use Rattle.std.specs.Prelude.{find}
use Rattle.std.specs.Option.{option_copied}
use Rattle.std.specs.Str.{bytes_eq}
use Rattle.std.proofs.lemmas.Iterator.{YieldsList-from_slice}
use Rattle.std.proofs.lemmas.Iterator.Search.{find_from_yields_List}
use Rattle.nb_drivecmd.specs.declared.command_names.DriveCommandName.{DriveCommandName}
use Rattle.nb_drivecmd.specs.DriveCommandNames.{all_drive_commands, drive_command_text, drive_command_named}
use Rattle.nb_drivecmd.proofs.NameTexts.{named_text}
use Rattle.nb_drivecmd.proofs.command_names.DriveCommandName.named.Goals as goal

pub returns-clause-value : goal.returns-clause-value
unfolding drive_command_named
returns-clause-value c =
    let test = λ (command : DriveCommandName). bytes_eq c.args.name.now (drive_command_text command) in
    let found : option_copied c.find.result ≡ find test all_drive_commands =
    find_from_yields_List test _ _ c.find.result c.find.ensures.ran (YieldsList-from_slice all_drive_commands cc) (λ x b q k. search (rules, tests)) in
    c.copied.ensures ∙ found

pub returns-clause-complete : goal.returns-clause-complete
returns-clause-complete c = λ command is. returns-clause-value c ∙ ap drive_command_named is ∙ named_text command

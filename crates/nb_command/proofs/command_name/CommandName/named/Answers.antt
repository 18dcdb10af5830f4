use Rattle.std.proofs.Common.{◌≡◌, ◌∙◌, ap, rules, tests}
use Rattle.std.specs.Prelude.{find}
use Rattle.std.specs.Option.{option_copied}
use Rattle.std.specs.Str.{bytes_eq}
use Rattle.std.proofs.lemmas.Iterator.{YieldsList-from_slice}
use Rattle.std.proofs.lemmas.Iterator.Search.{find_from_yields_List}
use Rattle.nb_command.specs.declared.command_name.CommandName.{CommandName}
use Rattle.nb_command.specs.CommandNames.{all_commands, command_text, command_named}
use Rattle.nb_command.proofs.CommandNameLemmas.{command_named-text}
use Rattle.nb_command.proofs.command_name.CommandName.named.Goals as goal

pub returns-clause-value : goal.returns-clause-value
unfolding command_named
returns-clause-value c =
    let test = λ (command : CommandName). bytes_eq c.args.name.now (command_text command) in
    let found : option_copied c.find.result ≡ find test all_commands =
    find_from_yields_List test _ _ c.find.result c.find.ensures.ran (YieldsList-from_slice all_commands cc) (λ x b q k. search (rules, tests)) in
    c.copied.ensures ∙ found

pub returns-clause-complete : goal.returns-clause-complete
returns-clause-complete c = λ command is. returns-clause-value c ∙ ap command_named is ∙ command_named-text command

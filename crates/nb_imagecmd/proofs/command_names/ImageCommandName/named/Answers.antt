use Rattle.std.proofs.Common.{◌≡◌, ◌∙◌, ap, rules, tests}
use Rattle.std.specs.Prelude.{find}
use Rattle.std.specs.Option.{option_copied}
use Rattle.std.specs.Str.{bytes_eq}
use Rattle.std.proofs.lemmas.Iterator.{YieldsList-from_slice}
use Rattle.std.proofs.lemmas.Iterator.Search.{find_from_yields_List}
use Rattle.nb_imagecmd.specs.declared.command_names.ImageCommandName.{ImageCommandName}
use Rattle.nb_imagecmd.specs.CommandNames.{all_image_commands, image_command_text, image_command_named}
use Rattle.nb_imagecmd.proofs.CommandNameLemmas.{named-text}
use Rattle.nb_imagecmd.proofs.command_names.ImageCommandName.named.Goals as goal

pub returns-clause-value : goal.returns-clause-value
unfolding image_command_named
returns-clause-value c =
    let test = λ (command : ImageCommandName). bytes_eq c.args.name.now (image_command_text command) in
    let found : option_copied c.find.result ≡ find test all_image_commands =
    find_from_yields_List test _ _ c.find.result c.find.ensures.ran (YieldsList-from_slice all_image_commands cc) (λ x b q k. search (rules, tests)) in
    c.copied.ensures ∙ found

pub returns-clause-complete : goal.returns-clause-complete
returns-clause-complete c = λ command is. returns-clause-value c ∙ ap image_command_named is ∙ named-text command

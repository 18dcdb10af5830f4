use Rattle.std.proofs.Common.{rules, tests, not}
use Rattle.std.proofs.lemmas.Fn.{filter_same}
use Rattle.nb_settings.specs.Keys.{key_of}
use Rattle.nb_settings.specs.Tables.{is_setting}
use Rattle.nb_settings.proofs.list.drop_setting.Goals as goal

pub returns : goal.returns
returns c = filter_same _ (λ setting. not (is_setting c.args.block.now (key_of c.args.key.now) setting)) _ (λ x b f' called. search (rules, tests)) _ _ c.retain.ensures.filtered

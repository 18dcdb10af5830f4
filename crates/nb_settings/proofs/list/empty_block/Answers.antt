use Rattle.std.proofs.Common.{rules, tests, not}
use Rattle.std.proofs.lemmas.Fn.{filter_same}
use Rattle.nb_settings.specs.Tables.{is_of}
use Rattle.nb_settings.proofs.list.empty_block.Goals as goal

pub returns : goal.returns
returns c = filter_same _ (λ setting. not (is_of c.args.block.now setting)) _ (λ x b f' called. search (rules, tests)) _ _ c.retain.ensures.filtered

use Rattle.std.proofs.Common.{◌∙◌}
use Rattle.nb_script.proofs.LinesLemmas.{backslash_is}
use Rattle.nb_script.proofs.line.ends_in_backslash.Goals as goal

pub returns : goal.returns
returns c = c.ends_with.ensures.value ∙ backslash_is c.args.line.now

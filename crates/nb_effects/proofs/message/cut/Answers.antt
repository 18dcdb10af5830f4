use Rattle.nb_effects.proofs.CutLemmas.{cut-bytes}
use Rattle.nb_effects.proofs.message.cut.Goals as goal

pub returns-clause-bytes : goal.returns-clause-bytes
returns-clause-bytes c =
    cut-bytes c.args.first.now c.args.second.now c.args.from c.args.to c.min.result c.min-2.result c.saturating_sub.result c.saturating_sub-2.result c.requires.order c.min.ensures c.min-2.ensures c.saturating_sub.ensures c.saturating_sub-2.ensures

use Rattle.nb_lab.proofs.SummaryLemmas.{nothing_counts}
use Rattle.nb_lab.proofs.summary.Summary.new.Goals as goal

pub returns-clause-none : goal.returns-clause-none
returns-clause-none c = nothing_counts c.args.images

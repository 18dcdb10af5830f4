use Rattle.nb_lab.proofs.SummaryLemmas.{counts_input}
use Rattle.nb_lab.proofs.summary.Summary.count_input.Goals as goal

pub returns-clause-counts : goal.returns-clause-counts
returns-clause-counts c = λ ins outs r h. counts_input c.args.self.now _ ins outs r h c.add_input.ensures.counted

use Rattle.nb_lab.proofs.SummaryLemmas.{summed_up}
use Rattle.nb_lab.proofs.summary.Summary.text.Goals as goal

pub returns : goal.returns
returns c = summed_up c.lines.result c.args.self.now c.args.status c.lines.ensures

use Rattle.nb_traced.proofs.Leading.{has_led}
use Rattle.nb_traced.proofs.laws.graph_runs.Goals as goal

pub returns : goal.returns
returns c = λ outs h came traced. has_led outs h came traced

use Rattle.nb_traced.proofs.OneState.{one_state}
use Rattle.nb_traced.proofs.laws.one_state.Goals as goal

pub returns : goal.returns
returns c = λ outs s t a b. one_state outs s t a b

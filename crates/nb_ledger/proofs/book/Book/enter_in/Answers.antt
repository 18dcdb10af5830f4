use Rattle.std.proofs.Common.{inl}
use Rattle.nb_ledger.proofs.StepLemmas.{state-busy}
use Rattle.nb_ledger.proofs.book.Book.enter_in.Goals as goal

pub returns-clause-step : goal.returns-clause-step
returns-clause-step g c = λ st idle may. inl (idle, may, state-busy _ c.set_busy-was.ensures.sets)

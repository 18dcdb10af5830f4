use Rattle.nb_streams.proofs.TryLaws.{IsFresh, answer_restarts}
use Rattle.nb_streams.proofs.laws.answers_start_the_timer_anew.Goals as goal

pub returns : goal.returns
returns c = λ isn f m now w only_if alive. let fresh : IsFresh now _ = answer_restarts isn f m now w only_if alive in (fresh.plan, fresh.fresh)

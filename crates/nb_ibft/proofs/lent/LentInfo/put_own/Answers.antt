use Rattle.nb_ibft.proofs.JoinLemmas.{three_put}
use Rattle.nb_ibft.proofs.lent.LentInfo.put_own.Goals as goal

pub returns-clause-value : goal.returns-clause-value
returns-clause-value c = three_put _ _ _ _ _ _ _ c.put.ensures.value c.put_address.ensures.value c.put-2.ensures.value

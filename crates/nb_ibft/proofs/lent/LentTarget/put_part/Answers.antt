use Rattle.nb_ibft.proofs.JoinLemmas.{three_put}
use Rattle.nb_ibft.proofs.lent.LentTarget.put_part.Goals as goal

pub returns-clause-value : goal.returns-clause-value
returns-clause-value c = three_put _ _ _ _ _ _ _ c.put_portal.ensures.value c.put.ensures.value c.put_login.ensures.value

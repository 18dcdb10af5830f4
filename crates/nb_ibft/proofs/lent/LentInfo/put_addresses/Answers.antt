use Rattle.nb_ibft.proofs.JoinLemmas.{three_put}
use Rattle.nb_ibft.proofs.lent.LentInfo.put_addresses.Goals as goal

pub returns-clause-value : goal.returns-clause-value
returns-clause-value c = three_put _ _ _ _ _ _ _ c.put_own.ensures.value c.put_servers.ensures.value c.put.ensures.value

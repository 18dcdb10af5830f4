use Rattle.nb_ibft.proofs.JoinLemmas.{four_put}
use Rattle.nb_ibft.proofs.lent.LentInfo.put_servers.Goals as goal

pub returns-clause-value : goal.returns-clause-value
returns-clause-value c = four_put _ _ _ _ _ _ _ _ _ c.put_address.ensures.value c.put_address-2.ensures.value c.put_address-3.ensures.value c.put_address-4.ensures.value

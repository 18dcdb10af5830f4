use Rattle.std.proofs.Common.{◌++◌, ap, ◌∙◌}
use Rattle.nb_ibft.proofs.JoinLemmas.{three_put}
use Rattle.nb_ibft.proofs.lent.LentTarget.put_portal.Goals as goal

pub returns-clause-value : goal.returns-clause-value
returns-clause-value c = three_put _ _ _ _ _ _ _ c.put.ensures.value c.put_address.ensures.value (c.put-2.ensures.value ∙ ap (λ x. c.put_address.new.to.items ++ x) c.to_le_bytes.ensures)

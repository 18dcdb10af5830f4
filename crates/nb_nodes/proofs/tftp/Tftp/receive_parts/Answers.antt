use Rattle.std.proofs.Common.{ap, not}
use Rattle.nb_nodes.proofs.TftpLemmas.{fails_on}
use Rattle.nb_nodes.proofs.tftp.Tftp.receive_parts.Goals as goal

pub returns-in-Err-clause-leads : goal.returns-in-Err-clause-leads
returns-in-Err-clause-leads c = λ slot d p took. fails_on _ _ _ c.give_up.ensures.over (λ v. ap not c.give_up.ensures.err) tt

use Rattle.nb_login.proofs.ProofLaws.{opened_proven}
use Rattle.nb_login.proofs.laws.opens_after_proof.Goals as goal

pub returns : goal.returns
returns c = λ i h s meets back opened. opened_proven i h s meets back opened

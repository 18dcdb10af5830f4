use Rattle.nb_traced.proofs.OnePieces.{pieces_are_one}
use Rattle.nb_traced.proofs.laws.pieces_are_one.Goals as goal

pub returns : goal.returns
returns c = λ before kind some others a b. pieces_are_one before kind some others a b

use Rattle.std.proofs.Common.{◌∙◌, arith}
use Rattle.nb_reasm.proofs.held.Held.advance.Goals as goal

pub returns-clause-stands : goal.returns-clause-stands
returns-clause-stands c = λ pairs holds p h. c.advance.ensures.held p h ∙ holds p (omega (arith, h, c.advance.ensures.base))

use Rattle.std.proofs.Common.{◌≡◌, ◌++◌}
use Rattle.nb_tftpmsg.specs.Texts.{decimal_text}
use Rattle.nb_tftpmsg.proofs.decimal.decimal_text.Given as goal

-- The digits of the rest stand before those that were put.
abbrev pub invariant-loop-rest : goal.invariant-loop-rest
invariant-loop-rest l = decimal_text l.number ≡ decimal_text l.rest ++ l.digits.items

abbrev pub decreases-loop-rest : goal.decreases-loop-rest
decreases-loop-rest l = l.rest

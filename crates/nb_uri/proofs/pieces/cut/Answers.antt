use Rattle.std.proofs.Common.{◌+◌, refl}
use Rattle.nb_uri.proofs.PieceLemmas.{take_rest}
use Rattle.nb_uri.proofs.pieces.cut.Goals as goal

pub returns-in-Some : goal.returns-in-Some
returns-in-Some c = rw (← c.in-Some.ensures.place, take_rest c.args.text.now (c.in-Some.place + 1)) refl

pub returns-in-None : goal.returns-in-None
returns-in-None c = rw (← c.in-None.ensures.place) refl

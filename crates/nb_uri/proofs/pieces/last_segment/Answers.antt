use Rattle.std.proofs.Common.{◌+◌, ◌∙◌}
use Rattle.nb_uri.proofs.PieceLemmas.{take_rest, after_last-at, after_last-none}
use Rattle.nb_uri.proofs.pieces.last_segment.Goals as goal

pub returns-in-Some : goal.returns-in-Some
returns-in-Some c = take_rest c.args.path.now (c.in-Some.slash + 1) ∙ after_last-at c.args.path.now c.in-Some.slash c.in-Some.ensures.within c.in-Some.ensures.there c.in-Some.ensures.last

pub returns-in-None : goal.returns-in-None
returns-in-None c = after_last-none c.args.path.now c.in-None.ensures.none

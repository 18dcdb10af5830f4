use Rattle.std.proofs.Common.{sym}
use Rattle.nb_image.proofs.FirstLineLemmas.{line_some, line_none}
use Rattle.nb_image.proofs.first_line.ends_line.Goals as goal

pub returns-in-Some : goal.returns-in-Some
returns-in-Some c = sym (line_some c.args.body.now c.args.at c.in-Some.b c.in-Some.ensures)

pub returns-in-None : goal.returns-in-None
returns-in-None c = sym (line_none c.args.body.now c.args.at c.in-None.ensures)

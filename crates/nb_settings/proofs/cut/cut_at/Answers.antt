use Rattle.nb_settings.proofs.CutLemmas.{cut_at-found, cut_at-none}
use Rattle.nb_settings.proofs.cut.cut_at.Goals as goal

pub returns-in-Some : goal.returns-in-Some
returns-in-Some c = cut_at-found c.args.byte c.args.text.now c.in-Some.end c.in-Some.ensures.place

pub returns-in-None : goal.returns-in-None
returns-in-None c = cut_at-none c.args.byte c.args.text.now c.in-None.ensures.place

use Rattle.std.proofs.Common.{sym, ◌∙◌}
use Rattle.nb_conns.proofs.TalkLemmas.{back_none}
use Rattle.nb_conns.proofs.stage.ConnStage.take_lent.Goals as goal

pub returns-in-Some : goal.returns-in-Some
returns-in-Some c = c.take_back.ensures c.args.lent.now (sym c.take.ensures.value ∙ c.in-Some.is)

pub returns-in-None : goal.returns-in-None
returns-in-None c = back_none c.args.self.now c.args.lent.now (sym c.take.ensures.value ∙ c.in-None.is)

use Rattle.std.proofs.Common.{refl}
use Rattle.nb_conns.proofs.TakenLemmas.{lend_is}
use Rattle.nb_conns.proofs.stage.Running.lend.Goals as goal

pub returns : goal.returns
returns c = lend_is c.args.self.now _ c.args.acts.now _ c.lend-held.result refl c.if-not-acts.false refl c.lend-held.ensures.exact c.lend-held.ensures.stands c.count_below-lent.ensures

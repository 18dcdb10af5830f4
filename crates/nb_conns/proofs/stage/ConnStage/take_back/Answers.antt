use Rattle.std.proofs.Common.{sym, subst, refl}
use Rattle.nb_conns.specs.declared.stage.ConnStage.{ConnStage}
use Rattle.nb_conns.specs.declared.stage.ConnStage.TheVariants.{Running}
use Rattle.nb_conns.specs.Dialogues.{TakesBack}
use Rattle.nb_conns.proofs.stage.ConnStage.take_back.Goals as goal

pub returns-in-Running : goal.returns-in-Running
returns-in-Running c = λ l held. subst (λ (z : ConnStage). TakesBack z (Running c.take_back.new.self) l) (sym c.in-Running.is) (c.take_back.new.self, refl, c.take_back.ensures l held)

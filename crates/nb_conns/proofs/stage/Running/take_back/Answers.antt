use Rattle.std.proofs.Common.{refl}
use Rattle.nb_conns.proofs.TalkLemmas.{back_talks}
use Rattle.nb_conns.proofs.stage.Running.take_back.Goals as goal

pub returns : goal.returns
returns c = λ l held. back_talks c.args.self.now _ l c.args.held refl held c.regain.ensures.stands c.regain.ensures.delivered

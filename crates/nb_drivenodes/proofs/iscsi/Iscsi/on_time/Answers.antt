use Rattle.std.proofs.Common.{refl}
use Rattle.nb_conns.proofs.DialogueLemmas.{nothing_said}
use Rattle.nb_drivenodes.proofs.SessionLemmas.{session-rests, session-stands-on}
use Rattle.nb_drivenodes.proofs.iscsi.Iscsi.on_time.Goals as goal

pub returns-clause-stands : goal.returns-clause-stands
returns-clause-stands g c = λ t now s. session-stands-on g.L.CarriesText.texts c.args.self.now c.args.self.now t _ (session-rests g.L.CarriesText.texts _ _ _ (λ d at. refl) (nothing_said c.args.fx.now c.requires)) s

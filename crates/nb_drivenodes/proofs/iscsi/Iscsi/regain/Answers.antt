use Rattle.std.proofs.Common.{refl}
use Rattle.nb_drivenodes.proofs.SessionLemmas.{session-has-back}
use Rattle.nb_drivenodes.proofs.iscsi.Iscsi.regain.Goals as goal

pub returns-in-Some : goal.returns-in-Some
returns-in-Some g c = λ t s. session-has-back g.L.CarriesText.texts c.args.self.now _ t c.args.load refl refl s

pub returns-in_default : goal.returns-in_default
returns-in_default g c = λ t s. session-has-back g.L.CarriesText.texts c.args.self.now _ t c.args.load refl refl s

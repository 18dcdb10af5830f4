use Rattle.nb_drivenodes.proofs.UnitLemmas.{unit-has-back}
use Rattle.nb_drivenodes.proofs.logical_unit.LogicalUnit.regain.Goals as goal

pub returns : goal.returns
returns g c = λ t s. unit-has-back g.L.CarriesText.texts c.args.self.now t c.args.load s

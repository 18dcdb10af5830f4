use Rattle.std.proofs.Common.{refl}
use Rattle.nb_conns.proofs.DialogueLemmas.{nothing_said}
use Rattle.nb_drivenodes.proofs.UnitLemmas.{unit-rests, unit-stands-on}
use Rattle.nb_drivenodes.proofs.logical_unit.LogicalUnit.on_time.Goals as goal

pub returns-clause-stands : goal.returns-clause-stands
returns-clause-stands g c = λ t now s. unit-stands-on g.L.CarriesText.texts c.args.self.now c.args.self.now t _ (unit-rests g.L.CarriesText.texts _ _ (λ d at. refl) (nothing_said c.args.fx.now c.requires)) s

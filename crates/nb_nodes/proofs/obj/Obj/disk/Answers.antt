use Rattle.std.proofs.Common.{sym, subst}
use Rattle.nb_drivenodes.specs.UnitTalks.{IsUnaskedUnit}
use Rattle.nb_drivenodes.proofs.UnitLemmas.{unit-stands-anew}
use Rattle.nb_nodes.specs.Carriers.{text_carrier}
use Rattle.nb_nodes.proofs.obj.Obj.disk.Goals as goal

pub returns-clause-stands : goal.returns-clause-stands
returns-clause-stands c = unit-stands-anew text_carrier c.in_ok-unit.unit.value (subst IsUnaskedUnit (sym c.in_ok-unit.ensures.ok) c.new-waiting.ensures)

use Rattle.std.proofs.Common.{sym, subst}
use Rattle.nb_drivenodes.specs.UnitTalks.{IsUnaskedUnit}
use Rattle.nb_drivenodes.proofs.UnitLemmas.{unit-stands-anew}
use Rattle.nb_drivenode_tests.specs.Racks.{cargo_carrier}
use Rattle.nb_drivenode_tests.proofs.rack.Rack.unit.Goals as goal

pub returns : goal.returns
returns c = record { stands = unit-stands-anew cargo_carrier c.in_ok-unit.unit.value (subst IsUnaskedUnit (sym c.in_ok-unit.ensures.ok) c.new-waiting.ensures) }

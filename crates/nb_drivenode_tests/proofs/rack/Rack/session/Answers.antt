use Rattle.std.proofs.Common.{sym, subst}
use Rattle.nb_drivenodes.specs.SessionTalks.{IsUnaskedSession}
use Rattle.nb_drivenodes.proofs.SessionLemmas.{session-stands-anew}
use Rattle.nb_drivenode_tests.specs.Racks.{cargo_carrier}
use Rattle.nb_drivenode_tests.proofs.rack.Rack.session.Goals as goal

pub returns : goal.returns
returns c = record { stands = session-stands-anew cargo_carrier c.in_ok-session.session.value (subst IsUnaskedSession (sym c.in_ok-session.ensures.ok) c.in_ok-waiting.ensures) }

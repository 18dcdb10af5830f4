use Rattle.std.proofs.Common.{sym, subst}
use Rattle.nb_drivenodes.specs.SessionTalks.{IsUnaskedSession}
use Rattle.nb_drivenodes.proofs.SessionLemmas.{session-stands-anew}
use Rattle.nb_nodes.specs.Carriers.{text_carrier}
use Rattle.nb_nodes.proofs.obj.Obj.iscsi.Goals as goal

pub returns-clause-stands : goal.returns-clause-stands
returns-clause-stands c = session-stands-anew text_carrier c.in_ok-session.session.value (subst IsUnaskedSession (sym c.in_ok-session.ensures.ok) c.in_ok-waiting.ensures)

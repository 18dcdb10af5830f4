use Rattle.std.proofs.Common.{arith}
use Rattle.nb_conns.proofs.DialogueLemmas.{stands_anew}
use Rattle.nb_conn_tests.specs.Knots.{carried_carrier}
use Rattle.nb_conn_tests.proofs.knot.Knot.tcp.Goals as goal

pub returns : goal.returns
returns c = record { stands = stands_anew carried_carrier c.in_ok-tcp.tcp.value (let a = c.in_ok-waiting.ensures in let b = c.in_ok-tcp.ensures in grind arith) }

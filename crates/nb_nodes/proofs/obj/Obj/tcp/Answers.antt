use Rattle.std.proofs.Common.{arith}
use Rattle.nb_conns.proofs.DialogueLemmas.{stands_anew}
use Rattle.nb_nodes.specs.Carriers.{conn_carrier}
use Rattle.nb_nodes.proofs.obj.Obj.tcp.Goals as goal

pub returns-clause-stands : goal.returns-clause-stands
returns-clause-stands c = stands_anew conn_carrier c.in_ok-tcp.tcp.value (let a = c.in_ok-waiting.ensures in let b = c.in_ok-tcp.ensures in grind arith)

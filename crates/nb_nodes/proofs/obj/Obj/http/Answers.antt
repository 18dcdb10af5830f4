use Rattle.std.proofs.Common.{arith}
use Rattle.nb_webnodes.proofs.WebLemmas.{web_stands_anew}
use Rattle.nb_nodes.specs.Carriers.{web_carrier}
use Rattle.nb_nodes.proofs.obj.Obj.http.Goals as goal

pub returns-clause-stands : goal.returns-clause-stands
returns-clause-stands c = web_stands_anew web_carrier c.in_ok-web.web.value (let a = c.in_ok-waiting.ensures in let b = c.in_ok-web.ensures in grind arith)

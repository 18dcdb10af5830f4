use Rattle.std.proofs.Common.{arith}
use Rattle.nb_webnodes.proofs.WebLemmas.{web_stands_anew}
use Rattle.nb_webnode_tests.specs.Benches.{words_carrier}
use Rattle.nb_webnode_tests.proofs.bench.Bench.web.Goals as goal

pub returns : goal.returns
returns c = record { stands = web_stands_anew words_carrier c.in_ok-web.web.value (let a = c.in_ok-waiting.ensures in let b = c.in_ok-web.ensures in grind arith) }

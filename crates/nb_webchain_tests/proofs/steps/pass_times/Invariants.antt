use Rattle.nb_chains.specs.Chains.{AreChained}
use Rattle.nb_webchains.specs.WebChains.{web_ids}
use Rattle.nb_webchain_tests.proofs.steps.pass_times.Given as goal

-- the objects are there at each time
abbrev pub invariant-loop-now : goal.invariant-loop-now
invariant-loop-now l = AreChained l.graph (web_ids l.web)

use Rattle.nb_chains.specs.Chains.{AreChained}
use Rattle.nb_webchains.specs.WebChains.{web_ids}
use Rattle.nb_webchain_tests.proofs.steps.give_all.Given as goal

-- the objects are there after each segment
abbrev pub invariant-loop-row : goal.invariant-loop-row
invariant-loop-row l = AreChained l.graph (web_ids l.web)

-- Two chains on one graph: for the tests.
use Rattle.nb_graph.specs.Whole.{Objects}
use Rattle.nb_nodes.specs.declared.obj.Obj.{Obj}
use Rattle.nb_chains.specs.declared.chain.Chain.{Chain}
use Rattle.nb_chains.specs.declared.kind.ChainKind.{ChainKind}
use Rattle.nb_chains.specs.Chains.{AreChained, AreOthers, Awaits, chain_ids}

-- both stand there, and have no object in common
pub record AreBeside (g : Objects Obj) (c d : Chain) : Type 0 where
  pub one : AreChained g (chain_ids c)
  pub other : AreChained g (chain_ids d)
  pub apart : AreOthers (chain_ids c) (chain_ids d)
  pub away : AreOthers (chain_ids d) (chain_ids c)

-- one of this kind waits beside another
pub record WaitsAside (kind : ChainKind) (g : Objects Obj) (w c : Chain) : Type 0 where
  pub waits : Awaits kind w g
  pub chained : AreChained g (chain_ids c)
  pub apart : AreOthers (chain_ids c) (chain_ids w)

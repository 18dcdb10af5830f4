use Rattle.std.proofs.Common.{Option, subst}
use Rattle.nb_nodes.specs.declared.obj.Obj.{Obj}
use Rattle.nb_chains.specs.Kinds.{IsLowerOf}
use Rattle.nb_chains.proofs.ChainsMade.{completes_none, ready_so}
use Rattle.nb_chains.proofs.chain.Chain.complete_with.Goals as goal

pub returns-in-None-clause-ready : goal.returns-in-None-clause-ready
returns-in-None-clause-ready g c = ready_so c.args.kind c.args.self c.args.graph.now c.has_nodes.ensures c.requires.waits (subst (λ (z : Option Obj). IsLowerOf c.args.kind z) c.in-None.is c.requires.lower)

pub returns-in-None-clause-gives : goal.returns-in-None-clause-gives
returns-in-None-clause-gives g c = completes_none c.args.kind c.args.self c.args.graph.now (g.O.Outside.events c.args.out.now) (subst (λ (z : Option Obj). IsLowerOf c.args.kind z) c.in-None.is c.requires.lower)

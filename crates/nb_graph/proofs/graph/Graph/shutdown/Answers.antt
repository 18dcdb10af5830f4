use Rattle.nb_graph.proofs.LivedLemmas.{Lived-end}
use Rattle.std.proofs.Common.{arith}
use Rattle.nb_graph.proofs.WentLemmas.{Went-one}
use Rattle.nb_graph.proofs.EndLemmas.{dead-all, dead-zero}
use Rattle.nb_graph.proofs.graph.Graph.shutdown.Goals as goal

pub returns-clause-none : goal.returns-clause-none
returns-clause-none g c =
    let shut = c.close_above.ensures.shut in
    let closes = c.let_above_go.ensures.lets.closes in
    dead-zero _
    (λ x h. dead-all c.let_above_go.ensures.graph x (c.let_above_go.ensures.none x h) (λ k. let i = shut x k h in let j = closes x k in omega arith))
    c.let_above_go.ensures.first

pub returns-clause-went : goal.returns-clause-went
returns-clause-went g c = rw (← c.self.view_is) (Went-one (Lived-end c.self.invariant.quiet c.close_above.ensures.lives c.let_above_go.ensures.runs c.let_above_go.ensures.lets.ages))

pub returns-clause-order : goal.returns-clause-order
returns-clause-order g c =
    let closes = c.close_above.ensures.order c.self.invariant.quiet in
    let lets = c.let_above_go.ensures.runs in
    rw (← c.self.view_is) (record { mid = c.close_above.new.self.book; told = _; ports = closes.0; closes = closes.1; lets = lets.added; runs = lets.runs; order = lets.lets })

use Rattle.std.proofs.Common.{ap}
use Rattle.nb_tcp.proofs.CallStandsLemmas.{lends_so, lends_none, none_lent}
use Rattle.nb_tcp.proofs.conn.Conn.lend.Goals as goal

pub returns-clause-stands : goal.returns-clause-stands
returns-clause-stands c = λ l start h was. lends_so l start c.args.self.now _ c.take.result h was c.take.ensures.value (ap (λ x. record c.args.self.now { held = x }) c.take.ensures.after)

pub returns-clause-none : goal.returns-clause-none
returns-clause-none c = λ l start h was lent. lends_none l start c.args.self.now _ c.take.result h was c.take.ensures.value (ap (λ x. record c.args.self.now { held = x }) c.take.ensures.after) lent

pub returns-clause-lent : goal.returns-clause-lent
returns-clause-lent c = λ l start h was none. none_lent l start c.args.self.now c.take.result h was c.take.ensures.value none

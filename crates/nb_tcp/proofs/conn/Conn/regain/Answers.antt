use Rattle.nb_tcp.proofs.LendStandsLemmas.{regain_stands}
use Rattle.std.proofs.Common.{refl}
use Rattle.nb_tcp.proofs.conn.Conn.regain.Goals as goal

pub returns-clause-stands : goal.returns-clause-stands
returns-clause-stands c = λ l start h was lent loan. regain_stands l start c.args.self.now _ c.args.held c.passed_over.result h was lent loan c.passed_over.ensures refl

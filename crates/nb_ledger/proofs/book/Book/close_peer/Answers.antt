use Rattle.std.proofs.Common.{refl}
use Rattle.nb_ledger.proofs.PortLemmas.{live_by}
use Rattle.nb_ledger.proofs.StepLemmas.{state-port}
use Rattle.nb_ledger.specs.GraphRun.{peer}
use Rattle.nb_ledger.proofs.book.Book.close_peer.Goals as goal

pub set_port-requires-clause-lives : goal.set_port-requires-clause-lives
set_port-requires-clause-lives g c = (live_by c.args.self.now c.args.at.obj.0 c.args.at.slot _ tt c.requires).0

pub set_port-requires-clause-slot : goal.set_port-requires-clause-slot
set_port-requires-clause-slot g c = (live_by c.args.self.now c.args.at.obj.0 c.args.at.slot _ tt c.requires).1

pub returns-clause-step : goal.returns-clause-step
returns-clause-step g c = λ st. peer c.args.peer st refl c.requires (state-port st c.set_port.ensures.sets)

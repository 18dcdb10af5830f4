use Rattle.nb_tcp.specs.Arriving.{incoming}
use Rattle.nb_tcp.proofs.InOrderLemmas.{holds_next}
use Rattle.nb_tcp.proofs.receiving.receive_next.Goals as goal

pub returns-in-Some : goal.returns-in-Some
returns-in-Some c = rw c.in-Some.is (holds_next c.args.variables.now (incoming c.args.segment.now) c.requires _ _ c.hold-variables.result c.hold-variables.ensures.put c.hold-variables.ensures.next)

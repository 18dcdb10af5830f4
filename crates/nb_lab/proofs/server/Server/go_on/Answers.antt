use Rattle.std.proofs.Common.{Option, Some, subst}
use Rattle.nb_tcpseg.specs.SegmentText.{segment_parts}
use Rattle.nb_lab.specs.declared.connection.Connection.{Connection}
use Rattle.nb_lab.specs.Servers.{IsStreamed}
use Rattle.nb_lab.proofs.server.Server.go_on.Goals as goal

pub returns-in-Some-clause-streams : goal.returns-in-Some-clause-streams
returns-in-Some-clause-streams c =
    let P : Option Connection → Type 0 = λ x. IsStreamed x c.args.from (segment_parts c.args.segment.now) c.args.self.now.images c.stream.result (Some c.stream.new.connection) in
    subst P c.in-Some.ensures.value c.stream.ensures

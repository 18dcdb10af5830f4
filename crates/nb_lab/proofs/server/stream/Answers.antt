use Rattle.std.proofs.Common.{Some, refl, rules}
use Rattle.nb_lab.proofs.ServerLemmas.{stream_on}
use Rattle.nb_tcpseg.specs.SegmentText.{segment_parts}
use Rattle.nb_lab.proofs.server.stream.Goals as goal

pub returns : goal.returns
returns c =
    stream_on c.args.connection.now c.take.new.self c.args.from (segment_parts c.args.segment.now) c.args.images (Some c.in_ok-part.part) _ (search rules) c.in_ok-part.ensures refl

use Rattle.std.proofs.Common.{refl}
use Rattle.nb_streams.specs.Flows.{conn_phase}
use Rattle.nb_streams.proofs.EndLaws.{end_by_segment}
use Rattle.nb_streams.proofs.laws.segment_ends_stand.Goals as goal

pub returns : goal.returns
returns c = λ isn start calls m now cause is. end_by_segment isn start calls (conn_phase isn calls) m now cause refl is

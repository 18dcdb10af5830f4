use Rattle.nb_tcpseg.specs.SegmentText.{segment_parts}
use Rattle.nb_tcpseg.proofs.SentLemmas.{unsummed_whole}
use Rattle.nb_tcpseg.proofs.segment.Segment.unsummed_header.Goals as goal

pub returns : goal.returns
returns c = unsummed_whole (segment_parts c.args.self.now) c.header.result c.header.ensures.value

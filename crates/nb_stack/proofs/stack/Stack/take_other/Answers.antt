use Rattle.nb_stack.proofs.ReadingLaws.{request_short, segment_short}
use Rattle.nb_stack.proofs.stack.Stack.take_other.Goals as goal

pub reply_echo-requires-clause-short : goal.reply_echo-requires-clause-short
reply_echo-requires-clause-short c = request_short _ c.requires.frame.0 _ _ _ _ c.requires.frame.1 c.in-HasRequest.ensures c.requires.frame.2

pub take_segment-requires-clause-short : goal.take_segment-requires-clause-short
take_segment-requires-clause-short c = segment_short _ c.requires.frame.0 _ _ _ _ c.requires.frame.1 c.in-HasSegment.ensures c.requires.frame.2

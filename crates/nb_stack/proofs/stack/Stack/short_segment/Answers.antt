use Rattle.std.proofs.Common.{[]}
use Rattle.nb_stack.specs.Envelope.{message_of}
use Rattle.nb_stack.proofs.AckLaws.{segment_leaves}
use Rattle.nb_stack.proofs.stack.Stack.short_segment.Goals as goal

pub returns : goal.returns
returns c =
    let m = message_of c.args.envelope.now [] c.args.header in
    segment_leaves c.args.self.now m c.in_ok-ends.ends c.segment_frame.result (c.in_ok-ends.ensures c.args.header) c.requires c.segment_frame.ensures

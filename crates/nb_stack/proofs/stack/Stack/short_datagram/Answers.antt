use Rattle.std.proofs.Common.{[]}
use Rattle.nb_stack.specs.Envelope.{message_of}
use Rattle.nb_stack.proofs.AckLaws.{datagram_leaves}
use Rattle.nb_stack.proofs.stack.Stack.short_datagram.Goals as goal

pub returns : goal.returns
returns c =
    let m = message_of c.args.envelope.now [] c.args.body in
    datagram_leaves c.args.self.now m c.in_ok-ends.ends c.datagram_frame.result (c.in_ok-ends.ensures c.args.body) c.requires c.datagram_frame.ensures

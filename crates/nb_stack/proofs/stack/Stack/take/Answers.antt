use Rattle.nb_ether.specs.Frame.{frame_of}
use Rattle.nb_stack.proofs.ReadingLaws.{takes_of}
use Rattle.nb_stack.proofs.stack.Stack.take.Goals as goal

pub returns-in-Some-packet_of-clause-takes : goal.returns-in-Some-packet_of-clause-takes
returns-in-Some-packet_of-clause-takes c =
    takes_of _ _ (frame_of c.in-Some.read) _ _ _ _ c.in-Some.ensures.sound c.in-Some.ensures.complete (c.take_datagram.ensures c.args.reply.now.written)

pub returns-in-Some-bound_segment-clause-takes : goal.returns-in-Some-bound_segment-clause-takes
returns-in-Some-bound_segment-clause-takes c =
    takes_of _ _ (frame_of c.in-Some.read) _ _ _ _ c.in-Some.ensures.sound c.in-Some.ensures.complete (c.in-Some-bound_segment.ensures c.args.reply.now.written)

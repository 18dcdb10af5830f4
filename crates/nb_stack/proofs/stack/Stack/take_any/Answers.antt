use Rattle.nb_ether.specs.Frame.{frame_of}
use Rattle.nb_stack.proofs.ReadingLaws.{takes_of}
use Rattle.nb_stack.proofs.stack.Stack.take_any.Goals as goal

pub returns-in-Some-clause-takes : goal.returns-in-Some-clause-takes
returns-in-Some-clause-takes c =
    takes_of _ _ (frame_of c.in-Some.frame) _ _ _ _ c.in-Some.ensures.sound c.in-Some.ensures.complete c.take_other.ensures.takes

use Rattle.std.proofs.Common.{subst}
use Rattle.nb_ether.specs.Frame.{frame_of}
use Rattle.nb_stack.specs.Brings.{BringsIn, message_brought}
use Rattle.nb_stack.specs.Client.{Client}
use Rattle.nb_stack.proofs.stack.Stack.message.Goals as goal

pub returns : goal.returns
returns c =
    let P : Client → Type 0 = λ s. BringsIn s.address (frame_of c.args.frame) (message_brought c.message_in.result) in
    subst P c.self.view_is c.message_in.ensures

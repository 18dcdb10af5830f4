use Rattle.std.proofs.Common.{List, ℕ, ◌++◌, length, ◌∙◌, sym, ap, subst}
use Rattle.nb_stack.specs.Envelope.{message_of}
use Rattle.nb_stack.specs.Sizes.{IsFrameSize}
use Rattle.nb_stack.proofs.PutLaws.{message_17}
use Rattle.nb_stack.proofs.put.put_message.Goals as goal

pub returns-in-17-clause-put : goal.returns-in-17-clause-put
returns-in-17-clause-put c =
    let m = message_of c.args.envelope.now c.args.first.now c.args.second.now in
    c.put_datagram.ensures.put ∙ ap (λ (x : List ℕ). c.args.out.now.written ++ x) (sym (message_17 c.args.dst c.args.src c.args.from m c.in-17.is))

pub returns-in-17-clause-size : goal.returns-in-17-clause-size
returns-in-17-clause-size c =
    let m = message_of c.args.envelope.now c.args.first.now c.args.second.now in
    let P : List ℕ → Type 0 = λ x. IsFrameSize (length x) in
    subst P (sym (message_17 c.args.dst c.args.src c.args.from m c.in-17.is)) c.put_datagram.ensures.size

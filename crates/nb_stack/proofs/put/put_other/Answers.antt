use Rattle.std.proofs.Common.{List, ℕ, ◌++◌, length, ◌∙◌, sym, ap, subst, arith}
use Rattle.nb_stack.specs.Envelope.{message_of}
use Rattle.nb_stack.specs.Sizes.{IsFrameSize}
use Rattle.nb_stack.proofs.PutLaws.{message_1, message_6, carried_6}
use Rattle.nb_stack.proofs.put.put_other.Goals as goal

pub returns-in-1-clause-put : goal.returns-in-1-clause-put
returns-in-1-clause-put c =
    let m = message_of c.args.envelope.now c.args.first.now c.args.second.now in
    c.put_echo.ensures.put ∙ ap (λ (x : List ℕ). c.args.out.now.written ++ x) (sym (message_1 c.args.dst c.args.src c.args.from m c.in-1.is))

pub returns-in-1-clause-size : goal.returns-in-1-clause-size
returns-in-1-clause-size c =
    let m = message_of c.args.envelope.now c.args.first.now c.args.second.now in
    let P : List ℕ → Type 0 = λ x. IsFrameSize (length x) in
    subst P (sym (message_1 c.args.dst c.args.src c.args.from m c.in-1.is)) c.put_echo.ensures.size

pub returns-in_default-clause-put : goal.returns-in_default-clause-put
returns-in_default-clause-put c =
    let m = message_of c.args.envelope.now c.args.first.now c.args.second.now in
    let is = carried_6 c.args.envelope.now.proto c.args.first.now c.requires.carried c.requires.other (λ e. omega (arith, e)) in
    c.put_segment.ensures.put ∙ ap (λ (x : List ℕ). c.args.out.now.written ++ x) (sym (message_6 c.args.dst c.args.src c.args.from m is.0))

pub returns-in_default-clause-size : goal.returns-in_default-clause-size
returns-in_default-clause-size c =
    let m = message_of c.args.envelope.now c.args.first.now c.args.second.now in
    let is = carried_6 c.args.envelope.now.proto c.args.first.now c.requires.carried c.requires.other (λ e. omega (arith, e)) in
    let P : List ℕ → Type 0 = λ x. IsFrameSize (length x) in
    subst P (sym (message_6 c.args.dst c.args.src c.args.from m is.0)) c.put_segment.ensures.size

use Rattle.std.proofs.Common.{◌≡◌, ◌++◌, length, append-nil, sym, ap, subst, ◌∙◌}
use Rattle.nb_stack.specs.declared.route.Way.{Way}
use Rattle.nb_stack.specs.Client.{Client}
use Rattle.nb_stack.specs.Envelope.{message_of}
use Rattle.nb_stack.specs.Owns.{everyone}
use Rattle.nb_stack.specs.Sends.{fate_of, put_on, message_frame}
use Rattle.nb_stack.specs.Sizes.{IsFrameSize}
use Rattle.nb_stack.proofs.stack.Stack.send_parts.Goals as goal

pub returns-in-Nowhere-clause-fate : goal.returns-in-Nowhere-clause-fate
returns-in-Nowhere-clause-fate c = ap (λ (w : Way). fate_of c.args.self.now w) (c.in-Nowhere.ensures c.args.first.now c.args.second.now)

pub returns-in-Nowhere-clause-put : goal.returns-in-Nowhere-clause-put
returns-in-Nowhere-clause-put c =
    let m = message_of c.args.envelope.now c.args.first.now c.args.second.now in
    sym (append-nil _) ∙ ap (λ (w : Way). c.args.out.now.written ++ put_on c.args.self.now m w) (c.in-Nowhere.ensures c.args.first.now c.args.second.now)

pub returns-in-Everyone-clause-fate : goal.returns-in-Everyone-clause-fate
returns-in-Everyone-clause-fate c = ap (λ (w : Way). fate_of c.args.self.now w) (c.in-Everyone.ensures c.args.first.now c.args.second.now)

pub returns-in-Everyone-clause-put : goal.returns-in-Everyone-clause-put
returns-in-Everyone-clause-put c =
    let m = message_of c.args.envelope.now c.args.first.now c.args.second.now in
    let P : Client → Type 0 = λ s. c.put_message.new.out.written ≡ c.args.out.now.written ++ message_frame everyone s.mac (record { 0 = 0 }) m in
    subst P c.self.view_is c.put_message.ensures.put
    ∙ ap (λ (w : Way). c.args.out.now.written ++ put_on c.args.self.now m w) (c.in-Everyone.ensures c.args.first.now c.args.second.now)

pub returns-in-Everyone-clause-size : goal.returns-in-Everyone-clause-size
returns-in-Everyone-clause-size c = λ sent.
    let m = message_of c.args.envelope.now c.args.first.now c.args.second.now in
    let P : Client → Type 0 = λ s. IsFrameSize (length (message_frame everyone s.mac (record { 0 = 0 }) m)) in
    let Q : Way → Type 0 = λ w. IsFrameSize (length (put_on c.args.self.now m w)) in
    subst Q (c.in-Everyone.ensures c.args.first.now c.args.second.now) (subst P c.self.view_is c.put_message.ensures.size)

pub returns-in-Hop-clause-fate : goal.returns-in-Hop-clause-fate
returns-in-Hop-clause-fate c =
    c.send_by.ensures.fate ∙ ap (λ (w : Way). fate_of c.args.self.now w) (c.in-Hop.ensures c.args.first.now c.args.second.now)

pub returns-in-Hop-clause-put : goal.returns-in-Hop-clause-put
returns-in-Hop-clause-put c =
    let m = message_of c.args.envelope.now c.args.first.now c.args.second.now in
    c.send_by.ensures.put
    ∙ ap (λ (w : Way). c.args.out.now.written ++ put_on c.args.self.now m w) (c.in-Hop.ensures c.args.first.now c.args.second.now)

pub returns-in-Hop-clause-size : goal.returns-in-Hop-clause-size
returns-in-Hop-clause-size c = λ sent.
    let m = message_of c.args.envelope.now c.args.first.now c.args.second.now in
    let Q : Way → Type 0 = λ w. IsFrameSize (length (put_on c.args.self.now m w)) in
    subst Q (c.in-Hop.ensures c.args.first.now c.args.second.now) c.send_by.ensures.size

use Rattle.std.proofs.Common.{◌≡◌, Some, [], sym, ap, subst}
use Rattle.nb_wire.specs.declared.address.Mac.{Mac}
use Rattle.nb_stack.specs.Acks.{GoesBetween}
use Rattle.nb_stack.specs.Client.{Client}
use Rattle.nb_stack.specs.Envelope.{message_of}
use Rattle.nb_stack.specs.Near.{mac_of}
use Rattle.nb_stack.proofs.AckLaws.{goes_by}
use Rattle.nb_stack.proofs.stack.Stack.ends.Goals as goal

pub returns : goal.returns
returns c = λ body.
    let client = c.args.self.now in
    let m = message_of c.args.envelope.now [] body in
    let from = c.in-Hop.from in
    let hop = c.in-Hop.hop in
    let dst = c.in_ok-dst.dst in
    let M : Client → Type 0 = λ s. Some dst ≡ mac_of hop s.near in
    let S : Mac → Type 0 = λ mac. GoesBetween client m (record { dst = dst; src = mac; from = from; to = c.args.envelope.now.to }) in
    subst S (sym (ap (λ (s : Client). s.mac) c.self.view_is)) (goes_by client m from hop dst (c.in-Hop.ensures [] body) (subst M c.self.view_is c.in_ok-dst.ensures))

use Rattle.std.proofs.Common.{arith, ◌<◌, length}
use Rattle.std.proofs.lemmas.Bool.Decides.{nat_tests}
use Rattle.nb_boot.proofs.PeerLemmas.{cut, uncut}
use Rattle.nb_boot.proofs.words.is_peer.Goals as goal

pub returns-then-not-is_empty : goal.returns-then-not-is_empty
returns-then-not-is_empty c =
    let found = c.in-Some.ensures.cases in
    let peer = cut c.args.text.now c.in-Some.host.now c.in-Some.port.now found.0 found.1 found.2 found.3 found.4 in
    let some : 0 < length c.in-Some.host.now = grind (arith, nat_tests, c.is_empty.ensures, c.if-not-is_empty.true) in
    (λ h. peer.1 (some, c.is_port.ensures.0 h), λ is. c.is_port.ensures.1 (peer.0 is).1)

pub returns-else-not-is_empty : goal.returns-else-not-is_empty
returns-else-not-is_empty c =
    let found = c.in-Some.ensures.cases in
    let peer = cut c.args.text.now c.in-Some.host.now c.in-Some.port.now found.0 found.1 found.2 found.3 found.4 in
    let none : 0 < length c.in-Some.host.now → ⊥ = grind (arith, nat_tests, c.is_empty.ensures, c.if-not-is_empty.false) in
    (λ h. absurd (grind (arith, h, c.if-not-is_empty.false)), λ is. absurd (none (peer.0 is).0))

pub returns-in-None : goal.returns-in-None
returns-in-None c = (λ h. absurd (cc h), λ is. absurd (uncut c.args.text.now c.in-None.ensures.cases is))

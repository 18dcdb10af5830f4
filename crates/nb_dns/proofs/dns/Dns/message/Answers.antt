use Rattle.std.proofs.Common.{subst, sym}
use Rattle.nb_dns.specs.declared.state.State.{State}
use Rattle.nb_dns.specs.LookupCalls.{dns_datagram}
use Rattle.nb_dns.specs.LookupStands.{LookupStands}
use Rattle.nb_dns.proofs.StandsLemmas.{datagram_stands, datagram_over}
use Rattle.nb_dns.proofs.SimpleLemmas.{datagram_simple}
use Rattle.nb_dns.proofs.dns.Dns.message.Goals as goal

pub returns-clause-stands : goal.returns-clause-stands
returns-clause-stands c = λ l start h stands going.
    datagram_stands l start c.self.inside.state c.datagram.new.self h (dns_datagram c.args.rec c.args.src c.args.body.now) c.args.now c.datagram.new.acts c.datagram.ensures
    (subst (λ (x : State). LookupStands l start x h) (sym c.self.view_is) stands) going

pub returns-clause-ended : goal.returns-clause-ended
returns-clause-ended c = λ l start h stands ended.
    datagram_over l start c.self.inside.state c.datagram.new.self h (dns_datagram c.args.rec c.args.src c.args.body.now) c.datagram.new.acts c.datagram.ensures
    (subst (λ (x : State). LookupStands l start x h) (sym c.self.view_is) stands) ended

pub returns-clause-simple : goal.returns-clause-simple
returns-clause-simple c =
    datagram_simple c.self.inside.state c.datagram.new.self (dns_datagram c.args.rec c.args.src c.args.body.now) c.datagram.new.acts c.datagram.ensures

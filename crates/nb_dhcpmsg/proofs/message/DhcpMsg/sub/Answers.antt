use Rattle.std.proofs.Common.{sym, arith}
use Rattle.nb_dhcpmsg.proofs.MessageLemmas.{short_none}
use Rattle.nb_dhcpmsg.proofs.StreamLemmas.{nothing_inner}
use Rattle.nb_dhcpmsg.proofs.message.DhcpMsg.sub.Goals as goal

pub returns-then-self-lt-OPTIONS-clause-found : goal.returns-then-self-lt-OPTIONS-clause-found
returns-then-self-lt-OPTIONS-clause-found c = λ os h.
    sym (nothing_inner c.args.tag c.args.inner os (short_none c.args.self.now.whole.now os (omega (arith, c.if-self-lt-OPTIONS.true)) h))

use Rattle.std.proofs.Common.{sym, ap, arith}
use Rattle.nb_dhcpmsg.specs.Messages.{is_value}
use Rattle.nb_dhcpmsg.proofs.MessageLemmas.{short_none}
use Rattle.nb_dhcpmsg.proofs.message.DhcpMsg.value.Goals as goal

pub returns-then-self-lt-OPTIONS-clause-found : goal.returns-then-self-lt-OPTIONS-clause-found
returns-then-self-lt-OPTIONS-clause-found c = λ os h. sym (ap (is_value c.args.tag) (short_none c.args.self.now.whole.now os (omega (arith, c.if-self-lt-OPTIONS.true)) h))

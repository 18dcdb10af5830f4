use Rattle.std.proofs.Common.{sym, ap, arith}
use Rattle.nb_dhcpmsg.specs.Options.{joined}
use Rattle.nb_dhcpmsg.specs.Fields.{address_in}
use Rattle.nb_dhcpmsg.proofs.MessageLemmas.{short_none}
use Rattle.nb_dhcpmsg.proofs.message.DhcpMsg.address.Goals as goal

pub returns-then-self-lt-OPTIONS : goal.returns-then-self-lt-OPTIONS
returns-then-self-lt-OPTIONS c = λ os h.
    sym (ap (λ os. address_in (joined c.args.tag os)) (short_none c.args.self.now.whole.now os (omega (arith, c.if-self-lt-OPTIONS.true)) h))

use Rattle.std.proofs.Common.{sym}
use Rattle.nb_dns.proofs.WrittenLemmas.{name_passes, name_fails}
use Rattle.nb_dns.proofs.written.is_name.Goals as goal

pub returns-in-Some : goal.returns-in-Some
returns-in-Some c = sym (name_passes c.args.text.now c.in-Some.ensures.0)

pub returns-in-None : goal.returns-in-None
returns-in-None c = sym (name_fails c.args.text.now c.in-None.ensures)

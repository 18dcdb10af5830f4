use Rattle.std.proofs.Common.{◌∙◌}
use Rattle.nb_ledger.proofs.PortLemmas.{live_by}
use Rattle.nb_ledger.proofs.book.Book.plug.Goals as goal

pub set_port-requires-clause-lives : goal.set_port-requires-clause-lives
set_port-requires-clause-lives g c = (live_by c.args.self.now c.args.upper.obj.0 c.args.upper.slot _ tt c.requires.upper_open).0

pub set_port-requires-clause-slot : goal.set_port-requires-clause-slot
set_port-requires-clause-slot g c = (live_by c.args.self.now c.args.upper.obj.0 c.args.upper.slot _ tt c.requires.upper_open).1

pub set_port-requires-2-clause-lives : goal.set_port-requires-2-clause-lives
set_port-requires-2-clause-lives g c =
    c.set_port.ensures.sets.objects.same_live c.args.lower.obj.0 ∙ (live_by c.args.self.now c.args.lower.obj.0 c.args.lower.slot _ tt c.requires.lower_open).0

pub returns-clause-made : goal.returns-clause-made
returns-clause-made g c = let low = c.set_port-2.ensures.made in (c.set_port.ensures.made, rw c.set_port.ensures.sets.objects.same_made at low)

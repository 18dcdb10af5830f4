use Rattle.std.proofs.Common.{◌∙◌}
use Rattle.nb_ledger.proofs.PortLemmas.{live_by}
use Rattle.nb_ledger.proofs.book.Book.unplug.Goals as goal

pub set_port-requires-clause-lives : goal.set_port-requires-clause-lives
set_port-requires-clause-lives g c = (live_by c.args.self.now c.args.first.obj.0 c.args.first.slot _ tt c.requires.first).0

pub set_port-requires-clause-slot : goal.set_port-requires-clause-slot
set_port-requires-clause-slot g c = (live_by c.args.self.now c.args.first.obj.0 c.args.first.slot _ tt c.requires.first).1

pub set_port-requires-2-clause-lives : goal.set_port-requires-2-clause-lives
set_port-requires-2-clause-lives g c =
    c.set_port.ensures.sets.objects.same_live c.args.other.obj.0 ∙ (live_by c.args.self.now c.args.other.obj.0 c.args.other.slot _ tt c.requires.other).0

pub set_port-requires-2-clause-slot : goal.set_port-requires-2-clause-slot
set_port-requires-2-clause-slot g c = (live_by c.args.self.now c.args.other.obj.0 c.args.other.slot _ tt c.requires.other).1

use Rattle.nb_ledger.proofs.PlaceLemmas.{some-slots}
use Rattle.nb_ledger.proofs.book.Book.find.Goals as goal

pub returns-clause-slots : goal.returns-clause-slots
returns-clause-slots c =
    some-slots 0 c.self.inside.made c.self.inside.objects.items c.args.id.0 c.find_among.result c.self.invariant.0 (rw c.deref.ensures.value at c.find_among.ensures)

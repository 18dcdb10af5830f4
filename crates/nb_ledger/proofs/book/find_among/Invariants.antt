use Rattle.std.proofs.Common.{◌≡◌, drop}
use Rattle.nb_ledger.specs.Ledger.{found}
use Rattle.nb_ledger.proofs.book.find_among.Given as goal

abbrev pub invariant-loop-object : goal.invariant-loop-object
invariant-loop-object l = found l.objects l.id.0 ≡ found (drop l.object-index l.objects) l.id.0

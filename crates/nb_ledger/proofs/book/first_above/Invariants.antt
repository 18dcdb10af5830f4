use Rattle.std.proofs.Common.{◌≡◌, drop}
use Rattle.nb_ledger.specs.Ledger.{least_above}
use Rattle.nb_ledger.proofs.book.first_above.Given as goal

abbrev pub invariant-loop-object : goal.invariant-loop-object
invariant-loop-object l = least_above l.objects l.after ≡ least_above (drop l.object-index l.objects) l.after

use Rattle.std.proofs.Common.{◌≡◌, ◌+◌, drop}
use Rattle.nb_ledger.specs.Ledger.{place_in}
use Rattle.nb_ledger.proofs.book.place_among.Given as goal

abbrev pub invariant-loop-at : goal.invariant-loop-at
invariant-loop-at l = place_in l.objects l.id.0 ≡ l.at + place_in (drop l.at l.objects) l.id.0

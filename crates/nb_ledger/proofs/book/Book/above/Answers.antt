use Rattle.std.proofs.Common.{ap, is_some, arith}
use Rattle.nb_ledger.specs.Ledger.{object_lives}
use Rattle.nb_ledger.proofs.PlaceLemmas.{least-none, least-some, found-below}
use Rattle.nb_ledger.proofs.book.Book.above.Goals as goal

pub returns-clause-none : goal.returns-clause-none
unfolding object_lives
returns-clause-none c =
    rw (← c.self.view_is, c.first_above.ensures, c.deref.ensures.value) (least-none c.self.inside.objects.items c.args.after)

pub returns-clause-some : goal.returns-clause-some
unfolding object_lives
returns-clause-some c =
    rw (← c.self.view_is, c.first_above.ensures, c.deref.ensures.value) (least-some 0 c.self.inside.made c.self.inside.objects.items c.args.after c.self.invariant.0)

pub returns-clause-first : goal.returns-clause-first
unfolding object_lives
returns-clause-first c =
    rw (← c.self.view_is) (ap is_some (found-below 0 c.self.inside.made c.self.inside.objects.items 0 c.self.invariant.0 (omega arith)))

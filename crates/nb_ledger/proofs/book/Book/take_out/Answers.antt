use Rattle.std.proofs.Common.{arith}
use Rattle.nb_ledger.proofs.PlaceLemmas.{IsRising-remove}
use Rattle.nb_ledger.proofs.StandLemmas.{stands-in}
use Rattle.nb_ledger.proofs.ChangeLemmas.{Removes-remove}
use Rattle.nb_ledger.proofs.book.Book.take_out.Goals as goal

pub remove-gone-requires : goal.remove-gone-requires
remove-gone-requires c =
    let s = stands-in _ _ c.args.id.0 c.self.view_is c.requires in
    rw (c.place-at.ensures, ← c.self.view_is) (omega (arith, s, c.self.inside.objects.ok.0))

pub invariant_of-self : goal.invariant_of-self
invariant_of-self c =
    let s = stands-in _ _ c.args.id.0 c.self.view_is c.requires in
    (rw (c.remove-gone.ensures.items, c.place-at.ensures, ← c.self.view_is) (IsRising-remove 0 _ _ _ c.self.invariant.0 s), omega arith, omega arith)

pub returns-clause-removes : goal.returns-clause-removes
returns-clause-removes c =
    let s = stands-in _ _ c.args.id.0 c.self.view_is c.requires in
    rw (c.remove-gone.ensures.items, c.place-at.ensures, ← c.self.view_is) (Removes-remove _ c.args.id.0 c.self.invariant.0 s)

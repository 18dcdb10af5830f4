use Rattle.std.proofs.Common.{is_some, ◌+◌, arith, ap, refl}
use Rattle.nb_ledger.specs.Ledger.{object_lives}
use Rattle.nb_ledger.proofs.PlaceLemmas.{IsRising-push, found-above, place-push}
use Rattle.nb_ledger.proofs.ChangeLemmas.{Adds-push}
use Rattle.nb_ledger.proofs.book.Book.add.Goals as goal

pub invariant_of-self : goal.invariant_of-self
invariant_of-self c =
    let r = c.requires.room in
    let i = c.self.invariant in
    (rw c.push_last.ensures.items (IsRising-push 0 _ _ _ i.0 (omega arith) refl), omega (arith, rw (← c.self.view_is) at r, c.push_last.ensures.len, c.self.inside.objects.ok.0), omega arith)

pub returns-clause-fresh : goal.returns-clause-fresh
unfolding object_lives
returns-clause-fresh c =
    let none = found-above 0 _ _ (c.self.inside.made + 1) c.self.invariant.0 (omega arith) in
    rw (← c.self.view_is) (ap is_some none)

pub returns-clause-adds : goal.returns-clause-adds
returns-clause-adds c =
    let none = found-above 0 _ _ (c.self.inside.made + 1) c.self.invariant.0 (omega arith) in
    rw (← c.self.view_is, c.push_last.ensures.items) (Adds-push _ _ none refl refl refl)

pub returns-clause-place : goal.returns-clause-place
returns-clause-place c =
    let none = found-above 0 _ _ (c.self.inside.made + 1) c.self.invariant.0 (omega arith) in
    rw (← c.self.view_is, c.push_last.ensures.items) (place-push c.self.inside.objects.items _ none)

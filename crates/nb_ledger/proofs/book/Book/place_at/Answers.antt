use Rattle.std.proofs.Common.{sym, refl}
use Rattle.nb_ledger.proofs.StandLemmas.{some-place}
use Rattle.nb_ledger.proofs.book.Book.place_at.Goals as goal

pub returns-then-stands_at : goal.returns-then-stands_at
returns-then-stands_at c =
    let h = rw c.deref.ensures.value at c.if-stands_at.ensures in
    rw (← c.self.view_is) (sym (some-place 0 c.self.inside.made c.self.inside.objects.items c.args.key c.args.id.0 _ c.self.invariant.0 refl h.0 h.1))

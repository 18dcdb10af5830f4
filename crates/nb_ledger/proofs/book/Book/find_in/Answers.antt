use Rattle.std.proofs.Common.{◌≡◌, ◌∙◌, slice_get}
use Rattle.std.specs.Option.{option_copied}
use Rattle.nb_ledger.specs.Ledger.{found}
use Rattle.nb_ledger.proofs.PlaceLemmas.{some-slots}
use Rattle.nb_ledger.proofs.StandLemmas.{get-place}
use Rattle.nb_ledger.proofs.book.Book.find_in.Goals as goal

pub returns-clause-is : goal.returns-clause-is
returns-clause-is c =
    let e : option_copied c.object_at.result ≡ slice_get c.deref.result.now c.args.index = c.object_at.ensures in
    e ∙ rw (c.deref.ensures.value, c.requires, ← c.self.view_is) (get-place c.self.inside.objects.items c.args.id.0)

pub returns-clause-slots : goal.returns-clause-slots
returns-clause-slots c =
    let e : option_copied c.object_at.result ≡ slice_get c.deref.result.now c.args.index = c.object_at.ensures in
    let is : slice_get c.deref.result.now c.args.index ≡ found c.self.inside.objects.items c.args.id.0 = rw (c.deref.ensures.value, c.requires, ← c.self.view_is) (get-place c.self.inside.objects.items c.args.id.0) in
    some-slots 0 c.self.inside.made c.self.inside.objects.items c.args.id.0 c.object_at.result c.self.invariant.0 (e ∙ is)

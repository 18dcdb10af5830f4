use Rattle.std.proofs.Common.{◌≡◌, arith, refl, subst, set}
use Rattle.nb_ledger.specs.Ledger.{IsRising, Ledger, place_in}
use Rattle.nb_ledger.specs.Changes.{SetsHolds}
use Rattle.nb_ledger.proofs.PlaceLemmas.{IsRising_set, found-slots}
use Rattle.nb_ledger.proofs.StandLemmas.{found-at, own-place, stands-in}
use Rattle.nb_ledger.proofs.ChangeLemmas.{SetsHolds-put}
use Rattle.nb_ledger.proofs.book.Book.set_holds.Goals as goal

pub index_mut-requires : goal.index_mut-requires
index_mut-requires c =
    let s = stands-in _ _ c.args.id.0 c.self.view_is c.requires in
    rw (c.place-place.ensures, ← c.self.view_is) (omega (arith, s, c.self.inside.objects.ok.0))

pub invariant_of-self : goal.invariant_of-self
invariant_of-self c =
    let s = stands-in _ _ c.args.id.0 c.self.view_is c.requires in
    let os = c.self.inside.objects.items in
    let o = c.index_mut.result.now in
    let e : c.place-place.result ≡ place_in os c.args.id.0 = rw (c.place-place.ensures, ← c.self.view_is) refl in
    let f = found-at os c.args.id.0 c.place-place.result o e s c.index_mut.ensures.value in
    let own = own-place os c.args.id.0 c.place-place.result o e f in
    let slots = found-slots 0 c.self.inside.made os c.args.id.0 o c.self.invariant.0 f in
    (subst (λ i. IsRising 0 (set os i (record o { holds = c.args.count })) c.self.inside.made) own (IsRising_set 0 c.self.inside.made os (record o { holds = c.args.count }) (rw own (rw e s)) slots c.self.invariant.0), c.self.invariant.1, c.self.invariant.2)

pub returns : goal.returns
returns c =
    let s = stands-in _ _ c.args.id.0 c.self.view_is c.requires in
    let os = c.self.inside.objects.items in
    let o = c.index_mut.result.now in
    let l : Ledger = record { made = c.self.inside.made; room = c.self.inside.room; objects = os } in
    let e : c.place-place.result ≡ place_in os c.args.id.0 = rw (c.place-place.ensures, ← c.self.view_is) refl in
    let f = found-at os c.args.id.0 c.place-place.result o e s c.index_mut.ensures.value in
    let own = own-place os c.args.id.0 c.place-place.result o e f in
    rw (← c.self.view_is) (subst (λ i. SetsHolds l (record l { objects = set os i (record o { holds = c.args.count }) }) c.args.id.0 c.args.count) own (SetsHolds-put l o c.args.id.0 c.args.count f))

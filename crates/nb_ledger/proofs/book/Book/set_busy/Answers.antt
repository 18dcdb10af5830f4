use Rattle.std.proofs.Common.{◌≡◌, arith, ap, refl, sym, subst, false, set}
use Rattle.std.specs.Option.{option_map_or}
use Rattle.nb_ledger.specs.Ledger.{IsRising, Ledger, busy, place_in}
use Rattle.nb_ledger.specs.Changes.{SetsBusy}
use Rattle.nb_ledger.proofs.PlaceLemmas.{IsRising_set, found-slots}
use Rattle.nb_ledger.proofs.StandLemmas.{found-at, own-place, stands-in}
use Rattle.nb_ledger.proofs.ChangeLemmas.{SetsBusy-put}
use Rattle.nb_ledger.proofs.book.Book.set_busy.Goals as goal

pub index-requires : goal.index-requires
index-requires c =
    let s = stands-in _ _ c.args.id.0 c.self.view_is c.requires.lives in
    rw (c.requires.place, ← c.self.view_is) (omega (arith, s, c.self.inside.objects.ok.0))

pub index_mut-requires : goal.index_mut-requires
index_mut-requires c =
    let s = stands-in _ _ c.args.id.0 c.self.view_is c.requires.lives in
    rw (c.requires.place, ← c.self.view_is) (omega (arith, s, c.self.inside.objects.ok.0))

pub invariant_of-self : goal.invariant_of-self
invariant_of-self c =
    let s = stands-in _ _ c.args.id.0 c.self.view_is c.requires.lives in
    let os = c.self.inside.objects.items in
    let o = c.index_mut.result.now in
    let e : c.args.index ≡ place_in os c.args.id.0 = rw (c.requires.place, ← c.self.view_is) refl in
    let f = found-at os c.args.id.0 c.args.index o e s c.index_mut.ensures.value in
    let own = own-place os c.args.id.0 c.args.index o e f in
    let slots = found-slots 0 c.self.inside.made os c.args.id.0 o c.self.invariant.0 f in
    (subst (λ i. IsRising 0 (set os i (record o { busy = c.args.runs })) c.self.inside.made) own (IsRising_set 0 c.self.inside.made os (record o { busy = c.args.runs }) (rw own (rw e s)) slots c.self.invariant.0), c.self.invariant.1, c.self.invariant.2)

pub returns-clause-was : goal.returns-clause-was
unfolding busy
returns-clause-was c =
    let s = stands-in _ _ c.args.id.0 c.self.view_is c.requires.lives in
    let os = c.self.inside.objects.items in
    let e : c.args.index ≡ place_in os c.args.id.0 = rw (c.requires.place, ← c.self.view_is) refl in
    let f = found-at os c.args.id.0 c.args.index c.index.result.now e s c.index.ensures in
    rw (← c.self.view_is) (sym (ap (λ z. option_map_or (λ w. w.busy) z false) f))

pub returns-clause-sets : goal.returns-clause-sets
returns-clause-sets c =
    let s = stands-in _ _ c.args.id.0 c.self.view_is c.requires.lives in
    let os = c.self.inside.objects.items in
    let o = c.index_mut.result.now in
    let l : Ledger = record { made = c.self.inside.made; room = c.self.inside.room; objects = os } in
    let e : c.args.index ≡ place_in os c.args.id.0 = rw (c.requires.place, ← c.self.view_is) refl in
    let f = found-at os c.args.id.0 c.args.index o e s c.index_mut.ensures.value in
    let own = own-place os c.args.id.0 c.args.index o e f in
    rw (← c.self.view_is) (subst (λ i. SetsBusy l (record l { objects = set os i (record o { busy = c.args.runs }) }) c.args.id.0 c.args.runs) own (SetsBusy-put l o c.args.id.0 c.args.runs f))

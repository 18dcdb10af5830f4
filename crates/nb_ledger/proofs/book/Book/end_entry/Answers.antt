use Rattle.std.proofs.Common.{◌≡◌, ◌∙◌, arith, refl, subst, set}
use Rattle.nb_ledger.specs.declared.object.Object.{Object}
use Rattle.nb_ledger.specs.Ledger.{IsRising, Ledger, object_unused, place_in, unused}
use Rattle.nb_ledger.specs.Changes.{SetsBusy}
use Rattle.nb_ledger.proofs.PlaceLemmas.{IsRising_set, found-slots}
use Rattle.nb_ledger.proofs.StandLemmas.{found-at, own-place, stands-in}
use Rattle.nb_ledger.proofs.ChangeLemmas.{SetsBusy-put, put-unused}
use Rattle.nb_ledger.proofs.book.Book.end_entry.Goals as goal

pub index_mut-object-requires : goal.index_mut-object-requires
index_mut-object-requires c =
    let s = stands-in _ _ c.args.id.0 c.self.view_is c.requires.lives in
    rw (c.requires.place, ← c.self.view_is) (omega (arith, s, c.self.inside.objects.ok.0))

pub is_unused-requires : goal.is_unused-requires
is_unused-requires c =
    let s = stands-in _ _ c.args.id.0 c.self.view_is c.requires.lives in
    let os = c.self.inside.objects.items in
    let o = c.index_mut-object.result.now in
    let e : c.args.index ≡ place_in os c.args.id.0 = rw (c.requires.place, ← c.self.view_is) refl in
    found-slots 0 c.self.inside.made os c.args.id.0 o c.self.invariant.0 (found-at os c.args.id.0 c.args.index o e s c.index_mut-object.ensures.value)

pub invariant_of-self : goal.invariant_of-self
invariant_of-self c =
    let s = stands-in _ _ c.args.id.0 c.self.view_is c.requires.lives in
    let os = c.self.inside.objects.items in
    let o = c.index_mut-object.result.now in
    let e : c.args.index ≡ place_in os c.args.id.0 = rw (c.requires.place, ← c.self.view_is) refl in
    let f = found-at os c.args.id.0 c.args.index o e s c.index_mut-object.ensures.value in
    let own = own-place os c.args.id.0 c.args.index o e f in
    let slots = found-slots 0 c.self.inside.made os c.args.id.0 o c.self.invariant.0 f in
    (subst (λ i. IsRising 0 (set os i (record o { busy = c.args.runs })) c.self.inside.made) own (IsRising_set 0 c.self.inside.made os (record o { busy = c.args.runs }) (rw own (rw e s)) slots c.self.invariant.0), c.self.invariant.1, c.self.invariant.2)

pub returns-clause-sets : goal.returns-clause-sets
returns-clause-sets c =
    let s = stands-in _ _ c.args.id.0 c.self.view_is c.requires.lives in
    let os = c.self.inside.objects.items in
    let o = c.index_mut-object.result.now in
    let l : Ledger = record { made = c.self.inside.made; room = c.self.inside.room; objects = os } in
    let e : c.args.index ≡ place_in os c.args.id.0 = rw (c.requires.place, ← c.self.view_is) refl in
    let f = found-at os c.args.id.0 c.args.index o e s c.index_mut-object.ensures.value in
    let own = own-place os c.args.id.0 c.args.index o e f in
    rw (← c.self.view_is) (subst (λ i. SetsBusy l (record l { objects = set os i (record o { busy = c.args.runs }) }) c.args.id.0 c.args.runs) own (SetsBusy-put l o c.args.id.0 c.args.runs f))

pub returns-clause-unused : goal.returns-clause-unused
returns-clause-unused c =
    let s = stands-in _ _ c.args.id.0 c.self.view_is c.requires.lives in
    let os = c.self.inside.objects.items in
    let o = c.index_mut-object.result.now in
    let l : Ledger = record { made = c.self.inside.made; room = c.self.inside.room; objects = os } in
    let v : Object = record o { busy = c.args.runs } in
    let e : c.args.index ≡ place_in os c.args.id.0 = rw (c.requires.place, ← c.self.view_is) refl in
    let f = found-at os c.args.id.0 c.args.index o e s c.index_mut-object.ensures.value in
    let own = own-place os c.args.id.0 c.args.index o e f in
    c.is_unused.ensures ∙ subst (λ i. object_unused v ≡ unused (record l { objects = set os i v }) c.args.id.0) own (put-unused l o c.args.id.0 c.args.runs f)

use Rattle.std.proofs.Common.{◌≡◌, ◌∙◌, arith, refl, subst, sym, set, true}
use Rattle.std.proofs.lemmas.List.{length-set}
use Rattle.nb_ledger.specs.Ledger.{IsRising, Ledger, object_lives, place_in}
use Rattle.nb_ledger.specs.Changes.{SetsPort}
use Rattle.nb_ledger.proofs.PlaceLemmas.{IsRising_set, found-slots, live-made}
use Rattle.nb_ledger.proofs.StandLemmas.{found-at, own-place, stands-in}
use Rattle.nb_ledger.proofs.ChangeLemmas.{SetsPort-put}
use Rattle.nb_ledger.proofs.book.Book.set_port.Goals as goal

pub index_mut-requires : goal.index_mut-requires
index_mut-requires c =
    let s = stands-in _ _ c.args.at.obj.0 c.self.view_is c.requires.lives in
    rw (c.place-place.ensures, ← c.self.view_is) (omega (arith, s, c.self.inside.objects.ok.0))

pub invariant_of-self : goal.invariant_of-self
invariant_of-self c =
    let x = c.args.at.obj.0 in
    let s = stands-in _ _ x c.self.view_is c.requires.lives in
    let os = c.self.inside.objects.items in
    let o = c.index_mut.result.now in
    let e : c.place-place.result ≡ place_in os x = rw (c.place-place.ensures, ← c.self.view_is) refl in
    let f = found-at os x c.place-place.result o e s c.index_mut.ensures.value in
    let own = own-place os x c.place-place.result o e f in
    let slots = length-set o.ports c.args.at.slot c.args.state ∙ found-slots 0 c.self.inside.made os x o c.self.invariant.0 f in
    (subst (λ i. IsRising 0 (set os i (record o { ports = set o.ports c.args.at.slot c.args.state })) c.self.inside.made) own (IsRising_set 0 c.self.inside.made os (record o { ports = set o.ports c.args.at.slot c.args.state }) (rw own (rw e s)) slots c.self.invariant.0), c.self.invariant.1, c.self.invariant.2)

pub returns-clause-sets : goal.returns-clause-sets
returns-clause-sets c =
    let x = c.args.at.obj.0 in
    let s = stands-in _ _ x c.self.view_is c.requires.lives in
    let os = c.self.inside.objects.items in
    let o = c.index_mut.result.now in
    let l : Ledger = record { made = c.self.inside.made; room = c.self.inside.room; objects = os } in
    let e : c.place-place.result ≡ place_in os x = rw (c.place-place.ensures, ← c.self.view_is) refl in
    let f = found-at os x c.place-place.result o e s c.index_mut.ensures.value in
    let own = own-place os x c.place-place.result o e f in
    let slots = found-slots 0 c.self.inside.made os x o c.self.invariant.0 f in
    rw (← c.self.view_is) (subst (λ i. SetsPort l (record l { objects = set os i (record o { ports = set o.ports c.args.at.slot c.args.state }) }) c.args.at c.args.state) own (SetsPort-put l o c.args.at c.args.state f c.requires.slot (omega (arith, slots, c.requires.slot))))

pub returns-clause-made : goal.returns-clause-made
returns-clause-made c =
    let lives = subst (λ l. object_lives l c.args.at.obj.0 ≡ true) (sym c.self.view_is) c.requires.lives in
    rw (← c.self.view_is) (live-made (record { made = c.self.inside.made; room = c.self.inside.room; objects = c.self.inside.objects.items }) c.args.at.obj.0 c.self.invariant.0 lives)

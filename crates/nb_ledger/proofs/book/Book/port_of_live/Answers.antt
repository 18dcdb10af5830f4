use Rattle.std.proofs.Common.{◌≡◌, ◌∙◌, arith, ap, refl, sym}
use Rattle.std.specs.Option.{option_map_or}
use Rattle.nb_ledger.specs.declared.port.PortState.TheVariants.{Closed}
use Rattle.nb_ledger.specs.Ledger.{object_port, place_in, port}
use Rattle.nb_ledger.proofs.PlaceLemmas.{found-slots}
use Rattle.nb_ledger.proofs.StandLemmas.{found-at, stands-in}
use Rattle.nb_ledger.proofs.book.Book.port_of_live.Goals as goal

pub index-requires : goal.index-requires
index-requires c =
    let s = stands-in _ _ c.args.at.obj.0 c.self.view_is c.requires.lives in
    rw (c.requires.place, ← c.self.view_is) (omega (arith, s, c.self.inside.objects.ok.0))

pub port_below_four-requires : goal.port_below_four-requires
port_below_four-requires c =
    let s = stands-in _ _ c.args.at.obj.0 c.self.view_is c.requires.lives in
    let os = c.self.inside.objects.items in
    let e : c.args.index ≡ place_in os c.args.at.obj.0 = rw (c.requires.place, ← c.self.view_is) refl in
    record { ports = found-slots 0 c.self.inside.made os c.args.at.obj.0 c.index.result.now c.self.invariant.0 (found-at os c.args.at.obj.0 c.args.index c.index.result.now e s c.index.ensures); slot = c.requires.slot }

pub returns : goal.returns
unfolding port
returns c =
    let s = stands-in _ _ c.args.at.obj.0 c.self.view_is c.requires.lives in
    let os = c.self.inside.objects.items in
    let e : c.args.index ≡ place_in os c.args.at.obj.0 = rw (c.requires.place, ← c.self.view_is) refl in
    let f = found-at os c.args.at.obj.0 c.args.index c.index.result.now e s c.index.ensures in
    rw (← c.self.view_is) (c.port_below_four.ensures ∙ sym (ap (λ z. option_map_or (object_port c.args.at.slot) z Closed) f))

use Rattle.std.proofs.Common.{◌≡◌, sym, subst, refl, None}
use Rattle.nb_conns.specs.ConnEffects.{boxed}
use Rattle.nb_conns.proofs.EffectLemmas.{effects_within, no_ups_for}
use Rattle.nb_effects.specs.declared.effects.Fx.{Fx}
use Rattle.nb_conns.specs.ConnEffects.{ConnWithin}
use Rattle.nb_conns.proofs.tcp.Tcp.carry_out.Goals as goal

pub returns-clause-within : goal.returns-clause-within
returns-clause-within g c = λ len. subst (λ (z : Fx g.row.N.Denot g.row.L.Denot). ConnWithin len z) (sym c.ask_close.ensures) (effects_within g.L.CarriesConn.carrier c.args.acts.value (boxed c.args.window) c.args.ends _ _ len c.requires.0.no_make c.ask_down.ensures c.ask_up.ensures refl)

pub returns-clause-ups : goal.returns-clause-ups
returns-clause-ups g c = λ w e. subst (λ (z : Fx g.row.N.Denot g.row.L.Denot). (z.ups.first ≡ None) × (z.ups.second ≡ None)) (sym c.ask_close.ensures) (no_ups_for g.L.CarriesConn.carrier (boxed c.args.window) c.args.ends c.ask_up.new.ups c.ask_up.ensures w e)

use Rattle.std.proofs.Common.{Some, ap, ◌∙◌}
use Rattle.nb_conns.proofs.EffectLemmas.{range_effects, range_within}
use Rattle.nb_conns.proofs.tcp.Tcp.pass_on.Goals as goal

pub returns-clause-effects : goal.returns-clause-effects
returns-clause-effects g c = λ m. range_effects g.L.CarriesConn.carrier m c.args.acts.value c.args.from c.args.to _ c.requires.0.no_make c.ask_down.ensures (c.put.ensures ∙ ap (λ z. Some z) c.range_up.ensures) c.requires.0.no_ups c.requires.1

pub returns-clause-within : goal.returns-clause-within
returns-clause-within g c = λ len order most. range_within g.L.CarriesConn.carrier c.args.acts.value c.args.from c.args.to len _ c.requires.0.no_make c.ask_down.ensures (c.put.ensures ∙ ap (λ z. Some z) c.range_up.ensures) c.requires.0.no_ups c.requires.1 order most

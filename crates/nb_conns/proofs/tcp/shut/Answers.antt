use Rattle.std.proofs.Common.{◌++◌, [], ◌∷◌, ap, ◌∙◌}
use Rattle.nb_graph.specs.Trace.{silence}
use Rattle.nb_conns.proofs.EffectLemmas.{downs_within, shut_effects}
use Rattle.nb_conns.proofs.TalkLemmas.{shut_on}
use Rattle.nb_conns.proofs.tcp.shut.Goals as goal

pub returns-clause-leads : goal.returns-clause-leads
returns-clause-leads g c = λ now.
    shut_on g.L.CarriesConn.carrier c.args.cause now _ c.shut.new.acts c.args.running c.shut.new.self
    (shut_effects g.L.CarriesConn.carrier silence c.shut.new.acts c.args.cause _ c.requires.0.no_make c.ask_down.ensures c.requires.0.no_up c.requires.0.no_ups (c.push.ensures.items ∙ ap (λ z. z ++ (1, c.args.cause) ∷ []) c.requires.1)) c.shut.ensures.stands

pub returns-clause-within : goal.returns-clause-within
returns-clause-within g c = λ len. downs_within g.L.CarriesConn.carrier c.shut.new.acts c.args.cause _ len c.requires.0.no_make c.ask_down.ensures c.requires.0.no_up c.requires.0.no_ups (c.push.ensures.items ∙ ap (λ z. z ++ (1, c.args.cause) ∷ []) c.requires.1)

use Rattle.std.proofs.Common.{ap, not, sym, ◌∙◌}
use Rattle.nb_graph.specs.Trace.{said}
use Rattle.nb_conns.proofs.DialogueLemmas.{rests_on, cuts_on, quiet_down}
use Rattle.nb_conns.proofs.tcp.Tcp.pass_down.Goals as goal

pub returns-then-not-asks-clause-leads : goal.returns-then-not-asks-clause-leads
returns-then-not-asks-clause-leads g c = rests_on g.L.CarriesConn.carrier _ _ (λ d at. quiet_down g.L.CarriesConn.carrier c.args.self.now.stage (said c.args.msg.now) c.args.now c.args.fx.now d (sym c.asks.ensures ∙ c.if-not-asks.true) at) c.requires

pub returns-in-Err-clause-leads : goal.returns-in-Err-clause-leads
returns-in-Err-clause-leads g c = cuts_on _ _ _ _ c.give_up.ensures.over (λ d at. ap not c.give_up.ensures.err) tt

use Rattle.std.proofs.Common.{ap, not, sym, ◌∙◌}
use Rattle.nb_graph.specs.Trace.{said}
use Rattle.nb_conns.proofs.DialogueLemmas.{rests_on, cuts_on, at_home, quiet_up}
use Rattle.nb_conns.proofs.tcp.Tcp.pass_in.Goals as goal

pub returns-then-not-takes-clause-leads : goal.returns-then-not-takes-clause-leads
returns-then-not-takes-clause-leads g c = at_home _ _ _ _ (rests_on g.L.CarriesConn.carrier _ _ (λ d at. quiet_up g.L.CarriesConn.carrier c.args.self.now.stage c.args.slot (said c.args.msg.now) c.args.now c.args.fx.now d (sym c.takes.ensures ∙ c.if-not-takes.true) at) (c.requires.blank.0, c.requires.blank.1, c.requires.took))

pub returns-in-Err-clause-leads : goal.returns-in-Err-clause-leads
returns-in-Err-clause-leads g c = at_home _ _ _ _ (cuts_on _ _ _ _ c.give_up.ensures.over (λ d at. ap not c.give_up.ensures.err) tt)

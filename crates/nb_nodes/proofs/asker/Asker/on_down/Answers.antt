use Rattle.std.proofs.Common.{ap, not, sym, ◌∙◌}
use Rattle.nb_graph.specs.Trace.{said}
use Rattle.nb_nodes.proofs.ExchangeLemmas.{fails_now, idles, idle_down, idle_down_begun, no_begin}
use Rattle.nb_nodes.proofs.asker.Asker.on_down.Goals as goal
use Rattle.nb_nodes.proofs.asker.Asker.on_down.Goals.{then-not-is_waiting-via-then-not-is_waiting, then-not-is_waiting-via-else-not-is_waiting+then-not-is_tag}

pub returns-in-Err-clause-leads : goal.returns-in-Err-clause-leads
returns-in-Err-clause-leads g c = fails_now g.C.Core.service _ _ _ g.met.C.Core.meets c.give_up.ensures.over (λ v. ap not c.give_up.ensures.err) tt

pub returns-then-not-is_waiting-clause-leads : goal.returns-then-not-is_waiting-clause-leads
returns-then-not-is_waiting-clause-leads g c =
    let s = g.C.Core.service in
    elim c.then-not-is_waiting.branch [
      | then-not-is_waiting-via-then-not-is_waiting w ↦ idles s _ _ (λ v at. idle_down_begun s c.args.self.now.stage (said c.args.msg.now) c.args.now c.args.fx.now v (sym c.is_waiting.ensures ∙ w.if-not-is_waiting.true) at) c.requires
      | then-not-is_waiting-via-else-not-is_waiting+then-not-is_tag w ↦ idles s _ _ (λ v at. idle_down s (said c.args.msg.now) c.args.now c.args.fx.now v (no_begin s (said c.args.msg.now) (sym w.is_tag.ensures ∙ w.if-not-is_tag.true))) c.requires
    ]

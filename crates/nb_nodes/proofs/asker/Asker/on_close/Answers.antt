use Rattle.std.proofs.Common.{sym, ◌∙◌, arith}
use Rattle.nb_nodes.proofs.TftpLemmas.{not_below_two, below_two}
use Rattle.nb_nodes.proofs.ExchangeLemmas.{idles, ends_now, idle_close, idle_close_over, fatal_close}
use Rattle.nb_nodes.proofs.asker.Asker.on_close.Goals as goal
use Rattle.nb_nodes.proofs.asker.Asker.on_close.Goals.{then-slot-gt-BELOW-via-then-slot-gt-BELOW, then-slot-gt-BELOW-via-else-slot-gt-BELOW+then-is_over}

pub returns-then-slot-gt-BELOW-clause-leads : goal.returns-then-slot-gt-BELOW-clause-leads
returns-then-slot-gt-BELOW-clause-leads g c =
    let s = g.C.Core.service in
    elim c.then-slot-gt-BELOW.branch [
      | then-slot-gt-BELOW-via-then-slot-gt-BELOW w ↦ λ now. idles s _ _ (λ v at. idle_close s c.args.slot c.args.cause.now now c.args.fx.now v (not_below_two c.args.slot (omega arith))) c.requires
      | then-slot-gt-BELOW-via-else-slot-gt-BELOW+then-is_over w ↦ λ now. idles s _ _ (λ v at. idle_close_over s c.args.self.now.stage c.args.slot c.args.cause.now now c.args.fx.now v (sym w.is_over.ensures ∙ w.if-is_over.true) at) c.requires
    ]

pub returns-clause-leads : goal.returns-clause-leads
returns-clause-leads g c = λ now.
    let s = g.C.Core.service in
    let fx = record c.args.fx.now { closes = c.push.new.self } in
    ends_now s _ _ g.met.C.Core.meets (λ v at. fatal_close s c.args.self.now.stage c.args.slot c.args.cause.now now fx v (sym c.is_over.ensures ∙ c.if-is_over.false) (below_two c.args.slot (omega arith)) at)
    (record { no_make = c.requires.0.no_make; no_down = c.requires.0.no_down; no_downs = c.requires.0.no_downs; no_up = c.requires.0.no_up; no_ups = c.requires.0.no_ups }, grind arith)

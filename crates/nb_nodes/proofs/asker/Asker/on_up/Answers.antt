use Rattle.std.proofs.Common.{◌∙◌, sym, ap, not, arith}
use Rattle.std.proofs.lemmas.Grind.{common_steps}
use Rattle.nb_graph.specs.Trace.{said}
use Rattle.nb_nodes.proofs.TftpLemmas.{took_all}
use Rattle.nb_nodes.proofs.ExchangeLemmas.{idles, idle_up, fails_now}
use Rattle.nb_nodes.proofs.asker.Asker.on_up.Goals as goal

pub returns-then-not-takes-clause-leads : goal.returns-then-not-takes-clause-leads
returns-then-not-takes-clause-leads g c =
    let s = g.C.Core.service in
    let fx = record c.args.fx.now { took = c.length_of-fx.result } in
    idles s _ _ (λ v at. idle_up s c.args.slot (said c.args.msg.now) c.args.now fx v (sym c.takes.ensures ∙ c.if-not-takes.true))
    ((record { no_make = c.requires.0.no_make; no_down = c.requires.0.no_down; no_downs = c.requires.0.no_downs; no_up = c.requires.0.no_up; no_ups = c.requires.0.no_ups }, c.requires.1), took_all c.args.msg.now c.length_of-fx.result c.length_of-fx.ensures)

pub returns-in-Err-clause-leads : goal.returns-in-Err-clause-leads
returns-in-Err-clause-leads g c = fails_now g.C.Core.service _ _ _ g.met.C.Core.meets c.give_up.ensures.over (λ v. ap not c.give_up.ensures.err) tt

pub returns-then-is_empty-clause-within : goal.returns-then-is_empty-clause-within
returns-then-is_empty-clause-within g c = c.receive.ensures.within _ (omega arith)

pub returns-in-Ok-clause-within : goal.returns-in-Ok-clause-within
returns-in-Ok-clause-within g c = c.receive-in-Ok.ensures.within _ (grind (arith, common_steps))

pub receive-requires-clause-taken : goal.receive-requires-clause-taken
receive-requires-clause-taken g c = (c.args.slot, sym c.takes.ensures ∙ c.if-not-takes.false)

pub receive-requires-in-Ok-clause-taken : goal.receive-requires-in-Ok-clause-taken
receive-requires-in-Ok-clause-taken g c = (c.args.slot, sym c.takes.ensures ∙ c.if-not-takes.false)

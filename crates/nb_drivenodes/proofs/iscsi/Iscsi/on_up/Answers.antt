use Rattle.std.proofs.Common.{ap, sym, ◌∙◌, refl, length-append, min}
use Rattle.nb_effects.specs.declared.effects.Fx.{Fx}
use Rattle.nb_graph.specs.Trace.{said}
use Rattle.nb_conns.proofs.DialogueLemmas.{nothing_said}
use Rattle.nb_drivenodes.proofs.SessionLemmas.{session-rests, quiet-up-session, session-stands-on}
use Rattle.nb_drivenodes.proofs.iscsi.Iscsi.on_up.Goals as goal

pub returns-then-takes-clause-stands : goal.returns-then-takes-clause-stands
returns-then-takes-clause-stands g c = λ t now s. session-stands-on g.L.CarriesText.texts c.args.self.now c.read.new.self t _ (c.read.ensures.leads c.args.slot now (sym c.takes.ensures ∙ c.if-takes.true)) s

pub returns-then-takes-2-clause-within : goal.returns-then-takes-2-clause-within
returns-then-takes-2-clause-within g c = c.finish.ensures.within _

pub returns-then-takes-2-clause-stands : goal.returns-then-takes-2-clause-stands
returns-then-takes-2-clause-stands g c = λ t now s. session-stands-on g.L.CarriesText.texts c.args.self.now c.finish.new.self t _ (c.finish.ensures.ended (said c.args.msg.now) c.args.slot now (sym c.takes-2.ensures ∙ c.if-takes-2.true) refl (c.all_of-fx.ensures ∙ ap (λ z. min z 4294967295) (sym (length-append c.args.msg.now.first.now c.args.msg.now.second.now)))) s

pub returns-else-takes-2-clause-stands : goal.returns-else-takes-2-clause-stands
returns-else-takes-2-clause-stands g c = λ t now s.
    let fx : Fx g.row.N.Denot g.row.L.Denot = record c.args.fx.now { took = c.all_of-fx.result } in
    let idle = nothing_said c.args.fx.now c.requires in
    session-stands-on g.L.CarriesText.texts c.args.self.now c.args.self.now t _ (session-rests g.L.CarriesText.texts _ _ _ (λ d at. quiet-up-session c.args.self.now.stage c.args.self.now.pdus c.args.slot (said c.args.msg.now) now fx d (sym c.takes.ensures ∙ c.if-takes.false) (sym c.takes-2.ensures ∙ c.if-takes-2.false) at)
    (record { no_make = idle.0.no_make; no_down = idle.0.no_down; no_downs = idle.0.no_downs; no_up = idle.0.no_up; no_ups = idle.0.no_ups }, idle.1, c.all_of-fx.ensures ∙ ap (λ z. min z 4294967295) (sym (length-append c.args.msg.now.first.now c.args.msg.now.second.now)))) s

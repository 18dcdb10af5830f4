use Rattle.std.proofs.Common.{true, ap, sym, ◌∙◌, subst, Some}
use Rattle.nb_effects.specs.declared.effects.Fx.{Fx}
use Rattle.nb_graph.specs.Trace.{up}
use Rattle.nb_conns.specs.ConnEffects.{closes_for}
use Rattle.nb_login.specs.LoginEndings.{login_broken}
use Rattle.nb_drivenodes.specs.declared.session_stage.SessionStage.TheVariants.{Ended}
use Rattle.nb_drivenodes.specs.SessionTalks.{SessionOn}
use Rattle.nb_drivenodes.proofs.DriveEffectLemmas.{closes-alone, end-alone}
use Rattle.nb_drivenodes.proofs.LoginAnswerLemmas.{login-breaks-on, login-lacks-on, session-breaks-on, session-lacks-on, nothing-emitted}
use Rattle.nb_drivenodes.proofs.iscsi.Iscsi.finish.Goals as goal

pub returns-in-LoggingIn-clause-broken : goal.returns-in-LoggingIn-clause-broken
returns-in-LoggingIn-clause-broken g c = λ m slot now before takes r feeds.
    let none = nothing-emitted c.args.fx.now c.requires.0 in
    let fx : Fx g.row.N.Denot g.row.L.Denot = record c.args.fx.now { closes = record { items = closes_for (Some c.from.result) } } in
    subst (λ (z : Fx g.row.N.Denot g.row.L.Denot). SessionOn g.L.CarriesText.texts c.args.self.now.stage before Ended c.args.self.now.pdus (up slot m now true z)) (sym c.ask_close.ensures)
    (login-breaks-on g.L.CarriesText.texts m slot now fx c.args.self.now.stage before c.args.self.now.pdus takes (λ o. absurd (let z = o in let y = c.in-LoggingIn.is in cc)) feeds
    (closes-alone g.L.CarriesText.texts m _ fx c.requires.0.no_make none.0 none.1 (ap (λ z. closes_for (Some z)) (c.from.ensures ∙ ap login_broken (sym r)))))

pub returns-in-LoggingIn-clause-ended : goal.returns-in-LoggingIn-clause-ended
returns-in-LoggingIn-clause-ended g c = λ m slot now takes r all.
    let none = nothing-emitted c.args.fx.now c.requires.0 in
    let fx : Fx g.row.N.Denot g.row.L.Denot = record c.args.fx.now { closes = record { items = closes_for (Some c.from.result) } } in
    subst (λ (z : Fx g.row.N.Denot g.row.L.Denot). SessionOn g.L.CarriesText.texts c.args.self.now.stage c.args.self.now.pdus Ended c.args.self.now.pdus (up slot m now true z)) (sym c.ask_close.ensures)
    (login-lacks-on g.L.CarriesText.texts m slot now fx c.args.self.now.stage c.args.self.now.pdus c.args.self.now.pdus takes (λ o. absurd (let z = o in let y = c.in-LoggingIn.is in cc)) all
    (closes-alone g.L.CarriesText.texts m _ fx c.requires.0.no_make none.0 none.1 (ap (λ z. closes_for (Some z)) (c.from.ensures ∙ ap login_broken (sym r)))))

pub returns-in-Open-clause-broken : goal.returns-in-Open-clause-broken
returns-in-Open-clause-broken g c = λ m slot now before takes r feeds.
    let none = nothing-emitted c.args.fx.now c.requires.0 in
    let fx : Fx g.row.N.Denot g.row.L.Denot = record c.args.fx.now { ups = c.tell_end.new.ups } in
    session-breaks-on g.L.CarriesText.texts m slot now fx c.args.self.now.stage before c.args.self.now.pdus c.in-Open.is takes feeds
    (end-alone g.L.CarriesText.texts m fx c.requires.0.no_make none.0 c.tell_end.ensures c.requires.1)

pub returns-in-Open-clause-ended : goal.returns-in-Open-clause-ended
returns-in-Open-clause-ended g c = λ m slot now takes r all.
    let none = nothing-emitted c.args.fx.now c.requires.0 in
    let fx : Fx g.row.N.Denot g.row.L.Denot = record c.args.fx.now { ups = c.tell_end.new.ups } in
    session-lacks-on g.L.CarriesText.texts m slot now fx c.args.self.now.stage c.args.self.now.pdus c.args.self.now.pdus c.in-Open.is takes all
    (end-alone g.L.CarriesText.texts m fx c.requires.0.no_make none.0 c.tell_end.ensures c.requires.1)

use Rattle.std.proofs.Common.{◌≡◌, ◌==◌, ◌&&◌, ◌∙◌, Bool, true, false, [], Some, Err, ap, not, sym, refl, subst}
use Rattle.std.specs.Option.{option_map, is_some}
use Rattle.nb_effects.specs.declared.effects.Fx.{Fx}
use Rattle.nb_graph.specs.Trace.{down}
use Rattle.nb_conns.specs.ConnEffects.{closes_for}
use Rattle.nb_login.specs.declared.refusal.LoginRefusal.{LoginRefusal}
use Rattle.nb_login.specs.LoginStands.{LoginStands}
use Rattle.nb_drivenodes.specs.declared.session_stage.SessionStage.TheVariants.{LoggingIn, Ended}
use Rattle.nb_drivenodes.specs.DriveAsks.{drive_ask_in, ask_parts_of, info_of}
use Rattle.nb_drivenodes.specs.DriveEffects.{DriveEffects, conn_says}
use Rattle.nb_drivenodes.specs.SessionTalks.{SessionOn, StartsLogin}
use Rattle.nb_drivenodes.proofs.DriveEffectLemmas.{asks-conn, closes-alone}
use Rattle.nb_drivenodes.proofs.SessionLemmas.{session-rests, session-cuts, quiet-down-session}
use Rattle.nb_drivenodes.proofs.LoginAnswerLemmas.{login-begins-on, login-refused-on, nothing-emitted}
use Rattle.nb_drivenodes.proofs.iscsi.Iscsi.ask.Goals as goal

and-off : (a : Bool) → (a && false) ≡ false
and-off true = refl
and-off false = refl

pub returns-in_default-clause-leads : goal.returns-in_default-clause-leads
returns-in_default-clause-leads g c = λ m now tag b. session-rests g.L.CarriesText.texts _ _ _
    (λ d at. quiet-down-session c.args.self.now.stage c.args.self.now.pdus m now c.args.fx.now d
    (λ e. ap (λ z. (m.tag == 1) && is_some z) (ap drive_ask_in b ∙ sym c.read.ensures.value ∙ ap (option_map ask_parts_of) c.in_default.is) ∙ and-off (m.tag == 1)) (λ e. absurd (let z = e in let y = c.requires.unasked in cc)) at)
    c.requires.nothing

pub returns-in-Ok-clause-leads : goal.returns-in-Ok-clause-leads
returns-in-Ok-clause-leads g c = λ m now tag b.
    let said = c.requires.nothing in
    let fx : Fx g.row.N.Denot g.row.L.Denot = record c.args.fx.now { downs = c.ask_conn.new.downs } in
    login-begins-on g.L.CarriesText.texts m now fx c.args.self.now.stage (LoggingIn c.in-Ok.login) c.args.self.now.pdus (ask_parts_of c.in-Some.ask) c.requires.unasked tag
    (ap drive_ask_in b ∙ sym c.read.ensures.value ∙ ap (option_map ask_parts_of) c.in-Some.is) c.in-Ok.ensures.2 c.in-Ok.ensures.0
    (subst (λ z. DriveEffects g.L.CarriesText.texts m (conn_says m z) [] [] fx) c.in-Ok.ensures.1
    (asks-conn g.L.CarriesText.texts m c.in-Ok.text fx said.0.no_make c.ask_conn.ensures (nothing-emitted c.args.fx.now said.0).1 said.1))

pub returns-in-Err-NoMemory-clause-leads : goal.returns-in-Err-NoMemory-clause-leads
returns-in-Err-NoMemory-clause-leads g c = λ m now tag b. session-cuts _ _ _ _ _ _ c.give_up.ensures.ended (λ d at. ap not c.give_up.ensures.err) tt

pub returns-in-Err-ZeroByte-clause-leads : goal.returns-in-Err-ZeroByte-clause-leads
returns-in-Err-ZeroByte-clause-leads g c = λ m now tag b.
    let said = c.requires.nothing in
    let none = nothing-emitted c.args.fx.now said.0 in
    let fx : Fx g.row.N.Denot g.row.L.Denot = record c.args.fx.now { closes = record { items = closes_for (Some c.cause.result) } } in
    let zero = subst (λ (z : LoginRefusal). StartsLogin (info_of c.in-Some.ask) (λ l. LoginStands (info_of c.in-Some.ask) l []) (Err z)) c.in-Err-ZeroByte.field-0-is c.in-Err-ZeroByte.ensures in
    subst (λ (z : Fx g.row.N.Denot g.row.L.Denot). SessionOn g.L.CarriesText.texts c.args.self.now.stage c.args.self.now.pdus Ended c.args.self.now.pdus (down m now true z)) (sym c.ask_close.ensures)
    (login-refused-on g.L.CarriesText.texts m now fx c.args.self.now.stage c.args.self.now.pdus (ask_parts_of c.in-Some.ask) c.in-Err-ZeroByte.name c.requires.unasked tag
    (ap drive_ask_in b ∙ sym c.read.ensures.value ∙ ap (option_map ask_parts_of) c.in-Some.is) zero
    (closes-alone g.L.CarriesText.texts m _ fx said.0.no_make none.0 none.1 (ap (λ z. closes_for (Some z)) c.cause.ensures)))

use Rattle.std.proofs.Common.{◌&&◌, ◌∙◌, ap, not, sym}
use Rattle.std.proofs.lemmas.Bool.{ne_eqb}
use Rattle.std.specs.Option.{is_some}
use Rattle.nb_graph.specs.Trace.{said}
use Rattle.nb_conns.proofs.DialogueLemmas.{nothing_said}
use Rattle.nb_drivenodes.specs.DriveAsks.{drive_ask_in}
use Rattle.nb_drivenodes.proofs.SessionLemmas.{session-rests, session-cuts, quiet-down-session}
use Rattle.nb_drivenodes.proofs.iscsi.Iscsi.begin.Goals as goal

pub returns-then-msg-from-clause-leads : goal.returns-then-msg-from-clause-leads
returns-then-msg-from-clause-leads g c = λ now. session-rests g.L.CarriesText.texts _ _ _
    (λ d at. quiet-down-session c.args.self.now.stage c.args.self.now.pdus (said c.args.msg.now) now c.args.fx.now d
    (λ e. ap (λ z. z && is_some (drive_ask_in (said c.args.msg.now).bytes)) (ne_eqb c.args.msg.now.tag 1 (λ t. c.if-msg-from.true (t ∙ sym c.from.ensures)))) (λ e. absurd (let z = e in let y = c.requires.unasked in cc)) at)
    (nothing_said c.args.fx.now c.requires.nothing)

pub returns-in-Err-clause-leads : goal.returns-in-Err-clause-leads
returns-in-Err-clause-leads g c = λ now. session-cuts _ _ _ _ _ _ c.give_up.ensures.ended (λ d at. ap not c.give_up.ensures.err) tt

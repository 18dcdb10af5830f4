use Rattle.std.proofs.Common.{subst, sym, ◌∙◌}
use Rattle.nb_login.specs.declared.state.State.{State}
use Rattle.nb_login.specs.LoginHistory.{pdu_came}
use Rattle.nb_iscsipdu.specs.PduTexts.{pdu_parts}
use Rattle.nb_login.specs.LoginStands.{LoginStands}
use Rattle.nb_login.proofs.LoginStandsLemmas.{goes_on, it_stands, it_puts, it_ends, ended_quiet}
use Rattle.nb_login.proofs.login.Login.pdu.Goals as goal

pub returns-clause-stands : goal.returns-clause-stands
returns-clause-stands c = λ i h stands open_yet.
    let m = pdu_came c.args.rec (pdu_parts c.args.p.now) in
    it_stands i c.receive.new.self h m c.receive.result c.receive.new.acts
    (goes_on i c.self.inside.state c.receive.new.self h m c.receive.result c.receive.new.acts (subst (λ (x : State). LoginStands i x h) (sym c.self.view_is) stands) open_yet c.receive.ensures.takes)

pub returns-clause-text : goal.returns-clause-text
returns-clause-text c = λ i h stands open_yet.
    let m = pdu_came c.args.rec (pdu_parts c.args.p.now) in
    it_puts i c.receive.new.self h m c.receive.result c.receive.new.acts
    (goes_on i c.self.inside.state c.receive.new.self h m c.receive.result c.receive.new.acts (subst (λ (x : State). LoginStands i x h) (sym c.self.view_is) stands) open_yet c.receive.ensures.takes)

pub returns-clause-ends : goal.returns-clause-ends
returns-clause-ends c = λ i h stands open_yet.
    let m = pdu_came c.args.rec (pdu_parts c.args.p.now) in
    it_ends i c.receive.new.self h m c.receive.result c.receive.new.acts
    (goes_on i c.self.inside.state c.receive.new.self h m c.receive.result c.receive.new.acts (subst (λ (x : State). LoginStands i x h) (sym c.self.view_is) stands) open_yet c.receive.ensures.takes)

pub returns-clause-ended : goal.returns-clause-ended
returns-clause-ended c = λ i h stands ended.
    let quiet = c.receive.ensures.ended (ended_quiet i c.self.inside.state h (subst (λ (x : State). LoginStands i x h) (sym c.self.view_is) stands) ended) in
    (quiet.0, quiet.1 ∙ c.self.view_is, quiet.2)

use Rattle.std.proofs.Common.{◌≡◌, refl, subst}
use Rattle.nb_iscsipdu.specs.PduTexts.{pdu_parts}
use Rattle.nb_login.specs.declared.state.Negotiation.{Negotiation}
use Rattle.nb_login.specs.LoginHistory.{pdu_came}
use Rattle.nb_login.specs.LoginStands.{decided_by, TakesPdu}
use Rattle.nb_login.proofs.LoginStandsLemmas.{follows}
use Rattle.nb_login.proofs.state.State.receive.Goals as goal

pub returns-clause-takes : goal.returns-clause-takes
returns-clause-takes c = λ n at.
    let own = c.in-Negotiating.negotiation in
    let m = pdu_came c.args.rec (pdu_parts c.args.pdu.now) in
    let same : own ≡ n = cc in
    subst (λ (x : Negotiation). TakesPdu x m (decided_by x m) c.follow.new.self c.follow.result c.follow.new.acts) same
    (follows own m (decided_by own m) c.in_ok-next-in-Negotiating.next c.follow.new.self c.follow.result c.follow.new.acts c.in_ok-next-in-Negotiating.ensures (c.follow.ensures own refl))

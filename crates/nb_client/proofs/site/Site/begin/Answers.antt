use Rattle.std.proofs.Common.{◌≡◌, None, sym, subst}
use Rattle.nb_client.specs.Asked.{beside_kind}
use Rattle.nb_client.specs.Beginnings.{BeginsNext}
use Rattle.nb_client.proofs.OpenResults.{if_ok_both}
use Rattle.nb_client.proofs.site.Site.begin.Goals as goal

pub returns-in-Some-clause-begins : goal.returns-in-Some-clause-begins
returns-in-Some-clause-begins c =
    let now = c.args.self.now in
    let after = c.begin_beside.new.self in
    let a = c.args.opening.now in
    let beside = c.in-Some.ensures in
    if_ok_both {R = λ o. BeginsNext a (beside_kind c.args.asked.now) c.args.waits now after o} c.begin_beside.result
    (λ o b w.
    let none : c.args.waits ≡ None = c.requires.lone w.0 (beside.1 w.0) in
    let same : BeginsNext a c.in-Some.kind None now after o =
    record { opens = b.opens; used = b.used; world = b.world; sound = b.sound; serials = b.serials; linked = b.linked; waiting = b.waiting } in
    subst (λ k. BeginsNext a k c.args.waits now after o) beside.0 (subst (λ x. BeginsNext a c.in-Some.kind x now after o) (sym none) same))
    c.begin_beside.ensures.begins c.begin_beside.ensures.waits

use Rattle.std.proofs.Common.{sym, subst, Option, None}
use Rattle.nb_terms.specs.declared.cause.Cause.{Cause}
use Rattle.nb_http.specs.declared.state.State.TheVariants.{Over}
use Rattle.nb_http.specs.declared.head_step.Next.{Next}
use Rattle.nb_http.specs.HeadReading.{HeadGoes}
use Rattle.nb_http.proofs.HeadLemmas.{refused_goes, sized_goes, chunked_goes, to_end_goes, bad_goes}
use Rattle.nb_http.proofs.head_step.after_status.Goals as goal

pub returns-then-info-ne200 : goal.returns-then-info-ne200
returns-then-info-ne200 c = λ block h is stays.
    subst (λ (n : Next). HeadGoes c.args.rec n.state block block n.over) (sym c.ended.ensures) (subst (λ (o : Option Cause). HeadGoes c.args.rec (Over None) block block o) (sym c.refused.ensures) (refused_goes c.args.rec block h c.args.info.now is stays c.if-info-ne200.true))

pub returns-in-Length : goal.returns-in-Length
returns-in-Length c = λ block h is stays.
    subst (λ (n : Next). HeadGoes c.args.rec n.state block block n.over) (sym c.sized.ensures) (sized_goes c.args.rec c.in-Length.size block h c.args.info.now is stays c.if-info-ne200.false c.in-Length.is)

pub returns-in-Chunked : goal.returns-in-Chunked
returns-in-Chunked c = λ block h is stays.
    subst (λ (n : Next). HeadGoes c.args.rec n.state block block n.over) (sym c.follows.ensures) (chunked_goes c.args.rec block h c.args.info.now is stays c.if-info-ne200.false c.in-Chunked.is)

pub returns-in-ToEnd : goal.returns-in-ToEnd
returns-in-ToEnd c = λ block h is stays.
    subst (λ (n : Next). HeadGoes c.args.rec n.state block block n.over) (sym c.follows-in-ToEnd.ensures) (to_end_goes c.args.rec block h c.args.info.now is stays c.if-info-ne200.false c.in-ToEnd.is)

pub returns-in-Bad : goal.returns-in-Bad
returns-in-Bad c = λ block h is stays.
    subst (λ (n : Next). HeadGoes c.args.rec n.state block block n.over) (sym c.ended-in-Bad.ensures) (subst (λ (o : Option Cause). HeadGoes c.args.rec (Over None) block block o) (sym c.not_a_response.ensures) (bad_goes c.args.rec block h c.args.info.now is stays c.if-info-ne200.false c.in-Bad.is))

use Rattle.std.proofs.Common.{sym, subst}
use Rattle.nb_http.specs.declared.head_step.Next.{Next}
use Rattle.nb_http.specs.HeadReading.{HeadGoes}
use Rattle.nb_http.proofs.HeadLemmas.{moves_goes, stays_there}
use Rattle.nb_http.proofs.head_step.after_head.Goals as goal

pub returns-in-Some : goal.returns-in-Some
returns-in-Some c = λ block h is.
    subst (λ (n : Next). HeadGoes c.args.rec n.state block block n.over) (sym c.moves.ensures) (moves_goes c.args.rec block h c.args.info.now c.in-Some.range is (sym c.in-Some.ensures))

pub returns-in-None : goal.returns-in-None
returns-in-None c = λ block h is. c.after_status.ensures block h is (stays_there block h c.args.info.now is (sym c.in-None.ensures))

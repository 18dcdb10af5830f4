use Rattle.std.proofs.Common.{refl}
use Rattle.nb_script.specs.ShownJoin.{shown_join}
use Rattle.nb_script.proofs.IdleLemmas.{idle_joined, idle_same, idle_begun}
use Rattle.nb_script.proofs.idle.join_after.Goals as goal

pub returns-in-Some-clause-some : goal.returns-in-Some-clause-some
returns-in-Some-clause-some c = λ ws.
    let some = c.in-Some.ensures.some in
    rw some.1 (idle_joined (shown_join c.args.join) c.args.word.now ws some.0)

pub returns-in-None-clause-some : goal.returns-in-None-clause-some
returns-in-None-clause-some c =
    idle_same c.args.join c.args.word.now c.same_if_or.result (c.in-None.ensures.none refl) c.same_if_or.ensures.some

pub returns-in-None-clause-none : goal.returns-in-None-clause-none
returns-in-None-clause-none c = λ none ws.
    idle_begun (shown_join c.args.join) c.args.word.now ws (c.in-None.ensures.none refl) (c.same_if_or.ensures.none none)

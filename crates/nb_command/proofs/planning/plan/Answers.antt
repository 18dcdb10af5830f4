use Rattle.nb_command.proofs.PrintedLemmas.{printed_short, text_short}
use Rattle.nb_command.proofs.planning.plan.Goals as goal

pub returns-in-Some-named-clause-small : goal.returns-in-Some-named-clause-small
returns-in-Some-named-clause-small c = λ few short.
    printed_short c.plan_named.result
    (text_short c.args.words.now c.in-Some.name.now c.in-Some.args.now c.in-Some-named.command c.plan_named.result
    c.in-Some.ensures.cases.0 c.plan_named.ensures few short)

pub returns-in-Some-named-clause-args : goal.returns-in-Some-named-clause-args
returns-in-Some-named-clause-args c = λ few short.
    text_short c.args.words.now c.in-Some.name.now c.in-Some.args.now c.in-Some-named.command c.plan_named.result
    c.in-Some.ensures.cases.0 c.plan_named.ensures few short

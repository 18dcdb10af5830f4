use Rattle.std.proofs.Common.{rules}
use Rattle.nb_iscsipdu.proofs.KeyLemmas.{value_in-stripped, value_in-none, after_equals-stripped}
use Rattle.nb_iscsipdu.proofs.keys.value_in.Goals as goal

pub returns-in_err-rest : goal.returns-in_err-rest
returns-in_err-rest c = rw (value_in-none c.args.name.now c.args.text.now c.in_err-rest.ensures.cases) (search rules)

pub returns : goal.returns
returns c =
    rw (value_in-stripped c.args.name.now c.args.text.now c.in_ok-rest.ensures.cases.0, ← c.in_ok-rest.ensures.cases.1)
    (after_equals-stripped c.in_ok-rest.rest.now c.strip_prefix-2.result c.strip_prefix-2.ensures.cases)

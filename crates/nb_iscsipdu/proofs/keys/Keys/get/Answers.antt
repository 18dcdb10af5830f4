use Rattle.std.proofs.Common.{◌∙◌}
use Rattle.nb_iscsipdu.proofs.KeyLemmas.{value-found, value-passed, value-last}
use Rattle.nb_iscsipdu.proofs.keys.Keys.get.Goals as goal

pub returns-in-Some-value_in : goal.returns-in-Some-value_in
returns-in-Some-value_in c =
    value-found c.args.name.now c.texts.rest.now c.in-Some.end _ c.in-Some.ensures.place c.in-Some-value_in.ensures ∙ c.texts.invariant

pub texts-preserved : goal.texts-preserved
texts-preserved c =
    rw c.after-rest.ensures
    (value-passed c.args.name.now c.texts.rest.now c.in-Some.end c.in-Some.ensures.place c.in_default-value_in.ensures ∙ c.texts.invariant)

pub returns : goal.returns
returns c = c.value_in-2.ensures ∙ value-last c.args.name.now c.texts.rest.now c.in_default.ensures.place ∙ c.texts.invariant

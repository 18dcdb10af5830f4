use Rattle.std.proofs.Common.{◌∙◌, sym}
use Rattle.nb_settings.proofs.NullLemmas.{nulls_shorter, nulls_none}
use Rattle.nb_settings.proofs.nulls.without_nulls.Goals as goal

pub loop-kept-preserved : goal.loop-kept-preserved
loop-kept-preserved c =
    nulls_shorter c.loop-kept.kept.now (sym c.ends_in_null.ensures.value ∙ c.loop-kept-test.true) ∙ c.loop-kept.invariant

pub returns : goal.returns
returns c =
    sym (nulls_none c.loop-kept.kept.now (sym c.ends_in_null.ensures.value ∙ c.loop-kept-test.false)) ∙ c.loop-kept.invariant

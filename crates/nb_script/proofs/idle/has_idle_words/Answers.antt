use Rattle.std.proofs.Common.{refl, sym, ap, ◌∙◌}
use Rattle.nb_script.specs.Idle.{are_idle_words}
use Rattle.nb_script.specs.ShownJoin.{shown_join}
use Rattle.nb_script.proofs.IdleLemmas.{idle_none}
use Rattle.nb_script.proofs.idle.has_idle_words.Goals as goal

pub returns : goal.returns
returns c =
    let join = shown_join c.loop-word.join in
    sym (idle_none join) ∙ ap (are_idle_words join) (sym (c.in_default.ensures.none refl)) ∙ c.loop-word.invariant

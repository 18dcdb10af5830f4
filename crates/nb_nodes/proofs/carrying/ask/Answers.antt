use Rattle.std.proofs.Common.{◌≡◌, None, subst, sym, arith}
use Rattle.nb_effects.specs.declared.effects.Emit.{Emit}
use Rattle.nb_effects.specs.declared.effects.Few.{Few}
use Rattle.nb_nodes.specs.declared.load.Load.{Load}
use Rattle.nb_nodes.specs.Carried.{AsksDown, up_emit, end_closes}
use Rattle.nb_nodes.proofs.CarriedLemmas.{all_within}
use Rattle.nb_nodes.proofs.carrying.ask.Goals as goal

pub returns-clause-within : goal.returns-clause-within
returns-clause-within c = λ len range.
    let no_make : c.close_at.new.fx.makes ≡ None = grind arith in
    let downs : c.close_at.new.fx.downs ≡ c.ask_down-kept.new.fx.downs = grind arith in
    let ups : c.close_at.new.fx.ups ≡ record { first = up_emit c.args.acts.value.give; second = None } = grind arith in
    let closes : c.close_at.new.fx.closes.items ≡ end_closes c.args.acts.value.over = grind arith in
    all_within c.args.acts.value c.close_at.new.fx len no_make (subst (λ (z : Few (Emit Load)). AsksDown c.args.acts.value z) (sym downs) c.ask_down-kept.ensures.asks) ups closes range

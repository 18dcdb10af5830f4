use Rattle.std.proofs.Common.{◌≡◌, None, rules, subst, sym, arith}
use Rattle.nb_effects.specs.declared.effects.Emit.{Emit}
use Rattle.nb_effects.specs.declared.effects.Few.{Few}
use Rattle.nb_nodes.specs.declared.load.Load.{Load}
use Rattle.nb_nodes.specs.Carried.{AsksDown, up_emit, end_closes}
use Rattle.nb_nodes.proofs.CarriedLemmas.{all_within, end_none}
use Rattle.nb_nodes.proofs.carrying.ask_on.Goals as goal

pub returns-clause-within : goal.returns-clause-within
returns-clause-within c = λ len range.
    let no_make : c.ask_up.new.fx.makes ≡ None = grind arith in
    let downs : c.ask_up.new.fx.downs ≡ c.ask_down-kept.new.fx.downs = grind arith in
    let ups : c.ask_up.new.fx.ups ≡ record { first = up_emit c.args.acts.value.give; second = None } = grind arith in
    let none = end_none c.args.acts.value.over c.requires.goes in
    let closes : c.ask_up.new.fx.closes.items ≡ end_closes c.args.acts.value.over = grind arith in
    all_within c.args.acts.value c.ask_up.new.fx len no_make (subst (λ (z : Few (Emit Load)). AsksDown c.args.acts.value z) (sym downs) c.ask_down-kept.ensures.asks) ups closes range

pub returns-clause-effects : goal.returns-clause-effects
returns-clause-effects c = λ m. let none = end_none c.args.acts.value.over c.requires.goes in search rules

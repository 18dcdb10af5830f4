use Rattle.std.proofs.Common.{subst, sym, ap, ◌∙◌}
use Rattle.nb_effects.specs.declared.effects.Fx.{Fx}
use Rattle.nb_graph.specs.Trace.{silence}
use Rattle.nb_nodes.specs.declared.load.Load.{Load}
use Rattle.nb_nodes.specs.declared.obj.Obj.{Obj}
use Rattle.nb_nodes.specs.Carried.{AsksWithin}
use Rattle.nb_nodes.specs.Exchanges.{AsksAndGives, said_up}
use Rattle.nb_nodes.proofs.GivingLemmas.{no_range, gives_beside, within_beside, gives_room, ups_beside}
use Rattle.nb_nodes.proofs.carrying.ask_giving.Goals as goal

pub give-requires : goal.give-requires
give-requires c = gives_room silence c.args.acts.value c.ask-kept.new.fx (c.ask-kept.ensures.effects silence) c.requires.none

pub returns-clause-effects : goal.returns-clause-effects
returns-clause-effects c = λ m.
    subst (λ (z : Fx Obj Load). AsksAndGives m c.args.acts.value (said_up m c.args.given) z) (sym c.give.ensures)
    (gives_beside m c.args.acts.value c.args.given c.ask-kept.new.fx (c.ask-kept.ensures.effects m) c.requires.none c.requires.above)

pub returns-clause-within : goal.returns-clause-within
returns-clause-within c = λ len up.
    let none = c.requires.none in
    subst (λ (z : Fx Obj Load). AsksWithin len z) (sym c.give.ensures)
    (within_beside len silence c.args.acts.value c.args.given c.ask-kept.new.fx (c.ask-kept.ensures.effects silence) (c.ask-kept.ensures.within len (no_range c.args.acts.value.give len none)) up)

pub returns-clause-ups : goal.returns-clause-ups
returns-clause-ups c = ap (λ (z : Fx Obj Load). z.ups) c.give.ensures ∙ ups_beside silence c.args.acts.value c.args.given c.ask-kept.new.fx (c.ask-kept.ensures.effects silence)

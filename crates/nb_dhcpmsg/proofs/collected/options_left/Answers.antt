use Rattle.std.proofs.Common.{List, sym, subst}
use Rattle.nb_dhcpmsg.specs.declared.option.DhcpOption.{DhcpOption}
use Rattle.nb_dhcpmsg.specs.Lefts.{Walks}
use Rattle.nb_dhcpmsg.specs.Collected.{tag_values}
use Rattle.nb_dhcpmsg.proofs.CollectedLemmas.{more_walked, all_walked}
use Rattle.nb_dhcpmsg.proofs.collected.options_left.Goals as goal

pub options-preserved : goal.options-preserved
options-preserved c =
    subst (λ (os : List DhcpOption). Walks (tag_values os) c.args.options c.next.new.self) (sym c.in_ok-push-in-Option.ensures.items)
    (more_walked c.options.all.items c.args.options c.options.left c.next.new.self c.in-Option.option c.options.invariant c.in-Option.ensures)

pub returns-in-End : goal.returns-in-End
returns-in-End c = λ os left. all_walked c.options.all.items c.args.options c.options.left os c.options.invariant c.in-End.ensures left

pub returns-in-Broken : goal.returns-in-Broken
returns-in-Broken c = λ os left. let (more, whole, at) = c.options.invariant.forth os left in absurd (c.in-Broken.ensures more at)

use Rattle.nb_dhcpmsg.specs.Lefts.{Walks, left_bytes}
use Rattle.nb_dhcpmsg.specs.Collected.{tag_values}
use Rattle.nb_dhcpmsg.proofs.collected.options_left.Given as goal

-- the options so far were passed
abbrev pub invariant-options : goal.invariant-options
invariant-options l = Walks (tag_values l.all.items) l.fn.options l.left

abbrev pub decreases-options : goal.decreases-options
decreases-options l = left_bytes l.left

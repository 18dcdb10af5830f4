use Rattle.std.proofs.Common.{◌≡◌, ◌++◌, length}
use Rattle.nb_dhcpmsg.specs.Fields.{inner_options}
use Rattle.nb_dhcpmsg.specs.Collected.{tag_values}
use Rattle.nb_dhcpmsg.proofs.collected.options_within.Given as goal

-- the options so far, and those within what is left, are all
abbrev pub invariant-options : goal.invariant-options
invariant-options l = inner_options l.value ≡ tag_values l.all.items ++ inner_options l.rest

abbrev pub decreases-options : goal.decreases-options
decreases-options l = length l.rest

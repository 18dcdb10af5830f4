use Rattle.std.proofs.Common.{◌≡◌, take}
use Rattle.nb_dhcpmsg.specs.Options.{joined}
use Rattle.nb_dhcpmsg.specs.Collected.{tag_values}
use Rattle.nb_dhcpmsg.proofs.collected.joined_value.Given as goal

-- the values of the options so far were put
abbrev pub invariant-options : goal.invariant-options
invariant-options l = l.value.items ≡ joined l.tag (tag_values (take l.option-index l.options))

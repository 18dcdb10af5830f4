use Rattle.std.proofs.Common.{◌≡◌, take}
use Rattle.nb_dhcpmsg.specs.Options.{is_there}
use Rattle.nb_dhcpmsg.specs.Collected.{tag_values}
use Rattle.nb_dhcpmsg.proofs.collected.has_tag.Given as goal

-- one of the options so far has the tag
abbrev pub invariant-options : goal.invariant-options
invariant-options l = l.found ≡ is_there l.tag (tag_values (take l.option-index l.options))

use Rattle.std.proofs.Common.{List}
use Rattle.nb_dhcpmsg.specs.Options.{TagValue, joined}
use Rattle.nb_dhcpmsg.specs.Lefts.{IsLength, Walks, left_bytes}
use Rattle.nb_dhcpmsg.proofs.joined.only_byte.Given as goal

-- so many options were passed, and how long their joined value is, is known
abbrev pub invariant-options : goal.invariant-options
invariant-options l = record {
  before : List TagValue;
  walks : Walks before l.fn.options l.left;
  size : IsLength l.joined (joined l.tag before);
}

abbrev pub decreases-options : goal.decreases-options
decreases-options l = left_bytes l.left

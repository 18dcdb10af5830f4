use Rattle.std.proofs.Common.{◌≡◌, ◌≤◌, List, length}
use Rattle.nb_dhcpmsg.specs.Options.{TagValue, joined, is_there}
use Rattle.nb_dhcpmsg.specs.Lefts.{Walks, left_bytes}
use Rattle.nb_dhcpmsg.proofs.message.gather.Given as goal

-- so many options were passed, and their joined value was put
abbrev pub invariant-options : goal.invariant-options
invariant-options l = record {
  before : List TagValue;
  walks : Walks before l.fn.options l.left;
  put : l.to.items ≡ joined l.tag before;
  room : length l.to.items ≤ 1024;
  there : l.found ≡ is_there l.tag before;
}

abbrev pub decreases-options : goal.decreases-options
decreases-options l = left_bytes l.left

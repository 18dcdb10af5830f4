use Rattle.std.proofs.Common.{◌≡◌, ◌≤◌, ◌++◌, ℕ, List, length}
use Rattle.nb_dhcpmsg.specs.Options.{TagValue, joined, is_there}
use Rattle.nb_dhcpmsg.specs.Fields.{inner_options}
use Rattle.nb_dhcpmsg.specs.Streams.{HoldsOption, stream_left}
use Rattle.nb_dhcpmsg.proofs.stream.gather_inner.Given as goal

-- so many options within were passed, and their joined value was put
abbrev pub invariant-options : goal.invariant-options
invariant-options l = record {
  passed : (bytes : List ℕ) → HoldsOption l.fn.value bytes →
      (before : List TagValue) × (rest : List ℕ) × HoldsOption l.left rest × (inner_options bytes ≡ before ++ inner_options rest)
      × (l.to.items ≡ joined l.tag before) × (l.found ≡ is_there l.tag before);
  room : length l.to.items ≤ 1024;
}

abbrev pub decreases-options : goal.decreases-options
decreases-options l = stream_left l.left

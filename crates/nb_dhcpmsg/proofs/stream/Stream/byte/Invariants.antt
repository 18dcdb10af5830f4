use Rattle.std.proofs.Common.{◌≤◌, ℕ, List}
use Rattle.nb_dhcpmsg.specs.Lefts.{left_bytes}
use Rattle.nb_dhcpmsg.specs.Streams.{HoldsOption, stream_left}
use Rattle.nb_dhcpmsg.proofs.stream.Stream.byte.Given as goal

-- the same bytes are still to come
abbrev pub invariant-parts : goal.invariant-parts
invariant-parts l = record {
  same : (bytes : List ℕ) → HoldsOption l.fn.self bytes → HoldsOption l.self bytes;
  less : stream_left l.self ≤ stream_left l.fn.self;
}

abbrev pub decreases-parts : goal.decreases-parts
decreases-parts l = left_bytes l.self.options

use Rattle.std.proofs.Common.{◌≡◌, ◌≤◌, ℕ, List}
use Rattle.nb_dhcpmsg.specs.Fields.{inner_options}
use Rattle.nb_dhcpmsg.specs.Streams.{HoldsOption, stream_left}
use Rattle.nb_dhcpmsg.proofs.stream.Stream.unpadded.Given as goal

-- the options of what is still to come are those of all bytes
abbrev pub invariant-padding : goal.invariant-padding
invariant-padding l = record {
  same : (bytes : List ℕ) → HoldsOption l.fn.self bytes → (rest : List ℕ) × (inner_options bytes ≡ inner_options rest) × HoldsOption l.self rest;
  less : stream_left l.self ≤ stream_left l.fn.self;
}

abbrev pub decreases-padding : goal.decreases-padding
decreases-padding l = stream_left l.self

use Rattle.std.proofs.Common.{◌≤◌, ℕ, List, length, drop}
use Rattle.nb_dhcpmsg.specs.Streams.{HoldsOption, stream_left}
use Rattle.nb_dhcpmsg.proofs.stream.Stream.pass.Given as goal

-- so many bytes were passed
abbrev pub invariant-bytes : goal.invariant-bytes
invariant-bytes l = record {
  passed : (bytes : List ℕ) → HoldsOption l.fn.self bytes → (l._i ≤ length bytes) × HoldsOption l.self (drop l._i bytes);
  less : stream_left l.self ≤ stream_left l.fn.self;
}

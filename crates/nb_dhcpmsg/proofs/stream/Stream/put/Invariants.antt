use Rattle.std.proofs.Common.{◌≡◌, ◌≤◌, ◌++◌, ℕ, List, length, take, drop}
use Rattle.nb_dhcpmsg.specs.Streams.{HoldsOption, stream_left}
use Rattle.nb_dhcpmsg.proofs.stream.Stream.put.Given as goal

-- so many bytes were put
abbrev pub invariant-bytes : goal.invariant-bytes
invariant-bytes l = record {
  put : (bytes : List ℕ) → HoldsOption l.fn.self bytes → l.len ≤ length bytes →
      (l.to.items ≡ l.fn.to.items ++ take l._i bytes) × HoldsOption l.self (drop l._i bytes);
  room : length l.fn.to.items ≤ 1024 → length l.to.items ≤ 1024;
  less : stream_left l.self ≤ stream_left l.fn.self;
}

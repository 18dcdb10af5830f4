use Rattle.std.proofs.Common.{◌≤◌, ◌<◌, ℕ, Bool, true, false, List, length}
use Rattle.std.specs.Prelude.{MatchBool}
use Rattle.nb_dhcpmsg.specs.declared.stream.Stream.{Stream}
use Rattle.nb_dhcpmsg.specs.Streams.{IsPassed}
use Rattle.nb_dhcpmsg.proofs.stream.Stream.has.Goals as goal

passed_fits : (b : Bool) (n : ℕ) (bytes : List ℕ) (s : Stream) → IsPassed b n bytes s → MatchBool b (n ≤ length bytes) (length bytes < n)
passed_fits true n bytes s h = h.0
passed_fits false n bytes s h = h

pub returns : goal.returns
returns c = λ bytes h. passed_fits c.pass.result c.args.len bytes c.pass.new.self (c.pass.ensures.value bytes h)

use Rattle.std.proofs.Common.{length}
use Rattle.nb_dns.specs.WrittenNames.{without_final_dot}
use Rattle.nb_dns.proofs.WrittenLemmas.{PutSoFar}
use Rattle.nb_dns.proofs.written.wire_name.Given as goal

abbrev pub invariant-labels : goal.invariant-labels
invariant-labels l = PutSoFar (without_final_dot l.fn.text) l.name.items l.rest

abbrev pub decreases-labels : goal.decreases-labels
decreases-labels l = length l.rest

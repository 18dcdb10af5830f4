use Rattle.std.proofs.Common.{◌+◌, ◌*◌, length, sum}
use Rattle.nb_wire.specs.Checksum.{words, SameSum}
use Rattle.nb_wire.proofs.sum.both_sums.Given as goal

abbrev pub invariant-widest : goal.invariant-widest
invariant-widest l = SameSum (256 * l.total + sum (words l.rest)) (sum (words l.bytes))

abbrev pub decreases-widest : goal.decreases-widest
decreases-widest l = length l.rest

abbrev pub invariant-wide : goal.invariant-wide
invariant-wide l = SameSum (256 * l.total + sum (words l.rest)) (sum (words l.bytes))

abbrev pub decreases-wide : goal.decreases-wide
decreases-wide l = length l.rest

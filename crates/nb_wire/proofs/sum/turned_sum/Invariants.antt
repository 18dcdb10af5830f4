use Rattle.std.proofs.Common.{◌≡◌, ◌+◌, ◌*◌, ◌%◌, ◌<◌, length, sum}
use Rattle.std.specs.Int.{from_bool}
use Rattle.nb_wire.specs.Checksum.{words, SameSum}
use Rattle.nb_wire.proofs.sum.turned_sum.Given as goal

abbrev pub invariant-eights : goal.invariant-eights
invariant-eights l = record {
  same : SameSum (256 * (l.total + from_bool l.carry) + sum (words l.rest)) (256 * l.before + sum (words l.bytes));
  room : l.total + from_bool l.carry < 18446744073709551616;
  left : length l.rest % 8 ≡ 0;
}

abbrev pub decreases-eights : goal.decreases-eights
decreases-eights l = length l.rest

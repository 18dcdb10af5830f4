use Rattle.std.proofs.Common.{◌≡◌, take}
use Rattle.nb_expand.specs.Pairs.{printed_pairs}
use Rattle.nb_expand.proofs.pairs.print_pairs.Given as goal

abbrev pub invariant-loop-byte : goal.invariant-loop-byte
invariant-loop-byte l = l.text.items ≡ printed_pairs l.separator (take l.byte-index l.bytes)

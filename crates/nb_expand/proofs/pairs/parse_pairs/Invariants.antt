use Rattle.std.proofs.Common.{◌≡◌, ◌++◌, length}
use Rattle.std.specs.Option.{option_map}
use Rattle.nb_expand.specs.Pairs.{pairs_behind, parsed_pairs}
use Rattle.nb_expand.proofs.pairs.parse_pairs.Given as goal

-- the bytes so far, and those of the rest
abbrev pub invariant-loop-rest : goal.invariant-loop-rest
invariant-loop-rest l = option_map (λ more. l.bytes.items ++ more) (pairs_behind l.separator l.rest) ≡ parsed_pairs l.separator l.text

abbrev pub decreases-loop-rest : goal.decreases-loop-rest
decreases-loop-rest l = length l.rest

use Rattle.std.proofs.Common.{◌≡◌, length}
use Rattle.nb_settings.specs.Nulls.{without_nulls}
use Rattle.nb_settings.proofs.nulls.without_nulls.Given as goal

-- the bytes that are left give what all give
abbrev pub invariant-loop-kept : goal.invariant-loop-kept
invariant-loop-kept l = without_nulls l.kept ≡ without_nulls l.bytes

abbrev pub decreases-loop-kept : goal.decreases-loop-kept
decreases-loop-kept l = length l.kept

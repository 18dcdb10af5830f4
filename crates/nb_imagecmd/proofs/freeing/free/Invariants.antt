use Rattle.std.proofs.Common.{◌-◌}
use Rattle.nb_imagecmd.proofs.FreeingLemmas.{FreesSoFar}
use Rattle.nb_imagecmd.proofs.freeing.free.Given as goal

-- of the images from the place on only those are left that are kept
abbrev pub invariant-loop-seen : goal.invariant-loop-seen
invariant-loop-seen l = FreesSoFar l.names (l.len - l.seen) l.fn.images l.images

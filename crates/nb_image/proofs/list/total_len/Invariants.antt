use Rattle.std.proofs.Common.{◌≡◌, take}
use Rattle.nb_image.specs.Images.{total_len}
use Rattle.nb_image.proofs.list.total_len.Given as goal

-- the bytes of the bodies so far
abbrev pub invariant-loop-image : goal.invariant-loop-image
invariant-loop-image l = l.total ≡ total_len (take l.image-index l.images)

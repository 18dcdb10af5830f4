use Rattle.std.proofs.Common.{◌≡◌, drop}
use Rattle.nb_image.specs.FirstLine.{ends_blank}
use Rattle.nb_image.proofs.first_line.ends_blank.Given as goal

abbrev pub invariant-loop-at : goal.invariant-loop-at
invariant-loop-at l = ends_blank (drop l.at l.body) ≡ ends_blank (drop l.from l.body)

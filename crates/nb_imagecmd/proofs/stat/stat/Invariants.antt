use Rattle.std.proofs.Common.{◌≡◌, take}
use Rattle.std.specs.Prelude.{map}
use Rattle.std.specs.List.{enumerate_from}
use Rattle.nb_imagecmd.specs.Stat.{stat_line}
use Rattle.nb_imagecmd.proofs.stat.stat.Given as goal

-- the lines of the images so far
abbrev pub invariant-loop-i : goal.invariant-loop-i
invariant-loop-i l = l.lines.items ≡ map (stat_line l.images.selected) (enumerate_from 0 (take l.i l.images.images))

use Rattle.std.proofs.Common.{◌≡◌, ◌++◌, codes}
use Rattle.std.specs.List.{flat_map, range_with_len}
use Rattle.nb_lab.specs.Scripts.{fetch_lines}
use Rattle.nb_lab.proofs.script.script.Given as goal

-- the lines of the images so far
abbrev pub invariant-loop-i : goal.invariant-loop-i
invariant-loop-i l = l.text.items ≡ codes "#!ipxe\n" ++ flat_map fetch_lines (range_with_len 0 l.i)

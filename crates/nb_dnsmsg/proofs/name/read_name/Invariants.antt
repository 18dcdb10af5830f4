use Rattle.std.proofs.Common.{length, ◌≤◌}
use Rattle.nb_dnsmsg.specs.Walks.{PassesBytes, way_left}
use Rattle.nb_dnsmsg.proofs.WalkLemmas.{begun}
use Rattle.nb_dnsmsg.proofs.name.read_name.Given as goal

-- the text that was put is what the walk has passed
abbrev pub invariant-pieces : goal.invariant-pieces
invariant-pieces l = record {
  passed : PassesBytes l.to.items l.message (begun l.fn.place) l.walk;
  room : length l.to.items ≤ 255;
}

abbrev pub decreases-pieces : goal.decreases-pieces
decreases-pieces l = way_left l.message l.walk

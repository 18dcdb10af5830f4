use Rattle.std.proofs.Common.{◌≡◌, ◌++◌, []}
use Rattle.nb_script.specs.Joined.{closed}
use Rattle.nb_script.proofs.joined.JoinedLines.close.Given as goal

abbrev pub invariant-loop-self : goal.invariant-loop-self
invariant-loop-self l =
    (l.self.lines ++ closed l.self.held l.self.front ≡ l.initial.self.lines ++ closed l.initial.self.held l.initial.self.front) × ((l.initial.self.held ≡ 0 → l.initial.self.front ≡ []) → l.self.held ≡ 0 → l.self.front ≡ [])

abbrev pub decreases-loop-self : goal.decreases-loop-self
decreases-loop-self l = l.self.held

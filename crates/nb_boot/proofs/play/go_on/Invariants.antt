use Rattle.nb_client.specs.Progressing.{IsAtWork, most_moves}
use Rattle.nb_boot.proofs.Turned.{Keeps}
use Rattle.nb_boot.proofs.play.go_on.Given as goal

-- the step isn't over, and whatever run went on before goes on
abbrev pub invariant-moves : goal.invariant-moves
invariant-moves g l = IsAtWork l.client.stage × Keeps (g.L.Line.outside l.fn.line) (g.L.Line.outside l.line) l.fn.log l.log l.fn.client l.client

abbrev pub decreases-moves : goal.decreases-moves
decreases-moves g l = most_moves l.client.stage l.client

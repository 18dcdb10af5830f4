use Rattle.std.proofs.Common.{ℕ}
use Rattle.nb_labrun.specs.Playing.{TurnGathers, TurnLeaves, turns_left}
use Rattle.nb_labrun.proofs.run.end_step.Given as goal

-- the client stands after this turn, and what the first turn gathered leads to what this one has
abbrev pub invariant-moves : goal.invariant-moves
invariant-moves l = TurnLeaves l.turn l.client.stage
    × ((images used : ℕ) → TurnGathers l.fn.first images used l.fn.log l.fn.lab l.fn.summary l.fn.client → TurnGathers l.turn images used l.log l.lab l.summary l.client)

abbrev pub decreases-moves : goal.decreases-moves
decreases-moves l = turns_left l.turn l.client

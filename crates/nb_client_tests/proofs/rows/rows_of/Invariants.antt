use Rattle.std.proofs.Common.{length}
use Rattle.nb_client_tests.proofs.rows.rows_of.Given as goal

abbrev pub decreases-loop-row : goal.decreases-loop-row
decreases-loop-row l = length l.rest

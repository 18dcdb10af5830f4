use Rattle.std.proofs.Common.{◌≤◌, length}
use Rattle.nb_httpmsg.proofs.BlockLemmas.{Passed}
use Rattle.nb_httpmsg.proofs.block.find_block.Given as goal

abbrev pub invariant-loop-line : goal.invariant-loop-line
invariant-loop-line l = record { within : l.at ≤ length l.text; passed : Passed l.most l.text l._line l.at }

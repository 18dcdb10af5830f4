use Rattle.std.proofs.Common.{◌≡◌, ◌≤◌, ◌<◌, ◌-◌, length, take}
use Rattle.nb_responses.specs.Lines.{first_block, most_lines, unfinished}
use Rattle.nb_http.proofs.head_step.deciding.Given as goal

abbrev pub invariant-loop-high : goal.invariant-loop-high
invariant-loop-high l = record {
  less : l.low < l.high;
  within : l.high ≤ length l.bytes;
  unended : first_block most_lines (take l.low l.bytes) ≡ unfinished;
  decided : first_block most_lines (take l.high l.bytes) ≡ unfinished → ⊥;
}

abbrev pub decreases-loop-high : goal.decreases-loop-high
decreases-loop-high l = l.high - l.low

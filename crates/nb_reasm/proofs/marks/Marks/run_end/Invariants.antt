use Rattle.std.proofs.Common.{◌-◌, ◌≡◌, ℕ, ◌<◌, ◌≤◌}
use Rattle.nb_reasm.specs.Slots.{slot_mark, mark_of}
use Rattle.nb_reasm.proofs.marks.Marks.run_end.Given as goal

abbrev pub invariant-loop-at : goal.invariant-loop-at
invariant-loop-at l = record {
  some : l.slot < l.at;
  most : l.at ≤ l.end;
  alike : (i : ℕ) → l.slot ≤ i → i < l.at → slot_mark l.self.words.items i ≡ mark_of l.marked;
}

abbrev pub decreases-loop-at : goal.decreases-loop-at
decreases-loop-at l = l.end - l.at

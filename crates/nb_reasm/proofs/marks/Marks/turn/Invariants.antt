use Rattle.std.proofs.Common.{◌-◌, ◌+◌, ◌≡◌, ◌⊎◌, ℕ, ◌<◌, ◌≤◌, vec_len}
use Rattle.nb_reasm.specs.Slots.{slot_mark}
use Rattle.nb_reasm.proofs.marks.Marks.turn.Given as goal

abbrev pub invariant-loop-at : goal.invariant-loop-at
invariant-loop-at l = record {
  from : l.slot ≤ l.at;
  to : l.at ≤ l.end;
  turned : (i : ℕ) → l.slot ≤ i → i < l.at → slot_mark l.self.words.items i + slot_mark l.initial.self.words.items i ≡ 1;
  others : (i : ℕ) → (i < l.slot) ⊎ (l.at ≤ i) → slot_mark l.self.words.items i ≡ slot_mark l.initial.self.words.items i;
  room : vec_len l.self.words ≡ vec_len l.initial.self.words;
}

abbrev pub decreases-loop-at : goal.decreases-loop-at
decreases-loop-at l = l.end - l.at

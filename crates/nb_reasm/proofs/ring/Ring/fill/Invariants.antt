use Rattle.std.proofs.Common.{◌≡◌, ℕ, ◌-◌, ◌<◌, ◌≤◌, ◌⊎◌, Some, slice_index}
use Rattle.std.specs.Option.{option_or}
use Rattle.nb_reasm.specs.Rings.{IsJoinable, SameWindow, held_byte}
use Rattle.nb_reasm.specs.Windows.{window_of, is_new, places_count}
use Rattle.nb_reasm.proofs.ring.Ring.fill.Given as goal

abbrev pub invariant-loop-at : goal.invariant-loop-at
invariant-loop-at l = record {
  ring : IsJoinable l.self;
  same : SameWindow l.initial.self l.self;
  next : l.self.next ≡ l.initial.self.next;
  from : l.from ≤ l.at;
  to : l.at ≤ l.to;
  inside : (p : ℕ) → l.from ≤ p → p < l.at → held_byte l.self p ≡ option_or (held_byte l.initial.self p) (Some (slice_index l.bytes (p - l.pos)));
  outside : (p : ℕ) → (p < l.from) ⊎ (l.at ≤ p) → held_byte l.self p ≡ held_byte l.initial.self p;
  count : l.count ≡ places_count (is_new (window_of l.initial.self)) l.from (l.at - l.from);
  few : l.count ≤ l.at - l.from;
}

abbrev pub decreases-loop-at : goal.decreases-loop-at
decreases-loop-at l = l.to - l.at

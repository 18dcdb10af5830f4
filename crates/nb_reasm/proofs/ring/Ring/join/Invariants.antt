use Rattle.std.proofs.Common.{◌≡◌, ℕ, ◌+◌, ◌-◌}
use Rattle.nb_reasm.specs.Rings.{IsJoinable, SameWindow, held_byte, capacity}
use Rattle.nb_reasm.proofs.ring.Ring.join.Given as goal

abbrev pub invariant-loop-self : goal.invariant-loop-self
invariant-loop-self l = record {
  ring : IsJoinable l.self;
  same : SameWindow l.initial.self l.self;
  held : (p : ℕ) → held_byte l.self p ≡ held_byte l.initial.self p;
}

abbrev pub decreases-loop-self : goal.decreases-loop-self
decreases-loop-self l = (l.self.base + capacity l.self) - l.self.next

-- What a message that goes up, or time, leaves, whatever it nests: events that are a run; objects may be made.
use Rattle.nb_ledger.specs.Flat.{Heard}
use Rattle.std.specs.Prelude.{◌≡◌, ℕ, ◌+◌, ◌-◌, ◌*◌, ◌^◌, List, true, Option}
use Rattle.nb_ledger.specs.declared.event.GraphEvent.{GraphEvent}
use Rattle.nb_ledger.specs.GraphRun.{OnStack, IsIdle, RunsIn, GraphRunOf}
use Rattle.nb_ledger.specs.Flat.{Tells}
use Rattle.nb_effects.specs.Whole.{Ages}
use Rattle.nb_ledger.specs.Ledger.{Ledger, rank, port, busy, leaves, run_state, Agrees}

-- no entry and no half-closed link ends or begins, and an object that runs keeps its rank
pub record GrowsLively (old new : Ledger) : Type 0 where
  pub same_room : new.room ≡ old.room
  pub same_busy : (x : ℕ) → busy new x ≡ busy old x
  pub same_leaves : (x k : ℕ) → leaves (port new x k) ≡ leaves (port old x k)
  pub ages : Ages old new
  pub kept : (x : ℕ) → busy old x ≡ true → rank new x ≡ rank old x

-- the events are a run over any stack that the book agrees with
pub record Lively (old new : Ledger) (before after : Heard) : Type 0 where
  pub added : List GraphEvent
  pub told : Tells before after added
  pub run : (st : List OnStack) → IsIdle st → Agrees old st → GraphRunOf (run_state old st) added (run_state new st)
  pub grows : GrowsLively old new

-- the same, where the innermost entry is one of the object x
pub record LivelyIn (x : ℕ) (old new : Ledger) (before after : Heard) : Type 0 where
  pub added : List GraphEvent
  pub told : Tells before after added
  pub run : (st : List OnStack) → RunsIn st x → Agrees old st → GraphRunOf (run_state old st) added (run_state new st)
  pub grows : GrowsLively old new

-- how far a message that goes up has to go: by rank, then by the bytes left, then by the place in the code
abbrev pub reach : ℕ → ℕ → ℕ → ℕ
reach r len place = 2 ^ 70 * (256 - r) + 16 * len + place

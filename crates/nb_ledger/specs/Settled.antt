-- An object is freed where its count is 0.
use Rattle.nb_ledger.specs.Flat.{Heard}
use Rattle.std.specs.Prelude.{◌≡◌, List, Option, true, false, ◌⊎◌}
use Rattle.nb_ledger.specs.declared.port.ObjId.{ObjId}
use Rattle.nb_ledger.specs.declared.event.GraphEvent.{GraphEvent}
use Rattle.nb_ledger.specs.GraphRun.{OnStack, GraphRunOf, owed}
use Rattle.nb_ledger.specs.Flat.{Tells}
use Rattle.nb_ledger.specs.Ledger.{Ledger, Agrees, run_state, unused}
use Rattle.nb_ledger.specs.Changes.{Removes}

-- what was owed for an object is done: it is freed where it is unused, and else nothing happens
pub record Settles (old new : Ledger) (before after : Heard) (id : ObjId) : Type 0 where
  pub added : List GraphEvent
  pub told : Tells before after added
  pub run : (st : List OnStack) → Agrees old st → GraphRunOf (owed id.0 (run_state old st)) added (run_state new st)
  pub how : ((new ≡ old) × (unused old id.0 ≡ false)) ⊎ ((unused old id.0 ≡ true) × Removes old new id.0)

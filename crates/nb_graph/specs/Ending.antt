-- What letting holds go leaves.
use Rattle.std.specs.Prelude.{◌≡◌, ℕ, ◌≤◌}
use Rattle.nb_effects.specs.Whole.{Ages}
use Rattle.nb_ledger.specs.Ledger.{Ledger, holds, port, open_count}

-- no hold and no open port comes, and none is made
pub record OnlyLetsGo (old new : Ledger) : Type 0 where
  pub same_made : new.made ≡ old.made
  pub ages : Ages old new
  pub holds_fall : (x : ℕ) → holds new x ≤ holds old x
  pub closes : (x k : ℕ) → open_count (port new x k) ≤ open_count (port old x k)

-- Each live object of a graph has a node.
use Rattle.std.specs.Prelude.{◌≡◌, ℕ, true, Some}
use Rattle.nb_ledger.specs.Ledger.{object_lives, rank}
use Rattle.nb_effects.specs.Whole.{Objects, node_at}

-- the object x has a node, of the rank that the book has
pub record HasNode {N : Type 0} (rank_of : N → ℕ) (g : Objects N) (x : ℕ) : Type 0 where
  pub node : N
  pub is_node : node_at g x ≡ Some node
  pub at_rank : rank_of node ≡ rank g.book x

-- so has each that lives
abbrev pub AreNoded : {N : Type 0} → (N → ℕ) → Objects N → Type 0
AreNoded rank_of g = (x : ℕ) → object_lives g.book x ≡ true → HasNode rank_of g x

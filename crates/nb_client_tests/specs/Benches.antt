-- The opens of a test's client.
use Rattle.std.specs.Prelude.{ℕ, ◌≤◌, ◌*◌}
use Rattle.nb_stack.specs.Client.{Client}
use Rattle.nb_network.specs.Many.{AreSound, Many}

-- how many were made, and those that live
pub record Benched : Type 0 where
  pub made : ℕ
  pub many : Many

-- they are a client's, whose first port is 49152
pub record AreWell (made : ℕ) (net : Client) (m : Many) : Type 0 where
  pub sound : AreSound 0 made net m
  pub serials : m.graph.book.made ≤ 3 * made

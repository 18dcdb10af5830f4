-- what an Out is to its users: the bytes put so far, and the number of bytes for which there is still room
use Rattle.std.specs.Prelude.{ℕ, List}

pub record Room : Type 0 where
  pub written : List ℕ
  pub left : ℕ

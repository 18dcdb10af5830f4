-- What a delivery is to its users: the frames on their way, and for how many more there is room
use Rattle.std.specs.Prelude.{ℕ}
use Rattle.nb_lab.specs.Transits.{Transit}

pub record Way : Type 0 where
  pub transit : Transit
  pub room : ℕ

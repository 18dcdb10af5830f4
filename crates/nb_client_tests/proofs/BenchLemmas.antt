-- A test's client is well before any open, and stays so.
use Rattle.std.proofs.Common.{◌≡◌, ℕ, false, List, [], ◌∷◌, refl, arith}
use Rattle.nb_machine.specs.Lives.{Live}
use Rattle.nb_machine.specs.Starting.{no_images}
use Rattle.nb_machine.specs.States.{State, bare}
use Rattle.nb_stack.specs.Client.{Client}
use Rattle.nb_network.specs.Many.{AreSound, IsStateOf, Many}
use Rattle.nb_network.proofs.Sound.{some_live}
use Rattle.nb_client_tests.specs.Benches.{AreWell}

-- a state of the machine that has them
abbrev state_of : Client → ℕ → List Live → State
state_of net now live = record {
  w = 0;
  machine = record { uuid = []; arch = 0; key = [] };
  now = now;
  devices = bare net ∷ [];
  up = false;
  table = record { blocks = []; settings = [] };
  images = no_images;
  drives = [];
  opens = 0;
  live = live;
}

pub some_state : (w opens now : ℕ) (net : Client) (m : Many) → AreSound w opens net m → (s : State) × IsStateOf m net now s
some_state w opens now net m sound =
    let ls = some_live m.graph m.list sound.lives in
    (state_of net now ls.0, record { devices = refl; time = refl; live = ls.1 })

-- what a record leaves is well
pub stay_well : (made : ℕ) (net net' : Client) (m m' : Many) → AreWell made net m → AreSound 0 made net' m' → m'.graph.book.made ≡ m.graph.book.made → AreWell made net' m'
stay_well made net net' m m' well sound same = record { sound = sound; serials = omega (arith, well.serials, same) }

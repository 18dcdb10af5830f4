-- What the records of a course say of the state in which a command waits: all of it but the scripts and the images.
use Rattle.std.specs.Prelude.{◌≡◌, List, [], ◌∷◌}
use Rattle.std.specs.List.{AllByRecursion}
use Rattle.nb_machine.specs.Lives.{Live}
use Rattle.nb_machine.specs.States.{State}
use Rattle.nb_laws.specs.CommandsSoFar.{so_far}
use Rattle.nb_laws.specs.Events.{Event}
use Rattle.nb_laws.specs.Histories.{client}
use Rattle.nb_laws.specs.Lists.{time, made, port_offset, hardware, openings, calls}
use Rattle.nb_laws.specs.Lists as lists
use Rattle.nb_openlaws.specs.Standings.{live_opening, heard_calls, IsKindBy}

-- an open that lives: its OPEN, and all that has come to it; its numbers are those of START's key
pub record IsLiveBy (es : List Event) (l : Live) : Type 0 where
  pub is_opening : openings l.number es ≡ live_opening l ∷ []
  pub is_received : calls l.number es ≡ heard_calls l.kind l.exchanges
  pub is_kind : IsKindBy (hardware es) l.number l.kind (live_opening l)
  pub lives : lists.live l.number es ≡ live_opening l ∷ []

-- the time, the device with its neighbours, the settings, how many opens were made, and each open that lives
pub record IsStateBy (es : List Event) (s : State) : Type 0 where
  pub is_time : time es ≡ s.now
  pub is_device : s.devices ≡ client es ∷ []
  pub is_table : (so_far es).table ≡ s.table
  pub is_up : (so_far es).up ≡ s.up
  pub is_offset : port_offset es ≡ s.w
  pub is_made : made es ≡ s.opens
  pub each : AllByRecursion (IsLiveBy es) s.live

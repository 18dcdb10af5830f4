-- What is seen of a graph's book where something happens, and what events leave of it: our own.
use Rattle.std.specs.Prelude.{◌≡◌, ℕ, ◌+◌, ◌-◌, ◌^◌, ◌⊎◌, Bool, true, false, length}
use Rattle.nb_ledger.specs.declared.port.Port.{Port}
use Rattle.nb_ledger.specs.declared.port.PortState.{PortState}
use Rattle.nb_ledger.specs.declared.port.PortState.TheVariants.{Open, Linked, Leaving, Closed as Shut}
use Rattle.nb_ledger.specs.declared.event.GraphEvent.{GraphEvent}
use Rattle.nb_ledger.specs.declared.event.GraphEvent.TheVariants.{Made, Held, LetGo, Plugged, Entered, Left, Dropped, Closed, Unplugged, Freed}
use Rattle.nb_ledger.specs.GraphRun.{but_at, new_ports, port_but, ports_but}
use Rattle.nb_ledger.specs.Ledger.{Ledger, object_lives, port}

-- the ports, which objects live and how many, how many may live, and how many were made
pub record Scene : Type 0 where
  pub port : ℕ → ℕ → PortState
  pub live : ℕ → Bool
  pub number : ℕ
  pub room : ℕ
  pub made : ℕ

-- that of a book
abbrev pub scene_of : Ledger → Scene
scene_of l = record { port = port l; live = object_lives l; number = length l.objects; room = l.room; made = l.made }

-- the state of a port
abbrev pub state_at : Scene → Port → PortState
state_at s p = s.port p.obj.0 p.slot

-- nothing can be made: as many objects live as may, or no serial is left
abbrev pub IsGraphFull : Scene → Type 0
IsGraphFull s = (s.number ≡ s.room) ⊎ (s.made ≡ 2 ^ 64 - 1)

-- a port that is closed: its link is still to be unplugged, if it has one
abbrev pub shut_of : PortState → PortState
shut_of Open = Shut
shut_of (Linked q) = Leaving q
shut_of (Leaving q) = Leaving q
shut_of Shut = Shut

-- with these ports
abbrev pub with_ports : (ℕ → ℕ → PortState) → Scene → Scene
with_ports f s = record s { port = f }

-- after an event
abbrev pub after_noted : GraphEvent → Scene → Scene
after_noted (Made y kind) s = record { port = ports_but y.0 new_ports s.port; live = but_at y.0 true s.live; number = s.number + 1; room = s.room; made = y.0 }
after_noted (Held y) s = s
after_noted (LetGo y) s = s
after_noted (Plugged p q) s = with_ports (port_but q (Linked p) (port_but p (Linked q) s.port)) s
after_noted (Entered p by) s = s
after_noted (Left p) s = s
after_noted (Dropped p) s = s
after_noted (Closed p cause) s = with_ports (port_but p (shut_of (state_at s p)) s.port) s
after_noted (Unplugged p q) s = with_ports (port_but q Shut (port_but p Shut s.port)) s
after_noted (Freed y) s = record { port = ports_but y.0 (λ _. Shut) s.port; live = but_at y.0 false s.live; number = s.number - 1; room = s.room; made = s.made }

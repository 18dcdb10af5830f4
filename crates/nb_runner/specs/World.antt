-- What a run has beside its script, as START gives it: the client's link, its clock, its opens, its settings, its images and its drives.
use Rattle.std.specs.Prelude.{◌≡◌, ℕ, ◌+◌, Bool, false, List, [], Option}
use Rattle.nb_defs.specs.Records.{Start}
use Rattle.nb_stack.specs.Client.{Client}
use Rattle.nb_stack.specs.Bound.{with_port, without}
use Rattle.nb_image.specs.Images.{ImageList}
use Rattle.nb_settings.specs.Tables.{TableLists, root_alone}
use Rattle.nb_drivecmd.specs.declared.drive.Drive.{Drive}
use Rattle.nb_command.specs.declared.state.State.{State}
use Rattle.nb_machine.specs.Effects.{Surroundings}
use Rattle.nb_machine.specs.StartTable.{start_table}
use Rattle.nb_machine.specs.Link.{address_in_table, link_by}
use Rattle.nb_machine.specs.Running.{Running}
use Rattle.nb_runner.specs.declared.world.World.{World}
use Rattle.nb_machine.specs.Starting.{identity_of, device_of, is_up, net_of, no_images, own_port}

-- settings, images, drives, and whether the device is up
abbrev pub state_of : TableLists → ImageList → List Drive → Bool → State
state_of table images drives up = record { table = table; images = images; drives = drives; up = up }

-- before START was used there are no settings, and so no address
abbrev pub bare_world : Start → World
bare_world s = record { w = s.w; machine = identity_of s; time = 0; net = link_by root_alone false (device_of s); opens = 0; state = state_of root_alone no_images [] false; outer = [] }

abbrev pub world_of : Start → World
world_of s = record { w = s.w; machine = identity_of s; time = 0; net = net_of s; opens = 0; state = state_of (start_table s) no_images [] (is_up s); outer = [] }

-- the same, with another link, so many milliseconds later, with other images, with other drives
abbrev pub with_net : World → Client → World
with_net w net = record { w = w.w; machine = w.machine; time = w.time; net = net; opens = w.opens; state = w.state; outer = w.outer }

abbrev pub world_later : World → ℕ → World
world_later w ms = record { w = w.w; machine = w.machine; time = w.time + ms; net = w.net; opens = w.opens; state = w.state; outer = w.outer }

abbrev pub world_with_images : World → ImageList → World
world_with_images w images = record { w = w.w; machine = w.machine; time = w.time; net = w.net; opens = w.opens; state = state_of w.state.table images w.state.drives w.state.up; outer = w.outer }

abbrev pub world_with_drives : World → List Drive → World
world_with_drives w drives = record { w = w.w; machine = w.machine; time = w.time; net = w.net; opens = w.opens; state = state_of w.state.table w.state.images drives w.state.up; outer = w.outer }

-- with other settings, images and state of its device, before its link follows
abbrev pub with_state : World → State → World
with_state w state = record { w = w.w; machine = w.machine; time = w.time; net = w.net; opens = w.opens; state = state; outer = w.outer }

-- with other settings and its device up or down, which its link follows
abbrev pub world_with : World → TableLists → Bool → World
world_with w table up = record { w = w.w; machine = w.machine; time = w.time; net = link_by table up w.net; opens = w.opens; state = state_of table w.state.images w.state.drives up; outer = w.outer }

-- the link is the one that the settings and the device's state say
pub record IsLinkOfState (w : World) : Type 0 where
  pub address : w.net.address ≡ address_in_table w.state.table
  pub up : w.net.up ≡ w.state.up

-- with one more open, whose port is bound
abbrev pub with_open : World → World
with_open w = record {
  w = w.w;
  machine = w.machine;
  time = w.time;
  net = record w.net { ports = with_port 17 (own_port w.w w.opens) w.opens w.net.ports };
  opens = w.opens + 1;
  state = w.state;
  outer = w.outer;
}

-- with a port freed
abbrev pub unbound : World → ℕ → World
unbound w own = with_net w (record w.net { ports = without 17 own w.net.ports })

-- with one more open that was made, and has ended
abbrev pub with_ended_open : World → World
with_ended_open w = record { w = w.w; machine = w.machine; time = w.time; net = w.net; opens = w.opens + 1; state = w.state; outer = w.outer }

-- with these scripts outside the one that runs
abbrev pub world_within : World → List Running → World
world_within w outer = record { w = w.w; machine = w.machine; time = w.time; net = w.net; opens = w.opens; state = w.state; outer = outer }

-- what a command finds of a script that was fetched from this URI, if it was, and is of this depth
abbrev pub surroundings_in_world : World → Option (List ℕ) → ℕ → Surroundings
surroundings_in_world w base depth = record { opens = w.opens; table = w.state.table; images = w.state.images; drives = w.state.drives; base = base; depth = depth }

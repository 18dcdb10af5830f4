-- What a run has beside its scripts. Every phase from START on keeps it.
use Rattle.std.specs.Prelude.{ℕ, ◌+◌, ◌==◌, Bool, List, [], ◌∷◌, ◌++◌, take, drop, filter}
use Rattle.std.specs.List.{list_any}
use Rattle.nb_defs.specs.Records.{Start}
use Rattle.nb_image.specs.Images.{ImageList}
use Rattle.nb_stack.specs.Client.{Client}
use Rattle.nb_settings.specs.Tables.{TableLists}
use Rattle.nb_drivecmd.specs.declared.drive.Drive.{Drive}
use Rattle.nb_drivecmd.specs.HookedDrives.{with_hooked}
use Rattle.nb_machine.specs.StartTable.{start_table}
use Rattle.nb_machine.specs.Link.{link_by}
use Rattle.nb_machine.specs.declared.identity.Identity.{Identity}
use Rattle.nb_machine.specs.Starting.{identity_of, is_up, net_of, no_images}
use Rattle.nb_machine.specs.Lives.{Live}

-- The time in milliseconds; the devices, net0 first, each as the client that stands on it (ports aren't kept: an open
-- has its own); whether net0 is up; the settings; the images; the drives that are hooked, by rising number; how many opens were made; and
-- the opens that live, by rising number. `w` is
-- START's, from which own ports are counted, and so is the machine's identity, from which opens have their numbers and clients their names.
pub record State : Type 0 where
  pub w : ℕ
  pub machine : Identity
  pub now : ℕ
  pub devices : List Client
  pub up : Bool
  pub table : TableLists
  pub images : ImageList
  pub drives : List Drive
  pub opens : ℕ
  pub live : List Live

-- the client without its ports
abbrev pub bare : Client → Client
bare c = record { mac = c.mac; address = c.address; up = c.up; near = c.near; ports = [] }

-- the one device that START gives
abbrev pub net0 : ℕ
net0 = 0

abbrev pub state_at_start : Start → State
state_at_start s = record { w = s.w; machine = identity_of s; now = 0; devices = net_of s ∷ []; up = is_up s; table = start_table s; images = no_images; drives = []; opens = 0; live = [] }

abbrev pub with_device : State → ℕ → Client → State
with_device s device link = record s { devices = take device s.devices ++ link ∷ drop (device + 1) s.devices }

-- a drive is hooked as long as its open lives
abbrev pub has_open : List Live → Drive → Bool
has_open live drive = list_any (λ l. l.number == drive.open_number) live

abbrev pub still_hooked : List Live → List Drive → List Drive
still_hooked live drives = filter (has_open live) drives

-- with these opens, and the drives of which the open is among them
abbrev pub with_live : State → List Live → State
with_live s live = record s { live = live; drives = still_hooked live s.drives }

-- with a drive more, which takes the place of that of its number, if its open lives
abbrev pub with_drive : State → Drive → State
with_drive s drive = record s { drives = still_hooked s.live (with_hooked drive s.drives) }

abbrev pub with_images : State → ImageList → State
with_images s images = record s { images = images }

-- net0's client with the address that the settings give it, up or down
abbrev pub following : TableLists → Bool → List Client → List Client
following table up [] = []
following table up (link ∷ others) = link_by table up link ∷ others

-- with other settings, and net0 up or down, which its client follows
abbrev pub with_settings : State → TableLists → Bool → State
with_settings s table up = record s { devices = following table up s.devices; up = up; table = table }

abbrev pub later_by : State → ℕ → State
later_by s ms = record s { now = s.now + ms }

-- with one more open that was made, and lives
abbrev pub with_opened : State → Live → State
with_opened s l = record s { opens = s.opens + 1; live = s.live ++ l ∷ [] }

-- with one more open that was made, and lives no more
abbrev pub with_one_made : State → State
with_one_made s = record s { opens = s.opens + 1 }

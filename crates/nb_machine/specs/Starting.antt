-- What START gives a run beside its script, and the client's ports.
use Rattle.std.specs.Prelude.{ℕ, ◌+◌, ◌%◌, ◌==◌, Bool, false, not, [], None}
use Rattle.nb_defs.specs.Records.{Start}
use Rattle.nb_stack.specs.Client.{Client}
use Rattle.nb_image.specs.Images.{ImageList}
use Rattle.nb_machine.specs.StartTable.{start_table}
use Rattle.nb_machine.specs.Link.{link_by}
use Rattle.nb_machine.specs.declared.identity.Identity.{Identity}

-- what START tells of the machine
abbrev pub identity_of : Start → Identity
identity_of s = record { uuid = s.uuid; arch = s.arch; key = s.key }

-- the device of START, down and without an address; it knows no neighbours
abbrev pub device_of : Start → Client
device_of s = record { mac = record { 0 = s.mac }; address = None; up = false; near = []; ports = [] }

-- the device is up from START on where that has an address
abbrev pub is_up : Start → Bool
is_up s = not (s.ip == 0)

-- the link that START's settings give
abbrev pub net_of : Start → Client
net_of s = link_by (start_table s) (is_up s) (device_of s)

abbrev pub no_images : ImageList
no_images = record { images = []; selected = None }

-- the client's port of the open of this number
abbrev pub own_port : ℕ → ℕ → ℕ
own_port w number = 49152 + (w + number) % 16384

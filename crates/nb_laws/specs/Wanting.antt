-- Which file a command fetches by an open, as what it comes to says.
use Rattle.std.specs.Prelude.{ℕ, ◌==◌, ◌&&◌, Bool, true, List, Option, Some, None}
use Rattle.std.specs.Option.{option_map_or}
use Rattle.std.specs.Str.{bytes_eq}
use Rattle.nb_imagecmd.specs.Asking.{target_host, target_port, target_text}
use Rattle.nb_uri.specs.Addresses.{four_decimals}
use Rattle.nb_uri.specs.declared.target.UriTarget.{UriTarget}
use Rattle.nb_uri.specs.declared.target.UriTarget.TheVariants.{Tftp, Http, Iscsi}
use Rattle.nb_machine.specs.Effects.{Effect, says, asks, goes, sleeps, shuts_device, inquires, on_images, on_drives, hooks_disk, unhooks_drive, boots_drive, concludes_at_once}
use Rattle.nb_machine.specs.Errands.{Wanted, fetches_then, echoes_then, hooks_then}
use Rattle.nb_machine.specs.Queries.{Query, for_lease, for_echo, for_host, for_address}
use Rattle.nb_laws.specs.Lists.{Opening}

-- the file that a command fetches by this open, after it has looked its server up: the server is the open's, whose address `FindsHost` says
abbrev pub wanted_of_host : Query → Opening → Option Wanted
wanted_of_host (for_host (fetches_then asking) name by) o = Some (record { server = o.server; asking = asking })
wanted_of_host (for_host echoes_then name by) o = None
wanted_of_host (for_host (hooks_then hooking) name by) o = None
wanted_of_host for_lease o = None
wanted_of_host (for_echo server) o = None
wanted_of_host (for_address setting name by) o = None

-- the file that a command fetches by this open, as it comes to this
abbrev pub wanted_by : Effect → Opening → Option Wanted
wanted_by (asks wanted) o = Some wanted
wanted_by (says outcome) o = None
wanted_by (goes name) o = None
wanted_by (sleeps seconds) o = None
wanted_by shuts_device o = None
wanted_by (inquires q) o = wanted_of_host q o
wanted_by (on_images command) o = None
wanted_by (on_drives command) o = None
wanted_by (hooks_disk hooking) o = None
wanted_by (unhooks_drive number cause) o = None
wanted_by (boots_drive number) o = None
wanted_by (concludes_at_once c) o = None

-- the kind of an open for a target: 1 by TFTP, 2 by HTTP; a disk isn't fetched
abbrev pub target_kind : UriTarget → ℕ
target_kind (Tftp host port path whole) = 1
target_kind (Http host port path whole) = 2
target_kind (Iscsi host port lun name whole) = 1

-- an open asks for this target: by its scheme, at its port, for its path or its whole URI
abbrev pub is_open_at : UriTarget → Opening → Bool
is_open_at target o = (o.kind == target_kind target) && ((o.port == target_port target) && bytes_eq o.target (target_text target))

-- an open asks its server for this file
abbrev pub is_open_of : Wanted → Opening → Bool
is_open_of wanted o = (o.server == wanted.server) && is_open_at wanted.asking.target o

-- a host may have this server: four decimals are its address, and of a name a look-up finds it
abbrev pub may_serve : (host : List ℕ) → (server : ℕ) → Bool
may_serve host server = option_map_or (λ address. address == server) (four_decimals host) true

-- an open asks a server of its host for this target
abbrev pub is_open_for : UriTarget → Opening → Bool
is_open_for target o = may_serve (target_host target) o.server && is_open_at target o

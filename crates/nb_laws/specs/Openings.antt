-- What an OPEN is for: its kind, its server and the rest are those that the words of the command say.
use Rattle.std.specs.Prelude.{◌≡◌, ℕ, ◌-◌, true, false, List, [], ◌∷◌, ◌++◌, Some, None, Ok}
use Rattle.std.specs.List.{list_any}
use Rattle.nb_imagecmd.specs.Asking.{target_port, target_text}
use Rattle.nb_machine.specs.Starting.{own_port}
use Rattle.nb_machine.specs.Effects.{asks, inquires, hooks_disk, next_at_target, onward_effect}
use Rattle.nb_machine.specs.Errands.{Wanted, Errand, Onward, fetches_now, echoes_now, hooks_now, looks_up_now, onward}
use Rattle.nb_dns.specs.WrittenNames.{is_lookup_name}
use Rattle.nb_wire.specs.declared.address.Ip4.{Ip4}
use Rattle.nb_machine.specs.Queries.{Query, for_lease, for_echo, for_host, for_address, dns_in, with_domain}
use Rattle.nb_machine.specs.Saying.{OpenFields}
use Rattle.nb_laws.specs.Events.{Event}
use Rattle.nb_dns.specs.LookupReplies.{address_found}
use Rattle.nb_command.specs.SettingAddresses.{host}
use Rattle.nb_laws.specs.Lists.{hardware, port_offset, Opening, openings, datagrams_of, made, last_end, came_ok}
use Rattle.nb_laws.specs.CommandOpens.{command_open}
use Rattle.nb_laws.specs.Hookings.{hooked_drives}
use Rattle.nb_laws.specs.Cores.{lookup_by, looked_at}
use Rattle.nb_laws.specs.CommandsSoFar.{so_far, ComesTo}
use Rattle.nb_drivecmd.specs.HookedDrives.{is_drive}
use Rattle.nb_drivecmd.specs.declared.outcome.Hooking.{Hooking}
use Rattle.nb_uri.specs.Addresses.{four_decimals}
use Rattle.nb_laws.specs.Moves.{MovedOpen, moves}
use Rattle.nb_laws.specs.Wanting.{target_kind}
use Rattle.nb_settings.specs.Tables.{TableLists}

-- an open of a file's kind, for the file that the words of the command and the settings name: from the own port that goes with its number
-- to the file's port of its server; the command has made no open before
pub record OpensFile (es : List Event) (number kind server port own : ℕ) (target : List ℕ) : Type 0 where
  pub first : command_open es ≡ None
  pub own_is : own ≡ own_port (port_offset es) number
  pub wanted : Wanted
  pub names : ComesTo es number (asks wanted)
  pub kind_is : kind ≡ target_kind wanted.asking.target
  pub server_is : server ≡ wanted.server
  pub port_is : port ≡ target_port wanted.asking.target
  pub target_is : target ≡ target_text wanted.asking.target

-- What the open of this number says that asks for a lease (5), an echo (6) or the address of a name or a server (4). A lease is asked of all hosts,
-- from port 68 to port 67; an echo of a host, with the number as identifier; and an address of a name server's port 53, from
-- the own port that goes with the number.
abbrev pub inquiry_fields : (offset number : ℕ) → Query → OpenFields
inquiry_fields offset number for_lease = record { kind = 5; server = 4294967295; port = 67; own = 68; target = [] }
inquiry_fields offset number (for_echo server) = record { kind = 6; server = server; port = 0; own = number; target = [] }
inquiry_fields offset number (for_host errand name by) = record { kind = 4; server = by; port = 53; own = own_port offset number; target = name }
inquiry_fields offset number (for_address setting name by) = record { kind = 4; server = by; port = 53; own = own_port offset number; target = name }

-- an open for what the words of the command ask by one exchange; the command has made no open before
pub record OpensQuery (es : List Event) (number : ℕ) (fields : OpenFields) : Type 0 where
  pub first : command_open es ≡ None
  pub query : Query
  pub names : ComesTo es number (inquires query)
  pub fields_are : fields ≡ inquiry_fields (port_offset es) number query

-- What the open says that a command makes of a server whose name was looked up: the file (1 or 2), or the echo (6), or the drive (3), whose
-- target is the disk's name, a zero, and its unit's number; or that asks for the address of another server (4), to which its file was moved.
abbrev pub onward_fields : (offset number : ℕ) → Onward → OpenFields
onward_fields offset number (fetches_now wanted) =
    record { kind = target_kind wanted.asking.target; server = wanted.server; port = target_port wanted.asking.target; own = own_port offset number; target = target_text wanted.asking.target }
onward_fields offset number (echoes_now server) = record { kind = 6; server = server; port = 0; own = number; target = [] }
onward_fields offset number (hooks_now hooking server) =
    record { kind = 3; server = server; port = hooking.disk.port; own = own_port offset number; target = hooking.disk.name ++ 0 ∷ hooking.disk.lun }
onward_fields offset number (looks_up_now errand name by) = record { kind = 4; server = by; port = 53; own = own_port offset number; target = name }

-- The last open has looked up this name at this name server, in this command, and has found this address.
pub record FindsHost (es : List Event) (name : List ℕ) (by address : ℕ) : Type 0 where
  pub opening : Opening
  pub opened : openings (made es - 1) es ≡ opening ∷ []
  pub kind : opening.kind ≡ 4
  pub asked : opening.target ≡ name
  pub of : opening.server ≡ by
  pub ended : came_ok (last_end es) ≡ true
  pub found : address_found (lookup_by (hardware es) (made es - 1) opening) (looked_at opening (datagrams_of (made es - 1) es)) ≡ Some (host address)

-- an open for what the words of the command ask of a server whose name they have: the last open has found its address
pub record OpensOnward (es : List Event) (number : ℕ) (fields : OpenFields) : Type 0 where
  pub errand : Errand
  pub name : List ℕ
  pub by : ℕ
  pub names : ComesTo es (made es - 1) (inquires (for_host errand name by))
  pub address : ℕ
  pub finds : FindsHost es name by address
  pub fields_are : fields ≡ onward_fields (port_offset es) number (onward errand address)

-- the last open that was made has ended well, and its server has moved the command's file
pub record HasMoved (es : List Event) : Type 0 where
  pub earlier : List MovedOpen
  pub last : MovedOpen
  pub moved_so : moves es ≡ earlier ++ last ∷ []
  pub opened : openings (made es - 1) es ≡ last.opening ∷ []
  pub ended : came_ok (last_end es) ≡ true

-- an open for the place to which the command's file was moved: of the server that this names, or for its address
pub record OpensMoved (es : List Event) (number : ℕ) (fields : OpenFields) : Type 0 where
  pub moved : HasMoved es
  pub next : Onward
  pub names : ComesTo es number (onward_effect next)
  pub fields_are : fields ≡ onward_fields (port_offset es) number next

-- the host of a disk is a name, which is looked up at this name server
pub record LooksUpTarget (table : TableLists) (hooking : Hooking) (name : List ℕ) (by : ℕ) : Type 0 where
  pub no_address : four_decimals hooking.disk.host ≡ None
  pub is_name : name ≡ with_domain table hooking.disk.host
  pub may_be : is_lookup_name name ≡ true
  pub server : Ip4
  pub known : dns_in table ≡ Some server
  pub by_is : by ≡ server.0

-- An open for the disk that the words of the command hook, or for its server's address, where those and the drives that are hooked now
-- refuse nothing: the drive of its number is closed before. The command has made no open before.
pub record OpensDisk (es : List Event) (number : ℕ) (fields : OpenFields) : Type 0 where
  pub first : command_open es ≡ None
  pub hooking : Hooking
  pub names : ComesTo es number (hooks_disk hooking)
  pub next : Onward
  pub gone : list_any (is_drive hooking.number) (hooked_drives es) ≡ false
  pub asks : next_at_target number (so_far es).table (hooked_drives es) hooking ≡ Ok next
  pub fields_are : fields ≡ onward_fields (port_offset es) number next

-- An open for the disk that the words of the command hook, on the server of which the last open has found the address. No drive of its number is
-- hooked any more.
pub record OpensDiskOnward (es : List Event) (number : ℕ) (fields : OpenFields) : Type 0 where
  pub hooking : Hooking
  pub names : ComesTo es number (hooks_disk hooking)
  pub name : List ℕ
  pub by : ℕ
  pub address : ℕ
  pub asked : LooksUpTarget (so_far es).table hooking name by
  pub gone : list_any (is_drive hooking.number) (hooked_drives es) ≡ false
  pub finds : FindsHost es name by address
  pub fields_are : fields ≡ onward_fields (port_offset es) number (hooks_now hooking address)

abbrev pub open_fields : (kind server port own : ℕ) → List ℕ → OpenFields
open_fields kind server port own target = record { kind = kind; server = server; port = port; own = own; target = target }

-- what an OPEN is for
pub data OpensFor (es : List Event) (number kind server port own : ℕ) (target : List ℕ) : Type 0 where
  opens_for_file : OpensFile es number kind server port own target → OpensFor es number kind server port own target
  opens_onward : OpensOnward es number (open_fields kind server port own target) → OpensFor es number kind server port own target
  opens_moved : OpensMoved es number (open_fields kind server port own target) → OpensFor es number kind server port own target
  opens_for_disk : OpensDisk es number (open_fields kind server port own target) → OpensFor es number kind server port own target
  opens_disk_onward : OpensDiskOnward es number (open_fields kind server port own target) → OpensFor es number kind server port own target
  opens_for_query : OpensQuery es number (open_fields kind server port own target) → OpensFor es number kind server port own target

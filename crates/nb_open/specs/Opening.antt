-- What an open asks for, of whom, as the machine's open that lives.
use Rattle.std.specs.Prelude.{◌≡◌, ◌≤◌, ℕ, ◌||◌, Bool, true, false, List, [], ◌∷◌, ◌++◌, length, None}
use Rattle.nb_nodes.specs.Asking.{is_path}
use Rattle.nb_nodes.specs.LookupExchanges.{can_look_up}
use Rattle.nb_nodes.specs.LeaseExchanges.{asker_of}
use Rattle.nb_drivenodes.specs.DriveAsks.{info_of}
use Rattle.nb_login.specs.Refusals.{zero_name}
use Rattle.nb_machine.specs.Lives.{OpenKind, tftp, http, iscsi, dns, dhcp, ping, Live}
use Rattle.nb_machine.specs.States.{net0}
use Rattle.nb_wire.specs.declared.address.Ip4.{Ip4}
use Rattle.nb_teller.specs.declared.speaker.Carrier.{Carrier}
use Rattle.nb_teller.specs.declared.speaker.Carrier.TheVariants.{Udp, Icmp, Tcp}
use Rattle.nb_teller.specs.declared.speaker.Speaker.{Speaker}
use Rattle.nb_chains.specs.declared.kind.ChainKind.{ChainKind}
use Rattle.nb_chains.specs.declared.kind.ChainKind.TheVariants as chain
use Rattle.nb_open.specs.declared.opening.Opening.{Opening}
use Rattle.nb_open.specs.declared.opening.DriveOpening.{DriveOpening}
use Rattle.nb_open.specs.declared.opening.WebOpening.{WebOpening}
use Rattle.nb_open.specs.DriveBytes.{HasShortDriveNames}
use Rattle.nb_machine.specs.Webs.{request_at}
use Rattle.nb_responses.specs.Requests.{request_text, IsSendable}
use Rattle.nb_open.specs.declared.opening.Opening.TheVariants.{File, Web, Drive, Name, Lease, Echo}

abbrev pub kind_by : Opening → OpenKind
kind_by (File a) = tftp
kind_by (Web a) = http a.ask.conn.isn
kind_by (Drive a) = iscsi a.ask.conn.isn (info_of a.ask)
kind_by (Name a) = dns a.id
kind_by (Lease a) = dhcp (asker_of a)
kind_by (Echo a) = ping

-- the objects that it has; of an open by HTTP a Fetch alone may wait for the others, as for a Tftp, and of a drive a unit
abbrev pub chain_kind : Opening → ChainKind
chain_kind (File a) = chain.File
chain_kind (Web a) = chain.File
chain_kind (Drive a) = chain.Drive
chain_kind (Name a) = chain.Name
chain_kind (Lease a) = chain.Lease
chain_kind (Echo a) = chain.Echo

-- whom it asks, RFC 919: a lease is asked of all hosts
abbrev pub server_by : Opening → ℕ
server_by (File a) = a.server.0
server_by (Web a) = a.ask.conn.peer.0
server_by (Drive a) = a.ask.conn.peer.0
server_by (Name a) = a.server.0
server_by (Lease a) = 4294967295
server_by (Echo a) = a.host.0

-- at which port: RFC 1035, RFC 2131
abbrev pub port_by : Opening → ℕ
port_by (File a) = a.port
port_by (Web a) = a.ask.conn.peer_port
port_by (Drive a) = a.ask.conn.peer_port
port_by (Name a) = 53
port_by (Lease a) = 67
port_by (Echo a) = 0

-- from which port of the client; a ping's is its identifier
abbrev pub own_by : Opening → ℕ
own_by (File a) = a.own_port
own_by (Web a) = a.ask.conn.own_port
own_by (Drive a) = a.ask.conn.own_port
own_by (Name a) = a.own_port
own_by (Lease a) = 68
own_by (Echo a) = a.ident

-- for what
abbrev pub target_by : Opening → List ℕ
target_by (File a) = a.path.now
target_by (Web a) = a.url.now
target_by (Drive a) = a.target.now
target_by (Name a) = a.name.now
target_by (Lease a) = []
target_by (Echo a) = []

abbrev pub carrier_by : Opening → Carrier
carrier_by (File a) = Udp
carrier_by (Web a) = Tcp
carrier_by (Drive a) = Tcp
carrier_by (Name a) = Udp
carrier_by (Lease a) = Udp
carrier_by (Echo a) = Icmp

-- the open of this number, as the machine has it, which begins at this time
abbrev pub live_by : Opening → ℕ → ℕ → Live
live_by a number since = record {
  number = number;
  kind = kind_by a;
  device = net0;
  server = server_by a;
  port = port_by a;
  own = own_by a;
  target = target_by a;
  since = since;
  exchanges = [];
}

-- from which address of the client's, of an open on a connection
abbrev pub address_by : Opening → Ip4
address_by (File a) = record { 0 = 0 }
address_by (Web a) = a.ask.conn.own
address_by (Drive a) = a.ask.conn.own
address_by (Name a) = record { 0 = 0 }
address_by (Lease a) = record { 0 = 0 }
address_by (Echo a) = record { 0 = 0 }

-- who speaks for it
abbrev pub speaker_for : Opening → ℕ → Speaker
speaker_for a number = record { number = number; carrier = carrier_by a; server = record { 0 = server_by a }; own_port = own_by a }

-- by HTTP or not
abbrev pub is_web : Opening → Bool
is_web (File a) = false
is_web (Web a) = true
is_web (Drive a) = false
is_web (Name a) = false
is_web (Lease a) = false
is_web (Echo a) = false

-- a drive or not
abbrev pub is_drive_opening : Opening → Bool
is_drive_opening (File a) = false
is_drive_opening (Web a) = false
is_drive_opening (Drive a) = true
is_drive_opening (Name a) = false
is_drive_opening (Lease a) = false
is_drive_opening (Echo a) = false

-- on a connection or not
abbrev pub is_joined : Opening → Bool
is_joined a = is_web a || is_drive_opening a

-- its request is that of its URL, which fits into an OPEN, and its host and path are visible bytes, so that this is one request
pub record AsksItsUrl (a : WebOpening) : Type 0 where
  pub fits : length a.url.now ≤ 65535
  pub request : request_text a.ask.host.now a.ask.conn.peer_port a.ask.path.now ≡ request_at a.url.now
  pub sendable : IsSendable a.ask.host.now a.ask.path.now

-- its OPEN's target is its target's name, a zero byte and its unit, which fits; its names are short, and none that may be sent has a zero byte
pub record NamesItsTarget (a : DriveOpening) : Type 0 where
  pub fits : length a.target.now ≤ 65535
  pub target : a.target.now ≡ a.ask.names.target.now ++ (0 ∷ a.ask.lun)
  pub names : HasShortDriveNames a.ask.names
  pub sendable : zero_name (info_of a.ask) ≡ None

-- it may be opened: a path and a name are short, and have no byte that can't be asked for
abbrev pub CanOpen : Opening → Type 0
CanOpen (File a) = is_path a.path.now ≡ true
CanOpen (Web a) = AsksItsUrl a
CanOpen (Drive a) = NamesItsTarget a
CanOpen (Name a) = can_look_up a.name.now ≡ true
CanOpen (Lease a) = Unit {0}
CanOpen (Echo a) = Unit {0}

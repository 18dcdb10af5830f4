-- An open that lives: its objects on the graph stand for what it has received and put, and what it is to the machine.
use Rattle.std.specs.Prelude.{◌≡◌, ◌≤◌, ◌<◌, ℕ, true, false, List, [], ◌∷◌, length, Option, Some, None}
use Rattle.nb_ledger.specs.declared.port.ObjId.{ObjId}
use Rattle.nb_graph.specs.Whole.{Objects}
use Rattle.nb_nodes.specs.declared.obj.Obj.{Obj}
use Rattle.nb_nodes.specs.Exchanges.{Service}
use Rattle.nb_nodes.specs.LookupExchanges.{lookup_service}
use Rattle.nb_nodes.specs.LeaseExchanges.{lease_service}
use Rattle.nb_nodes.specs.EchoExchanges.{ping_service}
use Rattle.nb_opens.specs.Alones.{Talks}
use Rattle.nb_opens.specs.Pairs.{Downloads}
use Rattle.nb_tftp.specs.Blocks.{file}
use Rattle.nb_tftp.specs.History.{Entry, got}
use Rattle.nb_machine.specs.Lives.{OpenKind, tftp, http, iscsi, dns, dhcp, ping, Live}
use Rattle.nb_machine.specs.States.{net0}
use Rattle.nb_machine.specs.Transfers.{Exchanged, transfer_of}
use Rattle.nb_machine.specs.Cores.{CoreExchanged, look_up_of, ping_of}
use Rattle.nb_traced.specs.Holdings.{Kin, GraphObject}
use Rattle.nb_chains.specs.declared.chain.Chain.{Chain}
use Rattle.nb_chains.specs.declared.kind.ChainKind.{ChainKind}
use Rattle.nb_chains.specs.declared.kind.ChainKind.TheVariants as chain
use Rattle.nb_chains.specs.Kinds.{top_mark, top_number}
use Rattle.nb_chains.specs.Chains.{own_graph}
use Rattle.nb_teller.specs.declared.speaker.Carrier.{Carrier}
use Rattle.nb_teller.specs.declared.speaker.Carrier.TheVariants.{Udp, Icmp, Tcp}
use Rattle.nb_webchains.specs.declared.web_chain.WebChain.{WebChain}
use Rattle.nb_webchains.specs.WebChains.{AreOfWeb, IsOpenWeb}
use Rattle.nb_webtalks.specs.TalkStands.{AreHosted, StandsForTalk}
use Rattle.nb_conns.specs.declared.conn_ask.ConnAsk.{ConnAsk}
use Rattle.nb_wire.specs.declared.address.Ip4.{Ip4}
use Rattle.nb_command.specs.SettingAddresses.{host}
use Rattle.nb_machine.specs.Connections.{connection_of, talk_of}
use Rattle.nb_machine.specs.Kinds.{is_connection}
use Rattle.nb_machine.specs.Webs.{KeepsWeb, request_at, web_talking}
use Rattle.nb_machine.specs.Drives.{KeepsSession, session_of}
use Rattle.nb_login.specs.declared.info.LoginInfo.{LoginInfo}
use Rattle.nb_drivechains.specs.declared.drive_chain.DriveChain.{DriveChain}
use Rattle.nb_drivechains.specs.DriveChains.{AreOfDrive, three_of}
use Rattle.nb_drivenodes.specs.DriveAsks.{DriveAskParts}
use Rattle.nb_drivetalks.specs.SessionStands.{StandsForSession}
use Rattle.nb_open.specs.Objects.{AreObjectsChained}
use Rattle.nb_open.specs.declared.objects.OpenObjects.{OpenObjects}
use Rattle.nb_open.specs.declared.objects.OpenObjects.TheVariants as objects
use Rattle.nb_open.specs.declared.open.Open.{Open}

-- a transfer is under way, whose calls were these exchanges
pub record IsFetching (c : Chain) (g : Objects Obj) (l : Live) : Type 0 where
  pub tftp : ObjId
  pub below : c.below ≡ Some tftp
  pub entries : List Entry
  pub downloads : Downloads (own_graph c g) c.top.0 tftp.0 (transfer_of l) l.since entries (file (got entries))
  pub exchanged : Exchanged l.number l.server entries l.exchanges
  pub short : length (transfer_of l).request ≤ 1480

-- a core asks that was begun so, whose calls were these exchanges
pub record IsAskingCore {S B C : Type 0} (s : Service S B C) (kind : ℕ) (b : B) (c : Chain) (g : Objects Obj) (l : Live) : Type 0 where
  pub below : c.below ≡ None
  pub calls : List C
  pub talks : Talks s kind (own_graph c g) c.top.0 b l.since calls
  pub exchanged : CoreExchanged s l.number l.server calls l.exchanges

-- a chain does what such an open does; a connection is none
abbrev pub IsUnderWay : OpenKind → Chain → Objects Obj → Live → Type 0
IsUnderWay tftp c g l = IsFetching c g l
IsUnderWay (http isn) c g l = ⊥
IsUnderWay (iscsi isn i) c g l = ⊥
IsUnderWay (dns id) c g l = IsAskingCore lookup_service (top_mark chain.Name) (look_up_of id l) c g l
IsUnderWay (dhcp a) c g l = IsAskingCore lease_service (top_mark chain.Lease) a c g l
IsUnderWay ping c g l = IsAskingCore ping_service (top_mark chain.Echo) (ping_of l) c g l

-- the kind of its objects, and what carries its messages
abbrev pub kind_for : OpenKind → ChainKind
kind_for tftp = chain.File
kind_for (http isn) = chain.File
kind_for (iscsi isn i) = chain.Drive
kind_for (dns id) = chain.Name
kind_for (dhcp a) = chain.Lease
kind_for ping = chain.Echo

abbrev pub carrier_for : OpenKind → Carrier
carrier_for tftp = Udp
carrier_for (http isn) = Tcp
carrier_for (iscsi isn i) = Tcp
carrier_for (dns id) = Udp
carrier_for (dhcp a) = Udp
carrier_for ping = Icmp

-- a lease is asked of all hosts, from port 68: RFC 2131; no open on a connection is made of these objects
abbrev pub AsksRight : OpenKind → (server own : ℕ) → Type 0
AsksRight tftp server own = Unit {0}
AsksRight (http isn) server own = Unit {0}
AsksRight (iscsi isn i) server own = Unit {0}
AsksRight (dns id) server own = Unit {0}
AsksRight (dhcp a) server own = (server ≡ 4294967295) × (own ≡ 68)
AsksRight ping server own = Unit {0}

-- the objects are those of its kind
abbrev pub AreOfKind : OpenObjects → Live → Type 0
AreOfKind (objects.Chain kind chain) l = (is_connection l.kind ≡ false) × (kind ≡ kind_for l.kind)
AreOfKind (objects.Web port own chain) l = (is_connection l.kind ≡ true) × (port ≡ l.port)
AreOfKind (objects.Drive port own chain) l = (is_connection l.kind ≡ true) × (port ≡ l.port)

-- it has the machine's number, server, port and kind
pub record IsSpeakerOf (o : Open) (l : Live) : Type 0 where
  pub number : l.number ≡ o.speaker.number
  pub server : l.server ≡ o.speaker.server.0
  pub own : l.own ≡ o.speaker.own_port
  pub device : l.device ≡ net0
  pub kind : AreOfKind o.objects l
  pub carrier : o.speaker.carrier ≡ carrier_for l.kind
  pub asks : AsksRight l.kind l.server l.own

-- what was asked of its connection, from this address
abbrev pub ask_of : ℕ → Ip4 → Live → ConnAsk
ask_of isn own l = record { peer = host l.server; peer_port = l.port; own = own; own_port = l.own; isn = isn }

-- the three of an open by HTTP stand for the talk that all its exchanges made
pub record IsTalkingWeb (isn : ℕ) (own : Ip4) (c : WebChain) (g : Objects Obj) (l : Live) : Type 0 where
  pub opened : IsOpenWeb c g
  pub kinds : AreOfWeb c g
  pub hosted : AreHosted c g
  pub stands : StandsForTalk (ask_of isn own l) l.since (talk_of (web_talking l.target) (connection_of isn l) l.exchanges).calls c g
  pub keeps : KeepsWeb isn l
  pub asked : 0 < length (request_at l.target)

-- and with what its login is begun
abbrev pub session_ask : ℕ → Ip4 → LoginInfo → Live → DriveAskParts
session_ask isn own i l = record { conn = ask_of isn own l; info = i }

-- the three of a drive stand for the talk that all its exchanges made
pub record IsTalkingDrive (isn : ℕ) (i : LoginInfo) (own : Ip4) (c : DriveChain) (g : Objects Obj) (l : Live) : Type 0 where
  pub opened : IsOpenWeb (three_of c) g
  pub kinds : AreOfDrive c g
  pub hosted : AreHosted (three_of c) g
  pub stands : StandsForSession (session_ask isn own i l) l.since (session_of isn i l) c g
  pub keeps : KeepsSession isn i l

-- an open by HTTP has the three of one
abbrev pub IsWebUnderWay : OpenKind → Ip4 → WebChain → Objects Obj → Live → Type 0
IsWebUnderWay (http isn) own c g l = IsTalkingWeb isn own c g l
IsWebUnderWay (iscsi isn i) own c g l = ⊥
IsWebUnderWay tftp own c g l = ⊥
IsWebUnderWay (dns id) own c g l = ⊥
IsWebUnderWay (dhcp a) own c g l = ⊥
IsWebUnderWay ping own c g l = ⊥

-- and a drive its three
abbrev pub IsDriveUnderWay : OpenKind → Ip4 → DriveChain → Objects Obj → Live → Type 0
IsDriveUnderWay (http isn) own c g l = ⊥
IsDriveUnderWay (iscsi isn i) own c g l = IsTalkingDrive isn i own c g l
IsDriveUnderWay tftp own c g l = ⊥
IsDriveUnderWay (dns id) own c g l = ⊥
IsDriveUnderWay (dhcp a) own c g l = ⊥
IsDriveUnderWay ping own c g l = ⊥

abbrev pub AreUnderWay : OpenObjects → Objects Obj → Live → Type 0
AreUnderWay (objects.Chain kind chain) g l = IsUnderWay l.kind chain g l
AreUnderWay (objects.Web port own chain) g l = IsWebUnderWay l.kind own chain g l
AreUnderWay (objects.Drive port own chain) g l = IsDriveUnderWay l.kind own chain g l

-- the open lives on this graph, and is this one of the machine's
pub record IsOpenOf (g : Objects Obj) (o : Open) (l : Live) : Type 0 where
  pub chained : AreObjectsChained g o.objects
  pub called : IsSpeakerOf o l
  pub under_way : AreUnderWay o.objects g l

-- so it is of some
abbrev pub LivesSome : Objects Obj → Open → Type 0
LivesSome g o = (l : Live) × IsOpenOf g o l

-- the objects of a chain, each with the number of its kind; below a Fetch stands a Tftp (4)
abbrev pub pieces_below : Option ObjId → List GraphObject
pieces_below None = []
pieces_below (Some x) = record { serial = x.0; kind = 4 } ∷ []

abbrev pub pieces_of : ChainKind → Chain → List GraphObject
pieces_of kind c = record { serial = c.top.0; kind = top_number kind } ∷ pieces_below c.below

-- those of an open by HTTP: a Fetch (1), an Http (2) and a Tcp (3)
abbrev pub web_pieces : WebChain → List GraphObject
web_pieces c = record { serial = c.fetch.0; kind = 1 } ∷ record { serial = c.web.0; kind = 2 } ∷ record { serial = c.conn.0; kind = 3 } ∷ []

-- those of a drive: a unit (9), a session (8) and a Tcp (3)
abbrev pub drive_pieces : DriveChain → List GraphObject
drive_pieces c = record { serial = c.unit.0; kind = 9 } ∷ record { serial = c.session.0; kind = 8 } ∷ record { serial = c.conn.0; kind = 3 } ∷ []

abbrev pub objects_pieces : OpenObjects → List GraphObject
objects_pieces (objects.Chain kind chain) = pieces_of kind chain
objects_pieces (objects.Web port own chain) = web_pieces chain
objects_pieces (objects.Drive port own chain) = drive_pieces chain

-- the open by its objects
abbrev pub kin_of_open : Open → Kin
kin_of_open o = record { number = o.speaker.number; pieces = objects_pieces o.objects }

-- What a kind of open is: what it takes, how it begins, what it promises of what came and what it put, and what
-- it has fetched or found. A further kind is a further case of each.
use Rattle.std.specs.Prelude.{ℕ, ◌==◌, ◌&&◌, Bool, true, false, List, [], Option, None, if◌then◌else◌}
use Rattle.std.specs.List.{list_any}
use Rattle.std.specs.Option.{option_and_then}
use Rattle.nb_defs.specs.Records.{Out}
use Rattle.nb_ipv4.specs.PacketText.{PacketParts}
use Rattle.nb_ipv4.specs.UdpText.{UdpParts}
use Rattle.nb_ipv4.specs.EchoText.{EchoParts}
use Rattle.nb_tcpseg.specs.SegmentText.{SegmentParts}
use Rattle.nb_wire.specs.declared.address.Ip4.{Ip4}
use Rattle.nb_stack.specs.Brings.{Brought, segment}
use Rattle.nb_stack.specs.Client.{Client}
use Rattle.nb_stack.specs.Takes.{reply_of}
use Rattle.nb_dns.specs.Lookups.{query_to}
use Rattle.nb_dhcp.specs.Acting.{to_servers}
use Rattle.nb_dhcp.specs.Messages.{message_text}
use Rattle.nb_ping.specs.Pings.{echo_request}
use Rattle.nb_nodes.specs.LookupExchanges.{lookup_service}
use Rattle.nb_nodes.specs.LeaseExchanges.{lease_service}
use Rattle.nb_nodes.specs.EchoExchanges.{ping_service}
use Rattle.nb_machine.specs.Lives.{OpenKind, tftp, http, iscsi, dns, dhcp, ping, Exchange, Live}
use Rattle.nb_machine.specs.Connections.{connection_of, syn_message}
use Rattle.nb_machine.specs.Cores.{look_up_of, ping_of, first_message_records, KeepsCore, address_answered, lease_acknowledged}
use Rattle.nb_machine.specs.Transfers.{request_records, KeepsTransfer, transferred}
use Rattle.nb_machine.specs.Webs.{KeepsWeb, web_body, web_move}
use Rattle.nb_machine.specs.Drives.{KeepsSession, DriveAnswer, session_answered, last_read}

-- it takes datagrams from there: TFTP from every port of its server, DNS from its port 53, DHCP from port 67 of any host; a ping and a
-- connection take none
abbrev pub takes_from : OpenKind → Live → PacketParts → UdpParts → Bool
takes_from tftp l p d = p.src.0 == l.server
takes_from (http isn) l p d = false
takes_from (iscsi isn i) l p d = false
takes_from (dns id) l p d = (p.src.0 == l.server) && (d.src_port == 53)
takes_from (dhcp a) l p d = d.src_port == 67
takes_from ping l p d = false

-- a datagram on this device is for the open of its port
abbrev pub is_for : ℕ → PacketParts → UdpParts → Live → Bool
is_for device p d l = (l.device == device) && (l.own == d.dst_port) && takes_from l.kind l p d

abbrev pub is_ping : OpenKind → Bool
is_ping tftp = false
is_ping (http isn) = false
is_ping (iscsi isn i) = false
is_ping (dns id) = false
is_ping (dhcp a) = false
is_ping ping = true

-- an echo reply on this device is for the ping of its identifier, where its host sends it
abbrev pub is_reply_for : ℕ → PacketParts → EchoParts → Live → Bool
is_reply_for device p e l = is_ping l.kind && (l.device == device) && (l.own == e.ident) && (p.src.0 == l.server)

abbrev pub is_connection : OpenKind → Bool
is_connection tftp = false
is_connection (http isn) = true
is_connection (iscsi isn i) = true
is_connection (dns id) = false
is_connection (dhcp a) = false
is_connection ping = false

-- a connection on this device has this port
abbrev pub has_port : ℕ → ℕ → Live → Bool
has_port device port l = is_connection l.kind && (l.device == device) && (l.own == port)

-- a segment on this device is for the connection of its port, where it comes from the port of the server that is asked
abbrev pub is_segment_for : ℕ → PacketParts → SegmentParts → Live → Bool
is_segment_for device p g l = has_port device g.dst_port l && (p.src.0 == l.server) && (g.src_port == l.port)

-- what a frame is replied to with that is for none of these opens: no segment to a connection's port is reset, wherever it comes from
abbrev pub reply_beside : ℕ → List Live → Client → Brought → List ℕ
reply_beside device live link (segment from p g) = if list_any (has_port device g.dst_port) live then [] else reply_of link (segment from p g)
reply_beside device live link m = reply_of link m

-- the records with which it begins; none where there is no route
abbrev pub first_records : OpenKind → Live → Client → Option (List Out)
first_records tftp l link = request_records l link
first_records (http isn) l link = first_message_records l link (syn_message (connection_of isn l))
first_records (iscsi isn i) l link = first_message_records l link (syn_message (connection_of isn l))
first_records (dns id) l link = first_message_records l link (query_to (look_up_of id l))
first_records (dhcp a) l link = first_message_records l link (to_servers (message_text a None))
first_records ping l link = first_message_records l link (echo_request (ping_of l))

abbrev pub KeepsBy : OpenKind → Live → Type 0
KeepsBy tftp l = KeepsTransfer l
KeepsBy (http isn) l = KeepsWeb isn l
KeepsBy (iscsi isn i) l = KeepsSession isn i l
KeepsBy (dns id) l = KeepsCore lookup_service (look_up_of id l) l
KeepsBy (dhcp a) l = KeepsCore lease_service a l
KeepsBy ping l = KeepsCore ping_service (ping_of l) l

-- the open has kept its promises in all its exchanges
abbrev pub Keeps : Live → Type 0
Keeps l = KeepsBy l.kind l

abbrev pub fetched_by : OpenKind → Live → List ℕ
fetched_by tftp l = transferred l.exchanges
fetched_by (http isn) l = web_body isn l
fetched_by (iscsi isn i) l = []
fetched_by (dns id) l = []
fetched_by (dhcp a) l = []
fetched_by ping l = []

-- the bytes that it has fetched
abbrev pub fetched : Live → List ℕ
fetched l = fetched_by l.kind l

abbrev pub moved_by : OpenKind → Live → Option (List ℕ)
moved_by tftp l = None
moved_by (http isn) l = web_move isn l
moved_by (iscsi isn i) l = None
moved_by (dns id) l = None
moved_by (dhcp a) l = None
moved_by ping l = None

-- the place to which its server has moved it
abbrev pub moved : Live → Option (List ℕ)
moved l = moved_by l.kind l

abbrev pub resolved_of : OpenKind → Live → Option Ip4
resolved_of tftp l = None
resolved_of (http isn) l = None
resolved_of (iscsi isn i) l = None
resolved_of (dns id) l = address_answered (look_up_of id l) l.server l.exchanges
resolved_of (dhcp a) l = None
resolved_of ping l = None

-- the address that it has found of its name
abbrev pub resolved : Live → Option Ip4
resolved l = resolved_of l.kind l

abbrev pub granted_of : OpenKind → List Exchange → Option (List ℕ)
granted_of tftp xs = None
granted_of (http isn) xs = None
granted_of (iscsi isn i) xs = None
granted_of (dns id) xs = None
granted_of (dhcp a) xs = lease_acknowledged a xs
granted_of ping xs = None

-- the acknowledgement of its lease
abbrev pub granted : Live → Option (List ℕ)
granted l = granted_of l.kind l.exchanges

abbrev pub answered_by : OpenKind → Live → Option DriveAnswer
answered_by tftp l = None
answered_by (http isn) l = None
answered_by (iscsi isn i) l = session_answered isn i l
answered_by (dns id) l = None
answered_by (dhcp a) l = None
answered_by ping l = None

-- what it has answered as a drive
abbrev pub answered : Live → Option DriveAnswer
answered l = answered_by l.kind l

-- the bytes of the blocks that it has read last as a drive, if all of them have come
abbrev pub read_last : Live → Option (List ℕ)
read_last l = option_and_then last_read (answered l)

-- what a client makes of a frame
use Rattle.std.specs.Prelude.{◌≡◌, ◌==◌, ◌&&◌, ◌++◌, ℕ, Bool, List, [], Option, Some, None, if◌then◌else◌}
use Rattle.nb_wire.specs.declared.address.Ip4.{Ip4}
use Rattle.nb_wire.specs.declared.address.Mac.{Mac}
use Rattle.nb_ether.specs.declared.arp.Arp.{Arp}
use Rattle.nb_ether.specs.Frame.{Frame}
use Rattle.nb_ipv4.specs.PacketText.{PacketParts}
use Rattle.nb_ipv4.specs.UdpText.{UdpParts}
use Rattle.nb_ipv4.specs.EchoText.{EchoParts, sent_echo}
use Rattle.nb_tcpseg.specs.SegmentText.{SegmentParts, sent_segment}
use Rattle.nb_stack.specs.declared.address.Addr.{Addr}
use Rattle.nb_stack.specs.declared.put.Endpoints.{Endpoints}
use Rattle.nb_stack.specs.declared.taken.Taken.{Taken}
use Rattle.nb_stack.specs.declared.taken.Taken.TheVariants.{Drop, Reply, To}
use Rattle.nb_stack.specs.Client.{Client}
use Rattle.nb_stack.specs.Near.{after_arp}
use Rattle.nb_stack.specs.Owns.{owns}
use Rattle.nb_stack.specs.Bound.{owner_of}
use Rattle.nb_stack.specs.Brings.{Brought, nothing, arp_message, datagram, echo_request, echo_reply, segment, Brings, BringsIn}
use Rattle.nb_stack.specs.Resets.{has_flag, reset_of}
use Rattle.nb_stack.specs.Sends.{arp_frame, packet_between}

-- what becomes of a frame, without where it lies in memory
pub data Outcome : Type 0 where
  dropped : Outcome
  replied : Outcome
  handed : (to : ℕ) (src dst : Ip4) (proto src_port : ℕ) (body : List ℕ) → Outcome

abbrev pub outcome : Taken → Outcome
outcome Drop = dropped
outcome Reply = replied
outcome (To to src dst proto src_port body) = handed to src dst proto src_port body.now

-- the message is a request for the client's own address
abbrev pub asks : Option Addr → Arp → Bool
asks address arp = (arp.op == 1) && owns address arp.tpa

-- the reply to a request: the client's own addresses to those of the sender
abbrev pub arp_reply_to : Mac → Arp → Arp
arp_reply_to mac arp = record { op = 2; sha = mac; spa = arp.tpa; tha = arp.sha; tpa = arp.spa }

-- a datagram goes to who bound its port
abbrev pub handed_to : PacketParts → UdpParts → Option ℕ → Outcome
handed_to p d None = dropped
handed_to p d (Some to) = handed to p.src p.dst 17 d.src_port d.body

-- an echo reply goes to who bound its identifier; it has no source port
abbrev pub echo_to : PacketParts → EchoParts → Option ℕ → Outcome
echo_to p e None = dropped
echo_to p e (Some to) = handed to p.src p.dst 1 0 e.body

-- a segment goes to who bound its port, whole; where nobody did it is reset, unless it has RST (4) itself
abbrev pub segment_to : PacketParts → SegmentParts → Option ℕ → Outcome
segment_to p s None = if has_flag 4 s then dropped else replied
segment_to p s (Some to) = handed to p.src p.dst 6 s.src_port p.body

-- requests for us are replied to, what is for a bound port is handed on, other segments are reset, all else is dropped
abbrev pub outcome_of : Client → Brought → Outcome
outcome_of client nothing = dropped
outcome_of client (arp_message from arp) = if asks client.address arp then replied else dropped
outcome_of client (datagram p d) = handed_to p d (owner_of 17 d.dst_port client.ports)
outcome_of client (echo_request from p e) = replied
outcome_of client (echo_reply p e) = echo_to p e (owner_of 1 e.ident client.ports)
outcome_of client (segment from p s) = segment_to p s (owner_of 6 s.dst_port client.ports)

-- the way back to the interface and the host that a packet came from
abbrev pub back_to : Mac → Mac → PacketParts → Endpoints
back_to from mac p = record { dst = from; src = mac; from = p.dst; to = p.src }

-- a packet of the same protocol on the way back
abbrev pub frame_back : Mac → Mac → PacketParts → List ℕ → List ℕ
frame_back from mac p body = packet_between (back_to from mac p) p.proto body

-- the reset of a segment whose port this is
abbrev pub reset_back : Mac → Mac → PacketParts → SegmentParts → Option ℕ → List ℕ
reset_back from mac p s None = if has_flag 4 s then [] else frame_back from mac p (sent_segment p.dst p.src (reset_of s))
reset_back from mac p s (Some owner) = []

-- a reply goes to the interface that the request's frame came from; nothing else is put
abbrev pub reply_of : Client → Brought → List ℕ
reply_of client nothing = []
reply_of client (arp_message from arp) =
    if asks client.address arp then arp_frame from (arp_reply_to client.mac arp) else []
reply_of client (datagram p d) = []
reply_of client (echo_request from p e) = frame_back from client.mac p (sent_echo (record e { kind = 0 }))
reply_of client (echo_reply p e) = []
reply_of client (segment from p s) = reset_back from client.mac p s (owner_of 6 s.dst_port client.ports)

-- an ARP message may change the neighbours; nothing else changes
abbrev pub client_after : Client → Brought → Client
client_after client (arp_message from arp) = record client { near = after_arp client.address arp client.near }
client_after client message = client

-- a client took these bytes, with this outcome; `put` and `put_after` are the bytes put before and after
pub record Takes (client : Client) (bytes : List ℕ) (seen : Outcome) (put put_after : List ℕ) (after : Client) : Type 0 where
  pub message : Brought
  pub brings : Brings client.up client.mac client.address bytes message
  pub is_outcome : seen ≡ outcome_of client message
  pub is_put : put_after ≡ put ++ reply_of client message
  pub is_after : after ≡ client_after client message

-- a client took this frame, which is for it, with this outcome
pub record TakesAddressed (client : Client) (f : Frame) (seen : Outcome) (put put_after : List ℕ) (after : Client) : Type 0 where
  pub message : Brought
  pub brings : BringsIn client.address f message
  pub is_outcome : seen ≡ outcome_of client message
  pub is_put : put_after ≡ put ++ reply_of client message
  pub is_after : after ≡ client_after client message

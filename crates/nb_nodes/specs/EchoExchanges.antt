-- What a Ping has done over its trace (RFC 792), in terms of nb_ping's history: our own.
use Rattle.std.specs.Prelude.{◌≡◌, ◌==◌, ℕ, List, [], ◌++◌, length, take, drop, Option, Some, None, if◌then◌else◌}
use Rattle.std.specs.Int.{w16, w32, to_be_bytes, from_be_bytes}
use Rattle.nb_graph.specs.Trace.{Said}
use Rattle.nb_ping.specs.declared.state.State.{State}
use Rattle.nb_ping.specs.Pings.{Pinged, pinged, echo_request, asks_try}
use Rattle.nb_ping.specs.PingCalls.{EchoReply, echo_reply, echoed, waited, PingEntry, ping_entry, ping_ended}
use Rattle.nb_ping.specs.PingPromises.{PingMeets}
use Rattle.nb_ping.specs.PingStands.{PingStands}
use Rattle.nb_nodes.specs.declared.ping_ask.PingAsk.{PingAsk}
use Rattle.nb_nodes.specs.Conversations.{is_datagram}
use Rattle.nb_nodes.specs.Exchanges.{Service}

abbrev pub pinged_by : PingAsk → Pinged
pinged_by a = pinged a.host a.ident

-- the bytes that ask for a ping: the host's address and the identifier
abbrev pub ping_bytes : Pinged → List ℕ
ping_bytes p = to_be_bytes w32 p.host.0 ++ to_be_bytes w16 p.ident

-- what the bytes ask for, if they are six
abbrev pub ping_asked : List ℕ → Option Pinged
ping_asked bytes = if length bytes == 6 then Some (pinged (record { 0 = from_be_bytes w32 (take 4 bytes) }) (from_be_bytes w16 (drop 4 bytes))) else None

-- a datagram by slot 1 is an echo reply, with its identifier and the address that it comes from
abbrev pub reply_in : Said → EchoReply
reply_in m = echo_reply (record { 0 = m.b }) m.a

-- nothing goes up
abbrev pub GivesNothing : ℕ → Pinged → List PingEntry → List Said → Type 0
GivesNothing rec p calls given = given ≡ []

abbrev pub ping_service : Service State Pinged PingEntry
ping_service = record {
  asked = ping_asked;
  opening = λ p. asks_try (echo_request p) 1;
  takes = is_datagram;
  received = λ m now acts. ping_entry (echoed (reply_in m) now) acts;
  timed = λ now acts. ping_entry (waited now) acts;
  gives = GivesNothing;
  stands = PingStands;
  meets = PingMeets;
  has_ended = ping_ended;
}

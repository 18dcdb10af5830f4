-- RFC 9293: an open on a connection, whatever is said on it. That cores stand on one another is how, and stays inside; what the open promises
-- is said of all that came to it and of what was put.
use Rattle.std.specs.Prelude.{◌≡◌, ℕ, not, Bool, List, [], ◌∷◌, ◌++◌, Option, Some, None, if◌then◌else◌}
use Rattle.std.specs.List.{flat_map, list_any}
use Rattle.nb_terms.specs.declared.cause.Cause.{Cause}
use Rattle.nb_terms.specs.declared.acts.SendTo.{SendTo}
use Rattle.nb_defs.specs.Records.{Out}
use Rattle.nb_stack.specs.Client.{Client}
use Rattle.nb_tcpseg.specs.SegmentText.{SegmentParts}
use Rattle.nb_streams.specs.Segments.{Incoming, Arrival}
use Rattle.nb_streams.specs.Sending.{syn}
use Rattle.nb_talks.specs.Talking.{Came, by_segment, by_time, Talker, Talk, talk_after}
use Rattle.nb_talks.specs.TalkPromises.{Sends, Put, PutsSo, close_put}
use Rattle.nb_tcp.specs.declared.link.Link.{Link}
use Rattle.nb_tcp.specs.Arriving.{sets_flag}
use Rattle.nb_tcp.specs.Messages.{outgoing_message}
use Rattle.nb_command.specs.SettingAddresses.{host}
use Rattle.nb_machine.specs.CommandRecords.{no_route}
use Rattle.nb_machine.specs.Sendings.{has_route, send_records, advance_records}
use Rattle.nb_machine.specs.Lives.{OpenInput, message, tcp_segment, time, task, close, Exchange, Live}
use Rattle.nb_machine.specs.Transfers.{earlier_end, end_records}

-- an open's connection: the open's number, its server, both ends, of which the client's SYN has this number, and when it was begun
pub record Connection : Type 0 where
  pub number : ℕ
  pub server : ℕ
  pub link : Link
  pub since : ℕ

-- that of an open whose SYN has this number
abbrev pub connection_of : ℕ → Live → Connection
connection_of isn l = record {
  number = l.number;
  server = l.server;
  link = record { own_port = l.own; peer = host l.server; peer_port = l.port; isn = isn };
  since = l.since;
}

-- its SYN
abbrev pub syn_message : Connection → SendTo
syn_message c = outgoing_message c.link (syn c.link.isn)

-- a segment as its connection has it: with its flags FIN (1), SYN (2), RST (4) and ACK (16), and the record that brought it
abbrev pub incoming_parts : SegmentParts → Incoming
incoming_parts g = record {
  number = g.seq;
  acknowledges = g.ack;
  fin = sets_flag g.flags 1;
  syn = sets_flag g.flags 2;
  rst = sets_flag g.flags 4;
  ack = sets_flag g.flags 16;
  window = g.window;
  mss = g.mss;
  body = g.body;
}

abbrev pub arrived_segment : ℕ → SegmentParts → Arrival
arrived_segment rec g = record { rec = rec; segment = incoming_parts g }

-- what came to a connection of which nothing is asked; no datagram comes to one, and a close from above is the client's own
abbrev pub came_on : {T : Type 0} → OpenInput → List (Came T)
came_on (message rec port body now) = []
came_on (tcp_segment rec g now) = by_segment (arrived_segment rec g) now ∷ []
came_on (time now) = by_time now ∷ []
came_on (task t now) = []
came_on (close cause) = []

-- a kind's talk on its connection: what it says, and what it reads of all that comes to it
pub record Talking (T : Type 0) : Type 0 where
  pub talker : Talker T
  pub reads : OpenInput → List (Came T)

-- what was said on a connection, and what came to it, after all these exchanges
abbrev pub talk_of : {T : Type 0} → Talking T → Connection → List Exchange → Talk T
talk_of t c xs = talk_after t.talker c.link.isn c.since (flat_map (λ x. t.reads x.came) xs)

-- segments that are put, each with its try where it is one
abbrev pub segment_records : Connection → Client → Sends → List Out
segment_records c link sends = flat_map (λ s. send_records link c.number s.1 (outgoing_message c.link s.0)) sends

-- one of these finds no route
abbrev pub loses_way : Connection → Client → Sends → Bool
loses_way c link sends = list_any (λ s. not (has_route link (outgoing_message c.link s.0))) sends

-- how an exchange ends the open, if it does: as the promise says, or else because a segment found no route
abbrev pub talk_end : Connection → Client → Put → Option Cause
talk_end c link p = earlier_end p.over (if loses_way c link p.sends then Some (no_route c.server) else None)

-- the records of what is put: how far the stream has come, the segments, and the end
abbrev pub put_records : Connection → Client → Put → List Out
put_records c link p = advance_records c.number p.advance ++ segment_records c link p.sends ++ end_records c.number (talk_end c link p)

-- what is asked puts this; of some kinds nothing is
abbrev pub PutsAsked : {T : Type 0} → Talker T → Connection → Talk T → List (Came T) → Put → Type 0
PutsAsked t c d [] p = ⊥
PutsAsked t c d (asked ∷ more) p = PutsSo t c.link.isn c.since d asked p

-- what comes to a talk puts this; a datagram doesn't come
abbrev pub PutsAt : {T : Type 0} → Talking T → Connection → Talk T → OpenInput → Put → Type 0
PutsAt t c d (message rec port body now) p = ⊥
PutsAt t c d (tcp_segment rec g now) p = PutsSo t.talker c.link.isn c.since d (by_segment (arrived_segment rec g) now) p
PutsAt t c d (time now) p = PutsSo t.talker c.link.isn c.since d (by_time now) p
PutsAt t c d (task x now) p = PutsAsked t.talker c d (t.reads (task x now)) p
PutsAt t c d (close cause) p = p ≡ close_put c.link.isn d cause

-- an exchange puts what its promise says, by all that came before
pub record KeepsAt {T : Type 0} (t : Talking T) (c : Connection) (before : List Exchange) (x : Exchange) : Type 0 where
  pub put : Put
  pub puts : PutsAt t c (talk_of t c before) x.came put
  pub records : x.put ≡ put_records c x.link put

-- a fact of each exchange, with those before it
abbrev pub EachExchange : (List Exchange → Exchange → Type 0) → List Exchange → List Exchange → Type 0
EachExchange P before [] = Unit {0}
EachExchange P before (x ∷ xs) = P before x × EachExchange P (before ++ x ∷ []) xs

-- all exchanges of the open are kept
abbrev pub KeepsTalk : {T : Type 0} → Talking T → ℕ → Live → Type 0
KeepsTalk t isn l = EachExchange (KeepsAt t (connection_of isn l)) [] l.exchanges

-- RFC 1035, RFC 2131, RFC 792: an open whose one core asks and is answered. How the core asks stays inside; what it
-- promises is said of what came and what was put.
use Rattle.std.specs.Prelude.{ℕ, List, [], ◌∷◌, ◌++◌, Option, Some, None, if◌then◌else◌}
use Rattle.std.specs.List.{flat_map}
use Rattle.nb_terms.specs.declared.cause.Cause.{Cause}
use Rattle.nb_terms.specs.declared.acts.Acts.{Acts}
use Rattle.nb_terms.specs.declared.acts.SendTo.{SendTo}
use Rattle.nb_wire.specs.declared.address.Ip4.{Ip4}
use Rattle.nb_defs.specs.Records.{Out, ended}
use Rattle.nb_stack.specs.Client.{Client}
use Rattle.nb_dns.specs.Lookups.{Lookup, lookup}
use Rattle.nb_dns.specs.LookupCalls.{DnsDatagram, dns_datagram}
use Rattle.nb_dns.specs.LookupReplies.{address_found}
use Rattle.nb_dhcp.specs.declared.asker.Asker.{Asker}
use Rattle.nb_dhcp.specs.History.{Handed, handed_body, acknowledgement_in}
use Rattle.nb_ping.specs.Pings.{Pinged, pinged}
use Rattle.nb_nodes.specs.Exchanges.{Service}
use Rattle.nb_command.specs.SettingAddresses.{host}
use Rattle.nb_machine.specs.CommandRecords.{no_route}
use Rattle.nb_machine.specs.Sendings.{has_route, send_records, acts_records}
use Rattle.nb_machine.specs.Saying.{datagram_from}
use Rattle.nb_machine.specs.Lives.{OpenInput, message, tcp_segment, time, task, close, Exchange, exchange, Live}
use Rattle.nb_machine.specs.Transfers.{finds_none, earlier_end, end_records}

-- what the open looks up, by a query of this number
abbrev pub look_up_of : ℕ → Live → Lookup
look_up_of id l = lookup (host l.server) l.own id l.target

-- the host that it pings, and the identifier
abbrev pub ping_of : Live → Pinged
ping_of l = pinged (host l.server) l.own

-- the records of a first message, its first try; none where it finds no route
abbrev pub first_message_records : Live → Client → SendTo → Option (List Out)
first_message_records l link m = if has_route link m then Some (send_records link l.number (Some 1) m) else None

-- how an exchange ends the open, if it does: as its core says, or else because a message found no route
abbrev pub core_end : ℕ → Client → Acts → Option Cause
core_end server link acts = earlier_end acts.over (if finds_none link acts then Some (no_route server) else None)

-- the records of an exchange in which a core asked that
abbrev pub core_records : ℕ → ℕ → Client → Acts → List Out
core_records number server link acts = acts_records link number acts ++ end_records number (core_end server link acts)

-- What came to an open of this number and server, and the records that it put, where its core had these calls: one at each
-- message, which is its server's, and one at each time. At a close it puts its end alone.
pub data CoreExchanged {S B C : Type 0} (s : Service S B C) (number server : ℕ) : List C → List Exchange → Type 0 where
  at_first : CoreExchanged s number server [] []
  takes_message : (calls : List C) (xs : List Exchange) (link : Client) (rec port : ℕ) (body : List ℕ) (now : ℕ) (acts : Acts) →
      CoreExchanged s number server calls xs →
      CoreExchanged s number server (calls ++ s.received (datagram_from rec port (host server) body) now acts ∷ [])
      (xs ++ exchange (message rec port body now) link (core_records number server link acts) ∷ [])
  takes_time : (calls : List C) (xs : List Exchange) (link : Client) (now : ℕ) (acts : Acts) → CoreExchanged s number server calls xs →
      CoreExchanged s number server (calls ++ s.timed now acts ∷ []) (xs ++ exchange (time now) link (core_records number server link acts) ∷ [])
  closes : (calls : List C) (xs : List Exchange) (link : Client) (cause : Cause) → CoreExchanged s number server calls xs →
      CoreExchanged s number server calls (xs ++ exchange (close cause) link (ended number cause ∷ []) ∷ [])

-- the exchanges are those of a core that was begun so and keeps its promises
pub record KeepsCore {S B C : Type 0} (s : Service S B C) (b : B) (l : Live) : Type 0 where
  pub calls : List C
  pub exchanged : CoreExchanged s l.number l.server calls l.exchanges
  pub meets : s.meets b l.since calls

-- the datagram of a name server that came, and what a lease's core was handed
abbrev pub dns_datagrams_in : ℕ → OpenInput → List DnsDatagram
dns_datagrams_in server (message rec port body now) = dns_datagram rec (host server) body ∷ []
dns_datagrams_in server (tcp_segment rec g now) = []
dns_datagrams_in server (time now) = []
dns_datagrams_in server (task t now) = []
dns_datagrams_in server (close cause) = []

abbrev pub handed_bodies_in : OpenInput → List Handed
handed_bodies_in (message rec port body now) = handed_body rec body ∷ []
handed_bodies_in (tcp_segment rec g now) = []
handed_bodies_in (time now) = []
handed_bodies_in (task t now) = []
handed_bodies_in (close cause) = []

-- the address that was found, of the messages that have come
abbrev pub address_answered : Lookup → ℕ → List Exchange → Option Ip4
address_answered l server xs = address_found l (flat_map (λ x. dns_datagrams_in server x.came) xs)

-- the acknowledgement of the lease
abbrev pub lease_acknowledged : Asker → List Exchange → Option (List ℕ)
lease_acknowledged a xs = acknowledgement_in a (flat_map (λ x. handed_bodies_in x.came) xs)

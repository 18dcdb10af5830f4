-- What an open of one exchange asks for, by its opening and START, and what came to it, as its core is handed it.
use Rattle.std.specs.Prelude.{ℕ, ◌==◌, ◌&&◌, Bool, true, false, List, [], ◌∷◌, map, if◌then◌else◌}
use Rattle.std.specs.Option.{is_some}
use Rattle.nb_wire.specs.declared.address.Ip4.{Ip4}
use Rattle.nb_dns.specs.Lookups.{Lookup, lookup}
use Rattle.nb_dns.specs.LookupCalls.{DnsDatagram, dns_datagram}
use Rattle.nb_dns.specs.LookupReplies.{address_found}
use Rattle.nb_dhcp.specs.declared.asker.Asker.{Asker}
use Rattle.nb_dhcp.specs.History.{Handed, handed_body, acknowledgement_in}
use Rattle.nb_ping.specs.Pings.{Pinged, pinged}
use Rattle.nb_tftp.specs.Received.{Received}
use Rattle.nb_tftp.specs.Blocks.{is_whole_transfer}
use Rattle.nb_command.specs.SettingAddresses.{host}
use Rattle.nb_machine.specs.Findings.{asker_at, query_id}
use Rattle.nb_laws.specs.Events.{Event}
use Rattle.nb_laws.specs.Lists.{Hardware, hardware, Opening, datagrams_of}
use Rattle.nb_laws.specs.Webs.{opens_web, has_response}

-- the look-up of open k, its query's number by START's key
abbrev pub lookup_by : Hardware → ℕ → Opening → Lookup
lookup_by h k o = lookup (host o.server) o.own (query_id h.identity k) o.target

-- who asks for the lease of open k, its transaction's number by START's key
abbrev pub asker_by : Hardware → ℕ → Asker
asker_by h k = asker_at h.mac h.identity k

-- the host of a ping, and its identifier
abbrev pub pinged_at : Opening → Pinged
pinged_at o = pinged (host o.server) o.own

-- a datagram as a look-up at this server is handed it
abbrev pub as_dns : Ip4 → Received → DnsDatagram
as_dns server m = dns_datagram m.rec server m.body

-- as one that asks for a lease is handed it
abbrev pub as_handed : Received → Handed
as_handed m = handed_body m.rec m.body

abbrev pub looked_at : Opening → List Received → List DnsDatagram
looked_at o ms = map (as_dns (host o.server)) ms

abbrev pub handed_over : List Received → List Handed
handed_over ms = map as_handed ms

abbrev pub has_some : List Received → Bool
has_some [] = false
has_some (m ∷ ms) = true

-- of what open k has received its answer can be made: the whole file, an address for its name, the acknowledgement of its
-- lease, or an echo; a drive's open has none, since it goes on until it is closed or fails
abbrev pub answers_open : Hardware → ℕ → Opening → List Received → Bool
answers_open h k o ms =
    if o.kind == 1 then is_whole_transfer ms
    else if o.kind == 4 then is_some (address_found (lookup_by h k o) (looked_at o ms))
    else if o.kind == 5 then is_some (acknowledgement_in (asker_by h k) (handed_over ms))
    else (o.kind == 6) && has_some ms

-- what open k asks for has come: by HTTP a whole response, of all others what can be made of their datagrams
abbrev pub has_its_answer : ℕ → Opening → List Event → Bool
has_its_answer k o es = if opens_web o then has_response k o es else answers_open (hardware es) k o (datagrams_of k es)

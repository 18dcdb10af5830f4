-- RFC 1035, section 7.3: the first reply in what arrived, and the address that it gives
use Rattle.std.specs.Prelude.{◌==◌, List, [], ◌∷◌, Option, Some, None, if◌then◌else◌}
use Rattle.std.specs.Option.{option_map_or, option_and_then}
use Rattle.nb_wire.specs.declared.address.Ip4.{Ip4}
use Rattle.nb_dnsmsg.specs.declared.answer.Answer.{Answer}
use Rattle.nb_dnsmsg.specs.Reading.{dns_answer}
use Rattle.nb_dns.specs.Lookups.{Lookup, address_given}
use Rattle.nb_dns.specs.LookupCalls.{DnsDatagram}

-- the answer of a datagram, where it comes from the server and answers the query
abbrev pub lookup_reply_in : Lookup → DnsDatagram → Option Answer
lookup_reply_in l m = if m.src.0 == l.server.0 then dns_answer m.body l.id l.name else None

-- the answer of the first datagram that replies
abbrev pub first_reply : Lookup → List DnsDatagram → Option Answer
first_reply l [] = None
first_reply l (m ∷ ms) = option_map_or Some (lookup_reply_in l m) (first_reply l ms)

-- the address that the first reply gives: none where no datagram replies, or the reply has an error's
-- response code or no address
abbrev pub address_found : Lookup → List DnsDatagram → Option Ip4
address_found l ms = option_and_then address_given (first_reply l ms)

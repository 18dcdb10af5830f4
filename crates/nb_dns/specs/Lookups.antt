-- What a look-up asks of its caller
use Rattle.std.specs.Prelude.{◌≡◌, ◌≤◌, ◌==◌, ℕ, false, List, [], ◌∷◌, length, Option, Some, None, if◌then◌else◌}
use Rattle.std.specs.List.{AllByRecursion}
use Rattle.std.specs.Option.{option_map_or}
use Rattle.nb_retry.specs.declared.retry.Due.{Due}
use Rattle.nb_retry.specs.declared.retry.Due.TheVariants.{Not, Again, Over}
use Rattle.nb_terms.specs.declared.acts.Acts.{Acts}
use Rattle.nb_terms.specs.declared.acts.SendTo.{SendTo}
use Rattle.nb_terms.specs.declared.cause.Cause.{Cause}
use Rattle.nb_terms.specs.declared.reason.Plain.TheVariants as plain
use Rattle.nb_terms.specs.declared.reason.Reason.TheVariants as reason
use Rattle.nb_terms.specs.Reasons.{as_cause}
use Rattle.nb_wire.specs.declared.address.Ip4.{Ip4}
use Rattle.nb_dnsmsg.specs.declared.answer.Answer.{Answer}
use Rattle.nb_dnsmsg.specs.Names.{name_text}
use Rattle.nb_dnsmsg.specs.Messages.{question_text}
use Rattle.nb_dns.specs.WrittenNames.{name_labels}

-- what a look-up was begun with: the server, our own port, the query's number, and the text of the name
pub record Lookup : Type 0 where
  pub server : Ip4
  pub own_port : ℕ
  pub id : ℕ
  pub name : List ℕ

-- of a name as it is written
abbrev pub lookup : Ip4 → ℕ → ℕ → List ℕ → Lookup
lookup server own_port id text = record { server = server; own_port = own_port; id = id; name = name_text (name_labels text) }

-- bytes in a UDP datagram to port 53 of the server
abbrev pub to_port_53 : Ip4 → ℕ → List ℕ → SendTo
to_port_53 server own_port body = record { proto = 17; to = server; to_port = 53; own_port = own_port; body = record { items = body } }

abbrev pub query_to : Lookup → SendTo
query_to l = to_port_53 l.server l.own_port (question_text l.id l.name)

abbrev pub asks_lookup_nothing : Acts
asks_lookup_nothing = record { sends = record { items = [] }; tried = None; advance = None; give = None; ready = false; over = None }

-- a message is sent as the try of a number
abbrev pub asks_lookup_try : SendTo → ℕ → Acts
asks_lookup_try send n = record { sends = record { items = send ∷ [] }; tried = Some n; advance = None; give = None; ready = false; over = None }

abbrev pub asks_lookup_end : Cause → Acts
asks_lookup_end cause = record { sends = record { items = [] }; tried = None; advance = None; give = None; ready = false; over = Some cause }

-- a call asks for at most one message, by UDP (protocol 17), and gives no bytes up
pub record AsksOneQuery (acts : Acts) : Type 0 where
  pub few : length acts.sends.items ≤ 1
  pub udp : AllByRecursion (λ send. send.proto ≡ 17) acts.sends.items
  pub gives : acts.give ≡ None

-- an address was found
abbrev pub looked_up : Cause
looked_up = as_cause (reason.Plain plain.Ok)

-- the answer in a record refuses, with a response code, or with 0 where it has no address
abbrev pub lookup_refused : ℕ → ℕ → Cause
lookup_refused rec code = as_cause (reason.Refused rec code)

-- six tries had no answer
abbrev pub lookup_timed_out : Cause
lookup_timed_out = as_cause (reason.TimedOut 6)

-- the address that an answer gives, where it doesn't refuse
abbrev pub address_given : Answer → Option Ip4
address_given a = if a.rcode == 0 then a.address else None

-- the end that the answer in a record makes
abbrev pub lookup_cause : ℕ → Answer → Cause
lookup_cause rec a = option_map_or (λ address. looked_up) (address_given a) (lookup_refused rec a.rcode)

-- what the timer's answer asks: the query again, or the end
abbrev pub asks_by : Lookup → Due → Acts
asks_by l Not = asks_lookup_nothing
asks_by l (Again n) = asks_lookup_try (query_to l) n
asks_by l Over = asks_lookup_end lookup_timed_out

-- What a Resolver has done over its trace (RFC 1035), in terms of nb_dns's history: our own.
use Rattle.std.specs.Prelude.{◌≡◌, ◌==◌, ◌&&◌, ℕ, Bool, true, false, List, [], ◌∷◌, ◌++◌, length, take, drop, nat_le, nat_lt, Option, Some, None, if◌then◌else◌}
use Rattle.std.specs.Int.{w16, w32, to_be_bytes, from_be_bytes}
use Rattle.std.specs.List.{list_all}
use Rattle.std.specs.Option.{option_and_then}
use Rattle.nb_wire.specs.declared.address.Ip4.{Ip4}
use Rattle.nb_effects.specs.declared.effects.Emit.{Emit}
use Rattle.nb_graph.specs.Trace.{Said}
use Rattle.nb_dnsmsg.specs.declared.answer.Answer.{Answer}
use Rattle.nb_dns.specs.declared.state.State.{State}
use Rattle.nb_dns.specs.WrittenNames.{name_labels, without_final_dot}
use Rattle.nb_dns.specs.Lookups.{Lookup, lookup, query_to, asks_lookup_try, address_given}
use Rattle.nb_dns.specs.LookupCalls.{DnsDatagram, dns_datagram, arrived, clocked, LookupEntry, lookup_entry, datagrams, lookup_ended, IsSilentCall, FirstReply}
use Rattle.nb_dns.specs.LookupPromises.{LookupMeets}
use Rattle.nb_dns.specs.LookupStands.{LookupStands}
use Rattle.nb_nodes.specs.declared.load.Load.{Load}
use Rattle.nb_nodes.specs.declared.lookup_ask.LookupAsk.{LookupAsk}
use Rattle.nb_nodes.specs.declared.tag.Tag.TheVariants.{Address}
use Rattle.nb_nodes.specs.Tags.{tag_number}
use Rattle.nb_nodes.specs.Conversations.{is_datagram}
use Rattle.nb_nodes.specs.Exchanges.{Service}

-- what is asked for, without where its name lies in memory
pub record LookupAsked : Type 0 where
  pub server : Ip4
  pub own_port : ℕ
  pub id : ℕ
  pub name : List ℕ

abbrev pub lookup_ask_value : LookupAsk → LookupAsked
lookup_ask_value a = record { server = a.server; own_port = a.own_port; id = a.id; name = a.name.now }

-- the bytes before the name
abbrev pub lookup_ask_head : LookupAsked → List ℕ
lookup_ask_head v = to_be_bytes w32 v.server.0 ++ to_be_bytes w16 v.own_port ++ to_be_bytes w16 v.id

-- what at least eight bytes ask for
abbrev pub lookup_ask_at : List ℕ → LookupAsked
lookup_ask_at bytes =
    record { server = record { 0 = from_be_bytes w32 (take 4 bytes) }; own_port = from_be_bytes w16 (take 2 (drop 4 bytes)); id = from_be_bytes w16 (take 2 (drop 6 bytes)); name = drop 8 bytes }

abbrev pub lookup_ask_in : List ℕ → Option LookupAsked
lookup_ask_in bytes = if nat_le 8 (length bytes) then Some (lookup_ask_at bytes) else None

-- a name can be looked up: each label has 1 to 63 bytes, and without the dot at its end it has at most 253
abbrev pub is_dns_label : List ℕ → Bool
is_dns_label label = nat_lt 0 (length label) && nat_lt (length label) 64

abbrev pub can_look_up : List ℕ → Bool
can_look_up text = list_all is_dns_label (name_labels text) && nat_le (length (without_final_dot text)) 253

abbrev pub lookup_for : LookupAsked → Lookup
lookup_for v = lookup v.server v.own_port v.id v.name

-- the look-up that the bytes ask for, if they are eight bytes and such a name
abbrev pub lookup_asked : List ℕ → Option Lookup
lookup_asked bytes = option_and_then (λ v. if can_look_up v.name then Some (lookup_for v) else None) (lookup_ask_in bytes)

-- a datagram from port 53, with the address that it comes from
abbrev pub is_from_names : ℕ → Said → Bool
is_from_names slot m = is_datagram slot m && (m.a == 53)

abbrev pub dns_datagram_in : Said → DnsDatagram
dns_datagram_in m = dns_datagram m.rec (record { 0 = m.b }) m.bytes

-- the address that the calls found: the one of the first reply, where it doesn't refuse
pub record IsFoundBy (l : Lookup) (calls : List LookupEntry) (found : Option Ip4) : Type 0 where
  pub by_reply : (a : Answer) → FirstReply l (datagrams calls) a → found ≡ address_given a
  pub in_silence : IsSilentCall l (datagrams calls) → found ≡ None

abbrev pub address_said : ℕ → Option Ip4 → List Said
address_said rec None = []
address_said rec (Some address) = record { tag = tag_number Address; rec = rec; a = address.0; b = 0; bytes = [] } ∷ []

-- at its end the address that was found goes up
pub record GivesAddress (rec : ℕ) (l : Lookup) (calls : List LookupEntry) (given : List Said) : Type 0 where
  pub found : Option Ip4
  pub is_found : IsFoundBy l calls found
  pub goes_up : given ≡ address_said rec found

abbrev pub lookup_service : Service State Lookup LookupEntry
lookup_service = record {
  asked = lookup_asked;
  opening = λ l. asks_lookup_try (query_to l) 1;
  takes = is_from_names;
  received = λ m now acts. lookup_entry (arrived (dns_datagram_in m) now) acts;
  timed = λ now acts. lookup_entry (clocked now) acts;
  gives = GivesAddress;
  stands = LookupStands;
  meets = LookupMeets;
  has_ended = lookup_ended;
}

-- the address as a message up
abbrev pub address_emit : Bool → Option Ip4 → Option (Emit Load)
address_emit has_ended None = None
address_emit false (Some address) = None
address_emit true (Some address) = Some (record { slot = 0; tag = tag_number Address; a = address.0; b = 0; from = 0; to = 0; load = None })

-- All the calls of a look-up since its start, each with what it asked
use Rattle.std.specs.Prelude.{◌≡◌, ◌⊎◌, ℕ, Bool, List, [], ◌∷◌, ◌++◌, if◌then◌else◌}
use Rattle.std.specs.List.{flat_map, list_any, AllByRecursion}
use Rattle.std.specs.Option.{option_map_or, is_some}
use Rattle.nb_retry.specs.Plans.{Asked, asked_at}
use Rattle.nb_retry.specs.declared.retry.Due.{Due}
use Rattle.nb_retry.specs.declared.retry.Due.TheVariants.{Not, Again, Over}
use Rattle.nb_terms.specs.declared.acts.Acts.{Acts}
use Rattle.nb_wire.specs.declared.address.Ip4.{Ip4}
use Rattle.nb_dnsmsg.specs.declared.answer.Answer.{Answer}
use Rattle.nb_dnsmsg.specs.Messages.{IsAnswer}
use Rattle.nb_dns.specs.Lookups.{Lookup}

-- a datagram of the look-up's port, from port 53 of an address: its record and its body
pub record DnsDatagram : Type 0 where
  pub rec : ℕ
  pub src : Ip4
  pub body : List ℕ

abbrev pub dns_datagram : ℕ → Ip4 → List ℕ → DnsDatagram
dns_datagram rec src body = record { rec = rec; src = src; body = body }

-- a datagram at a time, or a time
pub data LookupCall : Type 0 where
  arrived : (m : DnsDatagram) (now : ℕ) → LookupCall
  clocked : (now : ℕ) → LookupCall

-- a call, and what it asked of the caller
pub record LookupEntry : Type 0 where
  pub call : LookupCall
  pub acts : Acts

abbrev pub lookup_entry : LookupCall → Acts → LookupEntry
lookup_entry call acts = record { call = call; acts = acts }

abbrev pub lookup_datagrams : LookupCall → List DnsDatagram
lookup_datagrams (arrived m now) = m ∷ []
lookup_datagrams (clocked now) = []

-- the datagrams that arrived, in order
abbrev pub datagrams : List LookupEntry → List DnsDatagram
datagrams entries = flat_map (λ e. lookup_datagrams e.call) entries

-- what a time's answer says of the timer: a try, or the plan's end
abbrev pub said_by : Acts → Due
said_by acts = option_map_or (λ n. Again n) acts.tried (if is_some acts.over then Over else Not)

abbrev pub times_of_lookup : LookupCall → Acts → List Asked
times_of_lookup (arrived m now) acts = []
times_of_lookup (clocked now) acts = asked_at now (said_by acts) ∷ []

-- the times, in order, each with what was said at it
abbrev pub lookup_times : List LookupEntry → List Asked
lookup_times entries = flat_map (λ e. times_of_lookup e.call e.acts) entries

-- an end was given
abbrev pub lookup_ended : List LookupEntry → Bool
lookup_ended entries = list_any (λ e. is_some e.acts.over) entries

-- a fact of each entry, with those before it
abbrev pub EachLookupEntry : (List LookupEntry → LookupEntry → Type 0) → List LookupEntry → List LookupEntry → Type 0
EachLookupEntry P before [] = Unit {0}
EachLookupEntry P before (e ∷ es) = P before e × EachLookupEntry P (before ++ e ∷ []) es

-- the datagram comes from the server and is this answer to the query
pub record IsReplyTo (l : Lookup) (m : DnsDatagram) (a : Answer) : Type 0 where
  pub from_server : m.src ≡ l.server
  pub answers : IsAnswer m.body l.id l.name a

abbrev pub IsNoReply : Lookup → DnsDatagram → Type 0
IsNoReply l m = (a : Answer) → IsReplyTo l m a → ⊥

-- no datagram replies
abbrev pub IsSilentCall : Lookup → List DnsDatagram → Type 0
IsSilentCall l ms = AllByRecursion (IsNoReply l) ms

-- this is what the first of the datagrams that replies answers
abbrev pub FirstReply : Lookup → List DnsDatagram → Answer → Type 0
FirstReply l [] a = ⊥
FirstReply l (m ∷ ms) a = IsReplyTo l m a ⊎ (IsNoReply l m × FirstReply l ms a)

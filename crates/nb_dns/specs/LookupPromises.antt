-- What a look-up promises of all its calls, by what arrived and when
use Rattle.std.specs.Prelude.{◌≡◌, ◌⊎◌, ℕ, List, [], map, filter}
use Rattle.nb_retry.specs.declared.plan.Plan.TheVariants.{Common}
use Rattle.nb_retry.specs.Calls.{fires}
use Rattle.nb_retry.specs.Plans.{firings, waits}
use Rattle.nb_terms.specs.declared.acts.Acts.{Acts}
use Rattle.nb_dnsmsg.specs.declared.answer.Answer.{Answer}
use Rattle.nb_dns.specs.Lookups.{Lookup, asks_lookup_nothing, asks_lookup_end, asks_by, lookup_cause}
use Rattle.nb_dns.specs.LookupCalls.{LookupCall, arrived, clocked, DnsDatagram, LookupEntry, datagrams, lookup_times, said_by, EachLookupEntry, IsReplyTo, IsNoReply, IsSilentCall}

-- the datagram replies, and its answer ends the look-up
pub record TakesReply (l : Lookup) (m : DnsDatagram) (acts : Acts) : Type 0 where
  pub answer : Answer
  pub replies : IsReplyTo l m answer
  pub ends : acts ≡ asks_lookup_end (lookup_cause m.rec answer)

-- What a call asks: a reply ends the look-up, and what is no reply is ignored. At a time the query is sent
-- again, or given up, only while no datagram has replied.
abbrev pub AsksAt : Lookup → List DnsDatagram → LookupCall → Acts → Type 0
AsksAt l before (arrived m now) acts = TakesReply l m acts ⊎ (IsNoReply l m × (acts ≡ asks_lookup_nothing))
AsksAt l before (clocked now) acts = (acts ≡ asks_by l (said_by acts)) × IsSilentCall l before

abbrev pub AsksInTurn : Lookup → List LookupEntry → LookupEntry → Type 0
AsksInTurn l before e = AsksAt l (datagrams before) e.call e.acts

-- the tries stand at the plan's times, over all times since the query was first sent
abbrev pub TriesInTime : ℕ → List LookupEntry → Type 0
TriesInTime start entries =
    filter (λ call. fires call.said) (lookup_times entries)
    ≡ firings start (waits Common) (map (λ call. call.at) (lookup_times entries))

-- the promises to a look-up that was begun so, at a time
pub record LookupMeets (l : Lookup) (start : ℕ) (entries : List LookupEntry) : Type 0 where
  pub asking : EachLookupEntry (AsksInTurn l) [] entries
  pub tries : TriesInTime start entries

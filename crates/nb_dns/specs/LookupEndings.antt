-- RFC 1035, section 7.3: what stands after each end of a look-up, in what arrived and when
use Rattle.std.specs.Prelude.{◌≡◌, ◌<◌, ℕ, List, [], ◌∷◌, ◌++◌, Some, None, map}
use Rattle.nb_retry.specs.declared.plan.Plan.TheVariants.{Common}
use Rattle.nb_retry.specs.declared.retry.Due.{Due}
use Rattle.nb_retry.specs.declared.retry.Due.TheVariants.{Over}
use Rattle.nb_retry.specs.Plans.{Asked, asked_at, firings, waits}
use Rattle.nb_terms.specs.declared.cause.Cause.{Cause}
use Rattle.nb_wire.specs.declared.address.Ip4.{Ip4}
use Rattle.nb_dnsmsg.specs.declared.answer.Answer.{Answer}
use Rattle.nb_dns.specs.Lookups.{Lookup, looked_up, lookup_refused, lookup_timed_out}
use Rattle.nb_dns.specs.LookupCalls.{DnsDatagram, arrived, clocked, LookupEntry, datagrams, lookup_times, IsReplyTo, IsSilentCall}

-- Over all times up to this one, the plan's last firing is this try or its end, at this time.
pub record PlanFires (start : ℕ) (entries : List LookupEntry) (now : ℕ) (due : Due) : Type 0 where
  pub earlier : List Asked
  pub last : firings start (waits Common) (map (λ call. call.at) (lookup_times entries)) ≡ earlier ++ asked_at now due ∷ []

-- Why a call gave this end: each cause stands in what arrived and when, and there is no other.
pub data LookupEnding (l : Lookup) (start : ℕ) (before : List LookupEntry) (e : LookupEntry) (cause : Cause) : Type 0 where
  -- the server answers with an address and without an error
  by_address : (m : DnsDatagram) (now : ℕ) (a : Answer) (address : Ip4) → e.call ≡ arrived m now → IsReplyTo l m a
      → a.rcode ≡ 0 → a.address ≡ Some address → cause ≡ looked_up → LookupEnding l start before e cause
  -- its response code is an error
  by_code : (m : DnsDatagram) (now : ℕ) (a : Answer) → e.call ≡ arrived m now → IsReplyTo l m a
      → 0 < a.rcode → cause ≡ lookup_refused m.rec a.rcode → LookupEnding l start before e cause
  -- it answers without an address
  by_no_address : (m : DnsDatagram) (now : ℕ) (a : Answer) → e.call ≡ arrived m now → IsReplyTo l m a
      → a.rcode ≡ 0 → a.address ≡ None → cause ≡ lookup_refused m.rec 0 → LookupEnding l start before e cause
  -- the tries have run out, and no datagram has replied
  by_no_reply : (now : ℕ) → e.call ≡ clocked now → IsSilentCall l (datagrams before) → PlanFires start (before ++ e ∷ []) now Over
      → cause ≡ lookup_timed_out → LookupEnding l start before e cause

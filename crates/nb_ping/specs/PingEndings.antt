-- RFC 792, page 14: what stands after each end of a ping, in what came and when
use Rattle.std.specs.Prelude.{◌≡◌, ℕ, true, false, List, [], ◌∷◌, ◌++◌, map}
use Rattle.nb_retry.specs.declared.plan.Plan.TheVariants.{Common}
use Rattle.nb_retry.specs.declared.retry.Due.{Due}
use Rattle.nb_retry.specs.declared.retry.Due.TheVariants.{Over}
use Rattle.nb_retry.specs.Plans.{Asked, asked_at, firings, waits}
use Rattle.nb_terms.specs.declared.cause.Cause.{Cause}
use Rattle.nb_ping.specs.Pings.{Pinged, ping_ok, ping_timed_out}
use Rattle.nb_ping.specs.PingCalls.{EchoReply, echoed, waited, PingEntry, echo_replies, ping_times, is_answered}

-- Over all times up to this one, the plan's last firing is this try or its end, at this time.
pub record PingFires (start : ℕ) (entries : List PingEntry) (now : ℕ) (due : Due) : Type 0 where
  pub earlier : List Asked
  pub last : firings start (waits Common) (map (λ call. call.at) (ping_times entries)) ≡ earlier ++ asked_at now due ∷ []

-- Why a call gave this end: each cause stands in what came and when, and there is no other.
pub data PingEnding (p : Pinged) (start : ℕ) (before : List PingEntry) (e : PingEntry) (cause : Cause) : Type 0 where
  -- the host replies with the identifier
  by_echo : (r : EchoReply) (now : ℕ) → e.call ≡ echoed r now → r.src ≡ p.host → r.ident ≡ p.ident → cause ≡ ping_ok
      → PingEnding p start before e cause
  -- the tries have run out, and no answer has come
  by_no_echo : (now : ℕ) → e.call ≡ waited now → is_answered p (echo_replies before) ≡ false
      → PingFires start (before ++ e ∷ []) now Over → cause ≡ ping_timed_out → PingEnding p start before e cause

-- RFC 2131, section 3.1: what stands after each end, and each message sent, in what came and when
use Rattle.std.specs.Prelude.{◌≡◌, ℕ, List, [], ◌∷◌, ◌++◌, Some, None, map}
use Rattle.std.specs.List.{AllByRecursion}
use Rattle.nb_retry.specs.declared.plan.Plan.TheVariants.{Dhcp}
use Rattle.nb_retry.specs.declared.retry.Due.{Due}
use Rattle.nb_retry.specs.declared.retry.Due.TheVariants.{Over}
use Rattle.nb_retry.specs.Plans.{Asked, asked_at, firings, waits}
use Rattle.nb_terms.specs.declared.acts.Acts.{Acts}
use Rattle.nb_terms.specs.declared.cause.Cause.{Cause}
use Rattle.nb_dhcp.specs.declared.asker.Asker.{Asker}
use Rattle.nb_dhcp.specs.declared.offer.Offer.{Offer}
use Rattle.nb_dhcp.specs.Messages.{message_text}
use Rattle.nb_dhcp.specs.Acting.{lease_ok, lease_refused, lease_timed_out, to_servers}
use Rattle.nb_dhcp.specs.History.{Handed, replied, elapsed, LeaseEntry, all_handed, lease_watch}
use Rattle.nb_dhcp.specs.Leases.{IsAckOf, IsNakOf, IsWithoutOffer, IsFirstOffer}

-- Of all times since the last first sending, the plan's last firing is this try or its end, at this time.
pub record LeaseFires (start : ℕ) (entries : List LeaseEntry) (now : ℕ) (due : Due) : Type 0 where
  pub earlier : List Asked
  pub last : firings (lease_watch start entries).since (waits Dhcp)
      (map (λ call. call.at) (lease_watch start entries).times) ≡ earlier ++ asked_at now due ∷ []

-- the datagram is no verdict of the offer's server
abbrev pub IsNoVerdict : Asker → Offer → Handed → Type 0
IsNoVerdict a offer m = (IsAckOf a offer m.body → ⊥) × (IsNakOf a offer m.body → ⊥)

-- what was sent last has no answer: the DISCOVER no valid offer, the REQUEST no verdict of its server
pub data IsSilence (a : Asker) (start : ℕ) (before : List LeaseEntry) : Type 0 where
  no_offer : IsWithoutOffer a (all_handed before) → IsSilence a start before
  no_verdict : (offer : Offer) → IsFirstOffer a (all_handed before) offer
      → AllByRecursion (IsNoVerdict a offer) (lease_watch start before).replies → IsSilence a start before

-- Why a call gave this end: each cause stands in what came and when, and there is no other.
pub data LeaseEnding (a : Asker) (start : ℕ) (before : List LeaseEntry) (e : LeaseEntry)
    (cause : Cause) : Type 0 where
  -- the server of the first valid offer acknowledges
  by_acknowledgement : (m : Handed) (now : ℕ) (offer : Offer) → e.call ≡ replied m now
      → IsFirstOffer a (all_handed before) offer → IsAckOf a offer m.body → cause ≡ lease_ok
      → LeaseEnding a start before e cause
  -- it refuses, in this record
  by_refusal : (m : Handed) (now : ℕ) (offer : Offer) → e.call ≡ replied m now
      → IsFirstOffer a (all_handed before) offer → IsNakOf a offer m.body → cause ≡ lease_refused m.rec
      → LeaseEnding a start before e cause
  -- the tries have run out without an answer
  by_no_answer : (now : ℕ) → e.call ≡ elapsed now → IsSilence a start before
      → LeaseFires start (before ++ e ∷ []) now Over → cause ≡ lease_timed_out
      → LeaseEnding a start before e cause

-- What a call sends, by the datagrams up to and with it: nothing; the DISCOVER, while there is no valid
-- offer; or the REQUEST of the first valid offer.
pub data LeaseSending (a : Asker) (ms : List Handed) (acts : Acts) : Type 0 where
  sends_nothing : acts.sends.items ≡ [] → LeaseSending a ms acts
  sends_discover : IsWithoutOffer a ms → acts.sends.items ≡ to_servers (message_text a None) ∷ []
      → LeaseSending a ms acts
  sends_request : (offer : Offer) → IsFirstOffer a ms offer
      → acts.sends.items ≡ to_servers (message_text a (Some offer)) ∷ [] → LeaseSending a ms acts

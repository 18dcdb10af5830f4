-- What a core stands for: all the calls since its start
use Rattle.std.specs.Prelude.{◌≡◌, ℕ, false, List, Option, None, Some}
use Rattle.nb_retry.specs.declared.plan.Plan.TheVariants.{Dhcp}
use Rattle.nb_retry.specs.Calls.{TimerStands}
use Rattle.nb_dhcp.specs.declared.asker.Asker.{Asker}
use Rattle.nb_dhcp.specs.declared.state.State.{State}
use Rattle.nb_dhcp.specs.History.{LeaseEntry, all_handed, Offered, offered, taken_offer, verdict_after, acknowledgement_in, is_done, lease_watch}
use Rattle.nb_dhcp.specs.Promises.{LeasePromises, IsWithoutAnswer}
use Rattle.nb_dhcp.specs.LeaseSteps.{offer_at, is_over_at, kept_at}

-- no verdict on the first valid offer has come
abbrev pub IsPending : Asker → Option Offered → Type 0
IsPending a None = Unit {0}
IsPending a (Some first) = verdict_after a first ≡ None

-- a core that hasn't ended knows which offer it requests, and its timer has run since the last first sending
pub record IsAsking (a : Asker) (start : ℕ) (s : State) (entries : List LeaseEntry) : Type 0 where
  pub taken : offer_at s.phase ≡ taken_offer a (all_handed entries)
  pub pending : IsPending a (offered a (all_handed entries))
  pub timer : TimerStands s.retry (lease_watch start entries).times
  pub since : s.retry.since ≡ (lease_watch start entries).since
  pub plan : s.retry.plan ≡ Dhcp
  pub unanswered : IsWithoutAnswer a start entries

-- A client's core that began to ask at a time stands for these calls with what they asked: they meet its
-- promises, it has ended exactly where one of them gave the end, and it keeps the acknowledgement.
pub record LeaseStands (a : Asker) (start : ℕ) (s : State) (entries : List LeaseEntry) : Type 0 where
  pub meets : LeasePromises a start entries
  pub its : s.asker ≡ a
  pub over : is_over_at s.phase ≡ is_done entries
  pub kept : kept_at s.phase s.ack.items ≡ acknowledgement_in a (all_handed entries)
  pub asks : is_over_at s.phase ≡ false → IsAsking a start s entries

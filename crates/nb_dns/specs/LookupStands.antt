-- What a look-up stands for: all the calls since its start
use Rattle.std.specs.Prelude.{◌≡◌, ℕ, Bool, true, false, List, Option, Some, None}
use Rattle.nb_retry.specs.declared.plan.Plan.TheVariants.{Common}
use Rattle.nb_retry.specs.Calls.{TimerStands}
use Rattle.nb_wire.specs.declared.address.Ip4.{Ip4}
use Rattle.nb_dnsmsg.specs.declared.answer.Answer.{Answer}
use Rattle.nb_dnsmsg.specs.Messages.{question_text}
use Rattle.nb_dns.specs.declared.state.State.{State}
use Rattle.nb_dns.specs.declared.state.LookupPhase.{LookupPhase}
use Rattle.nb_dns.specs.declared.state.LookupPhase.TheVariants.{Asking, Found, Failed}
use Rattle.nb_dns.specs.Lookups.{Lookup, address_given}
use Rattle.nb_dns.specs.LookupCalls.{LookupEntry, datagrams, lookup_times, lookup_ended, IsSilentCall, FirstReply}
use Rattle.nb_dns.specs.LookupPromises.{LookupMeets}

abbrev pub lookup_has_ended : LookupPhase → Bool
lookup_has_ended Asking = false
lookup_has_ended (Found address) = true
lookup_has_ended Failed = true

abbrev pub phase_address : LookupPhase → Option Ip4
phase_address Asking = None
phase_address (Found address) = Some address
phase_address Failed = None

abbrev pub lookup_of : State → Lookup
lookup_of s = record { server = s.server; own_port = s.own_port; id = s.id; name = s.name.items }

-- a look-up that hasn't ended has had no reply, and its timer has run since its start
pub record IsLooking (l : Lookup) (start : ℕ) (s : State) (entries : List LookupEntry) : Type 0 where
  pub silent : IsSilentCall l (datagrams entries)
  pub timer : TimerStands s.retry (lookup_times entries)
  pub since : s.retry.since ≡ start
  pub plan : s.retry.plan ≡ Common

-- A look-up that was begun so, at a time, stands for these calls with what they asked: they meet its
-- promises, it has ended exactly where one of them gave the end, and it keeps the address of the first reply.
pub record LookupStands (l : Lookup) (start : ℕ) (s : State) (entries : List LookupEntry) : Type 0 where
  pub meets : LookupMeets l start entries
  pub begun : lookup_of s ≡ l
  pub query : s.query.items ≡ question_text l.id l.name
  pub over : lookup_has_ended s.phase ≡ lookup_ended entries
  pub looking : lookup_has_ended s.phase ≡ false → IsLooking l start s entries
  pub found : (a : Answer) → FirstReply l (datagrams entries) a → phase_address s.phase ≡ address_given a
  pub none : IsSilentCall l (datagrams entries) → phase_address s.phase ≡ None

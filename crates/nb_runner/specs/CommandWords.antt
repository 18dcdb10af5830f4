-- What a command read from words comes to.
use Rattle.std.specs.Prelude.{◌≡◌, ℕ, ◌<◌, ◌≤◌, Bool, true, false, List, length, IfSome, Option, Ok}
use Rattle.nb_defs.specs.Causes.{ok}
use Rattle.nb_defs.specs.Commands.{CommandOutcome, refused, prints_text}
use Rattle.nb_imagecmd.specs.declared.asking.Asking.{Asking}
use Rattle.nb_imagecmd.specs.Asking.{MayBeFetched}
use Rattle.nb_drivecmd.specs.DiskNames.{named_disk}
use Rattle.nb_drivecmd.specs.declared.outcome.Hooking.{Hooking}
use Rattle.nb_command.specs.declared.command_plan.CommandPlan.{CommandPlan}
use Rattle.nb_command.specs.declared.command_plan.CommandPlan.TheVariants as plan
use Rattle.nb_command.specs.declared.outcome.Outcome.{Outcome}
use Rattle.nb_command.specs.declared.outcome.Outcome.TheVariants as outcome
use Rattle.nb_command.specs.declared.outcome.Job.TheVariants as job
use Rattle.nb_machine.specs.Effects.{Effect, says, goes, sleeps, shuts_device, leaves_with, sleeping_for}
use Rattle.nb_dns.specs.WrittenNames.{is_lookup_name}
use Rattle.nb_machine.specs.Errands as defs
use Rattle.nb_runner.specs.declared.command.Deed.{Deed}
use Rattle.nb_runner.specs.declared.command.Deed.TheVariants as deed
use Rattle.nb_runner.specs.declared.errand.Wanted.{Wanted}
use Rattle.nb_runner.specs.declared.errand.Errand.{Errand}
use Rattle.nb_runner.specs.declared.errand.Errand.TheVariants as errand
use Rattle.nb_runner.specs.declared.errand.Onward.{Onward}
use Rattle.nb_runner.specs.declared.errand.Onward.TheVariants as onward
use Rattle.nb_runner.specs.declared.command.Done.{Done}

-- a file that is asked for
abbrev pub wanted_of : Wanted → defs.Wanted
wanted_of w = record { server = w.server.0; asking = w.asking }

-- what is asked of a server, before its address is known and after that
abbrev pub errand_of : Errand → defs.Errand
errand_of (errand.File asking) = defs.fetches_then asking
errand_of errand.Echo = defs.echoes_then
errand_of (errand.Disk hooking) = defs.hooks_then hooking

abbrev pub onward_of : Onward → defs.Onward
onward_of (onward.File wanted) = defs.fetches_now (wanted_of wanted)
onward_of (onward.Echo server) = defs.echoes_now server.0
onward_of (onward.Disk hooking server) = defs.hooks_now hooking server.0
onward_of (onward.Name errand name by) = defs.looks_up_now (errand_of errand) name by.0

abbrev pub done_of : Done → CommandOutcome
done_of d = record { prints = d.prints; cause = d.cause; leaves = d.leaves }

abbrev pub deed_effect : Deed → Effect
deed_effect (deed.Ends d) = says (done_of d)
deed_effect (deed.Goes label) = goes label
deed_effect (deed.Sleeps seconds) = sleeps seconds
deed_effect deed.Shuts = shuts_device

-- what a command that was carried out comes to
abbrev pub outcome_effect : Outcome → Effect
outcome_effect outcome.Done = says (refused ok)
outcome_effect (outcome.Text text) = says (prints_text text)
outcome_effect (outcome.Goto label) = goes label
outcome_effect (outcome.Leave n) = says (leaves_with n)
outcome_effect (outcome.Wait (job.Sleep seconds)) = sleeping_for seconds
outcome_effect (outcome.Wait job.Lease) = says (refused ok)
outcome_effect (outcome.Wait (job.Ping text)) = says (refused ok)
outcome_effect (outcome.Wait (job.Lookup setting text)) = says (refused ok)
outcome_effect outcome.Down = shuts_device
outcome_effect (outcome.Images o) = says (refused ok)
outcome_effect (outcome.Drives o) = says (refused ok)

-- what it prints has at most so many bytes
abbrev pub PrintsAtMost : Deed → ℕ → Type 0
PrintsAtMost (deed.Ends d) most = IfSome d.prints (λ text. length text ≤ most)
PrintsAtMost (deed.Goes label) most = Unit {0}
PrintsAtMost (deed.Sleeps seconds) most = Unit {0}
PrintsAtMost deed.Shuts most = Unit {0}

-- a plan that asks for nothing
abbrev pub IsLocal : CommandPlan → Type 0
IsLocal (plan.Echo newline text) = Unit {0}
IsLocal (plan.Goto label) = Unit {0}
IsLocal (plan.Exit n) = Unit {0}
IsLocal (plan.Isset word) = Unit {0}
IsLocal (plan.Iseq a b) = Unit {0}
IsLocal (plan.Set name value) = Unit {0}
IsLocal (plan.Clear name) = Unit {0}
IsLocal (plan.Show name) = Unit {0}
IsLocal (plan.Inc name by) = Unit {0}
IsLocal (plan.Ifopen device) = Unit {0}
IsLocal (plan.Ifclose device) = Unit {0}
IsLocal (plan.Sleep seconds) = Unit {0}
IsLocal (plan.Dhcp device) = ⊥
IsLocal (plan.Ping text) = ⊥
IsLocal (plan.Nslookup setting text) = ⊥
IsLocal (plan.Images command) = ⊥
IsLocal (plan.Drives command) = ⊥

-- a plan that asks for a lease
abbrev pub IsForLease : CommandPlan → Type 0
IsForLease (plan.Dhcp device) = Unit {0}
IsForLease (plan.Echo newline text) = ⊥
IsForLease (plan.Goto label) = ⊥
IsForLease (plan.Exit n) = ⊥
IsForLease (plan.Isset word) = ⊥
IsForLease (plan.Iseq a b) = ⊥
IsForLease (plan.Set name value) = ⊥
IsForLease (plan.Clear name) = ⊥
IsForLease (plan.Show name) = ⊥
IsForLease (plan.Inc name by) = ⊥
IsForLease (plan.Images command) = ⊥
IsForLease (plan.Drives command) = ⊥
IsForLease (plan.Ifopen device) = ⊥
IsForLease (plan.Ifclose device) = ⊥
IsForLease (plan.Sleep seconds) = ⊥
IsForLease (plan.Ping text) = ⊥
IsForLease (plan.Nslookup setting text) = ⊥

-- one that asks for something by one exchange
abbrev pub IsForInquiry : CommandPlan → Type 0
IsForInquiry (plan.Dhcp device) = Unit {0}
IsForInquiry (plan.Ping text) = Unit {0}
IsForInquiry (plan.Nslookup setting text) = Unit {0}
IsForInquiry (plan.Echo newline text) = ⊥
IsForInquiry (plan.Goto label) = ⊥
IsForInquiry (plan.Exit n) = ⊥
IsForInquiry (plan.Isset word) = ⊥
IsForInquiry (plan.Iseq a b) = ⊥
IsForInquiry (plan.Set name value) = ⊥
IsForInquiry (plan.Clear name) = ⊥
IsForInquiry (plan.Show name) = ⊥
IsForInquiry (plan.Inc name by) = ⊥
IsForInquiry (plan.Images command) = ⊥
IsForInquiry (plan.Drives command) = ⊥
IsForInquiry (plan.Ifopen device) = ⊥
IsForInquiry (plan.Ifclose device) = ⊥
IsForInquiry (plan.Sleep seconds) = ⊥

-- what it comes to asks for nothing either
abbrev pub IsLocalOutcome : Outcome → Type 0
IsLocalOutcome outcome.Done = Unit {0}
IsLocalOutcome (outcome.Text text) = Unit {0}
IsLocalOutcome (outcome.Goto label) = Unit {0}
IsLocalOutcome (outcome.Leave n) = Unit {0}
IsLocalOutcome (outcome.Wait (job.Sleep seconds)) = Unit {0}
IsLocalOutcome outcome.Down = Unit {0}
IsLocalOutcome (outcome.Wait job.Lease) = ⊥
IsLocalOutcome (outcome.Wait (job.Ping text)) = ⊥
IsLocalOutcome (outcome.Wait (job.Lookup setting text)) = ⊥
IsLocalOutcome (outcome.Images o) = ⊥
IsLocalOutcome (outcome.Drives o) = ⊥

-- a file that a command asks for
pub record IsAskedWell (asking : Asking) : Type 0 where
  pub fetched : MayBeFetched asking
  pub args : length asking.args ≤ 4160

-- an open may be made for it
pub record CanFetch (opens : ℕ) (w : Wanted) : Type 0 where
  pub few : opens < 16384
  pub fits : IsAskedWell w.asking

-- A disk that is to be hooked is one that a URI names.
pub record IsHookedWell (hooking : Hooking) : Type 0 where
  pub base : Option (List ℕ)
  pub uri : List ℕ
  pub names_it : named_disk base uri ≡ Ok hooking.disk

-- a file or a disk that is asked for fits
abbrev pub FitsErrand : Errand → Type 0
FitsErrand (errand.File asking) = IsAskedWell asking
FitsErrand errand.Echo = Unit {0}
FitsErrand (errand.Disk hooking) = IsHookedWell hooking

abbrev pub FitsOnward : Onward → Type 0
FitsOnward (onward.File wanted) = IsAskedWell wanted.asking
FitsOnward (onward.Echo server) = Unit {0}
FitsOnward (onward.Disk hooking server) = IsHookedWell hooking
FitsOnward (onward.Name errand name by) = (is_lookup_name name ≡ true) × FitsErrand errand

-- a disk is hooked by it: the drive of the disk's number is closed first
abbrev pub errand_hooks : Errand → Bool
errand_hooks (errand.File asking) = false
errand_hooks errand.Echo = false
errand_hooks (errand.Disk hooking) = true

abbrev pub onward_hooks : Onward → Bool
onward_hooks (onward.File wanted) = false
onward_hooks (onward.Echo server) = false
onward_hooks (onward.Disk hooking server) = true
onward_hooks (onward.Name errand name by) = errand_hooks errand

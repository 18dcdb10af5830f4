-- What a command that asks for something does at once: for a lease the device is set up, or it is refused.
use Rattle.std.proofs.Common.{◌≡◌, ℕ, Bool, true, List, Option, None, Result, Ok, Err, refl, sym, ◌∙◌, ap}
use Rattle.nb_terms.specs.declared.cause.Cause.{Cause}
use Rattle.nb_defs.specs.Commands.{refused}
use Rattle.nb_command.specs.declared.command_plan.CommandPlan.{CommandPlan}
use Rattle.nb_command.specs.declared.command_plan.CommandPlan.TheVariants as plan
use Rattle.nb_command.specs.declared.error.ApplyError.{ApplyError}
use Rattle.nb_command.specs.declared.outcome.Job.TheVariants as job
use Rattle.nb_command.specs.declared.outcome.Outcome.{Outcome}
use Rattle.nb_command.specs.declared.outcome.Outcome.TheVariants as outcome
use Rattle.nb_command.specs.declared.state.State.{State}
use Rattle.nb_command.specs.Applying.{applied, with_up}
use Rattle.nb_command.specs.Device.{device_change}
use Rattle.nb_command.specs.Failures.{apply_cause}
use Rattle.nb_runner.specs.CommandWords.{IsForLease}
use Rattle.nb_machine.specs.Effects.{says, inquires, device_effect, plan_effect, plan_table, plan_up, set_up, unless_full}
use Rattle.nb_machine.specs.Queries.{for_lease}
use Rattle.nb_runner.specs.World.{state_of}
use Rattle.nb_runner.proofs.CommandLaws.{IsRefusedSo, Answered, same_outcome, same_cause}

-- a command that asks for a lease has set the device up
pub record HasSetUp (p : CommandPlan) (s s' : State) : Type 0 where
  pub comes_to : (opens : ℕ) → plan_effect opens s.table p ≡ unless_full opens (inquires for_lease)
  pub state_is : s' ≡ state_of (plan_table p s.table) s.images s.drives (plan_up p s.up)

set_up_so : (device : Option (List ℕ)) (o : Outcome) (s s' : State) (r : Result Bool ApplyError) → device_change device true ≡ r → Answered (with_up (outcome.Wait job.Lease) s r) ≡ Ok (o, s') → HasSetUp (plan.Dhcp device) s s'
set_up_so device o s s' (Ok up) is e =
    let same : state_of s.table s.images s.drives up ≡ s' = (same_outcome (outcome.Wait job.Lease) o (state_of s.table s.images s.drives up) s' e).1 in
    record {
      comes_to = λ opens. ap (device_effect (unless_full opens (inquires for_lease))) is;
      state_is = sym same ∙ ap (λ u. state_of s.table s.images s.drives u) (sym (ap (set_up s.up) is));
    }
set_up_so device o s s' (Err why) is e = absurd (cc)

pub sets_up : (p : CommandPlan) (o : Outcome) (s s' : State) → IsForLease p → applied p None s ≡ Ok (o, s') → HasSetUp p s s'
unfolding applied
sets_up (plan.Dhcp device) o s s' here e = set_up_so device o s s' (device_change device true) refl e
sets_up (plan.Echo newline text) o s s' here e = absurd here
sets_up (plan.Goto label) o s s' here e = absurd here
sets_up (plan.Exit n) o s s' here e = absurd here
sets_up (plan.Isset word) o s s' here e = absurd here
sets_up (plan.Iseq a b) o s s' here e = absurd here
sets_up (plan.Set name value) o s s' here e = absurd here
sets_up (plan.Clear name) o s s' here e = absurd here
sets_up (plan.Show name) o s s' here e = absurd here
sets_up (plan.Inc name by) o s s' here e = absurd here
sets_up (plan.Images command) o s s' here e = absurd here
sets_up (plan.Drives command) o s s' here e = absurd here
sets_up (plan.Ifopen device) o s s' here e = absurd here
sets_up (plan.Ifclose device) o s s' here e = absurd here
sets_up (plan.Sleep seconds) o s s' here e = absurd here
sets_up (plan.Ping text) o s s' here e = absurd here
sets_up (plan.Nslookup setting text) o s s' here e = absurd here

-- or is refused
refused_so : (device : Option (List ℕ)) (s : State) (cause : Cause) (r : Result Bool ApplyError) → device_change device true ≡ r → Answered (with_up (outcome.Wait job.Lease) s r) ≡ Err cause → IsRefusedSo (plan.Dhcp device) s cause
refused_so device s cause (Ok up) is e = absurd (cc)
refused_so device s cause (Err why) is e =
    let same = same_cause (apply_cause why) cause e in
    record {
      comes_to = λ opens. ap (device_effect (unless_full opens (inquires for_lease))) is ∙ ap (λ k. says (refused k)) same;
      table_stays = refl;
      up_stays = ap (set_up s.up) is;
    }

pub refuses_lease : (p : CommandPlan) (s : State) (cause : Cause) → IsForLease p → applied p None s ≡ Err cause → IsRefusedSo p s cause
unfolding applied
refuses_lease (plan.Dhcp device) s cause here e = refused_so device s cause (device_change device true) refl e
refuses_lease (plan.Echo newline text) s cause here e = absurd here
refuses_lease (plan.Goto label) s cause here e = absurd here
refuses_lease (plan.Exit n) s cause here e = absurd here
refuses_lease (plan.Isset word) s cause here e = absurd here
refuses_lease (plan.Iseq a b) s cause here e = absurd here
refuses_lease (plan.Set name value) s cause here e = absurd here
refuses_lease (plan.Clear name) s cause here e = absurd here
refuses_lease (plan.Show name) s cause here e = absurd here
refuses_lease (plan.Inc name by) s cause here e = absurd here
refuses_lease (plan.Images command) s cause here e = absurd here
refuses_lease (plan.Drives command) s cause here e = absurd here
refuses_lease (plan.Ifopen device) s cause here e = absurd here
refuses_lease (plan.Ifclose device) s cause here e = absurd here
refuses_lease (plan.Sleep seconds) s cause here e = absurd here
refuses_lease (plan.Ping text) s cause here e = absurd here
refuses_lease (plan.Nslookup setting text) s cause here e = absurd here

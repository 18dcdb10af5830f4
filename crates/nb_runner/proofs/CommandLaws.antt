-- What carrying a command out does.
use Rattle.std.proofs.Common.{◌≡◌, ℕ, ◌==◌, ◌&&◌, Bool, true, false, List, Option, None, Result, Ok, Err, refl, sym, ◌∙◌, ap, subst, eq-eqb}
use Rattle.std.specs.Result.{result_map_both}
use Rattle.std.specs.Str.{bytes_eq}
use Rattle.nb_terms.specs.declared.cause.Cause.{Cause}
use Rattle.nb_defs.specs.Causes.{ok}
use Rattle.nb_defs.specs.Commands.{refused}
use Rattle.nb_settings.specs.Tables.{TableLists}
use Rattle.nb_command.specs.declared.command_plan.CommandPlan.{CommandPlan}
use Rattle.nb_command.specs.declared.command_plan.CommandPlan.TheVariants as plan
use Rattle.nb_command.specs.declared.error.ApplyError.{ApplyError}
use Rattle.nb_command.specs.declared.error.ApplyError.TheVariants.{False}
use Rattle.nb_command.specs.declared.outcome.Outcome.{Outcome}
use Rattle.nb_command.specs.declared.outcome.Outcome.TheVariants as outcome
use Rattle.nb_command.specs.declared.state.State.{State}
use Rattle.nb_command.specs.Failures.{apply_cause}
use Rattle.nb_command.specs.Applying.{applied, truth, in_state, with_table, with_up, text_outcome}
use Rattle.nb_command.specs.Settings.{Change}
use Rattle.nb_command.specs.Isset.{is_word_set}
use Rattle.nb_command.specs.Set.{set_table}
use Rattle.nb_command.specs.Clear.{cleared_table}
use Rattle.nb_command.specs.Show.{setting_shown}
use Rattle.nb_command.specs.Inc.{increased_table}
use Rattle.nb_command.specs.Device.{device_change}
use Rattle.nb_stack.specs.declared.address.Addr.{Addr}
use Rattle.nb_stack.specs.Client.{Client}
use Rattle.nb_runner.specs.declared.world.World.{World}
use Rattle.nb_runner.specs.World.{IsLinkOfState, state_of, world_with}
use Rattle.nb_machine.specs.Effects.{Effect, says, shuts_device, device_effect, plan_effect, plan_table, plan_up, set_up, truth_outcome, text_told, change_outcome, changed}
use Rattle.nb_runner.specs.CommandWords.{IsLocal, IsLocalOutcome, outcome_effect}

-- a link that has its address and its state already
link_stays : (net : Client) (address : Option Addr) (up : Bool) → net.address ≡ address → net.up ≡ up → ◌≡◌ {A = Client} (record net { address = address; up = up }) net
link_stays net address up a u =
    subst (λ x. ◌≡◌ {A = Client} (record net { address = x; up = up }) net) a (subst (λ y. ◌≡◌ {A = Client} (record net { address = net.address; up = y }) net) u refl)

pub world_stays : (w : World) (table : TableLists) (up : Bool) → IsLinkOfState w → table ≡ w.state.table → up ≡ w.state.up → world_with w table up ≡ w
world_stays w table up linked e u =
    rw (e, u) (ap (λ (net : Client). record { w = w.w; machine = w.machine; time = w.time; net = net; opens = w.opens; state = w.state; outer = w.outer }) (link_stays w.net _ w.state.up linked.address linked.up))

-- two causes that are the same are found so
pub found_same : (x y : Cause) → x ≡ y → ((x.code == y.code) && ((x.a == y.a) && (x.b == y.b))) ≡ true
found_same x y e = rw (e, eq-eqb y.code y.code refl, eq-eqb y.a y.a refl, eq-eqb y.b y.b refl) refl

-- WHAT CARRYING A COMMAND OUT DOES

pub record IsCarriedOut (p : CommandPlan) (o : Outcome) (s s' : State) : Type 0 where
  pub comes_to : (opens : ℕ) → plan_effect opens s.table p ≡ outcome_effect o
  pub state_is : s' ≡ state_of (plan_table p s.table) s.images s.drives (plan_up p s.up)
  pub is_local : IsLocalOutcome o

-- an answer with an outcome and a state
pub same_outcome : (o o' : Outcome) (s s' : State) → ◌≡◌ {A = Result (Outcome × State) Cause} (Ok (o, s)) (Ok (o', s')) → (o ≡ o') × (s ≡ s')
same_outcome o o' s s' e =
    let same : (o, s) ≡ (o', s') = cc in
    (ap (λ (x : Outcome × State). x.0) same, ap (λ (x : Outcome × State). x.1) same)

abbrev pub Answered : Result (Outcome × State) ApplyError → Result (Outcome × State) Cause
Answered answer = result_map_both (λ after. after) apply_cause answer

-- a command that leaves the state as it was
keeps_state : (p : CommandPlan) (o0 o : Outcome) (s s' : State) → plan_table p s.table ≡ s.table → plan_up p s.up ≡ s.up → ((opens : ℕ) → plan_effect opens s.table p ≡ outcome_effect o0) → IsLocalOutcome o0 →
    ◌≡◌ {A = Result (Outcome × State) Cause} (Ok (o0, s)) (Ok (o, s')) → IsCarriedOut p o s s'
keeps_state p o0 o s s' same still comes here e =
    let both = same_outcome o0 o s s' e in
    record {
      comes_to = λ opens. comes opens ∙ ap outcome_effect both.0;
      state_is = sym both.1 ∙ (ap (λ t. state_of t s.images s.drives s.up) (sym same) ∙ ap (λ u. state_of (plan_table p s.table) s.images s.drives u) (sym still));
      is_local = subst IsLocalOutcome both.0 here;
    }

-- one that asks whether something is so
truth_ok : (p : CommandPlan) (b : Bool) (o : Outcome) (s s' : State) → plan_table p s.table ≡ s.table → plan_up p s.up ≡ s.up → ((opens : ℕ) → plan_effect opens s.table p ≡ says (truth_outcome b)) →
    Answered (in_state s (truth b)) ≡ Ok (o, s') → IsCarriedOut p o s s'
truth_ok p true o s s' same still comes e = keeps_state p outcome.Done o s s' same still comes tt e
truth_ok p false o s s' same still comes e = absurd (cc)

-- one that prints a setting
text_ok : (p : CommandPlan) (r : Result (List ℕ) ApplyError) (o : Outcome) (s s' : State) → plan_table p s.table ≡ s.table → plan_up p s.up ≡ s.up → ((opens : ℕ) → plan_effect opens s.table p ≡ says (text_told r)) →
    Answered (in_state s (text_outcome r)) ≡ Ok (o, s') → IsCarriedOut p o s s'
text_ok p (Ok text) o s s' same still comes e = keeps_state p (outcome.Text text) o s s' same still comes tt e
text_ok p (Err why) o s s' same still comes e = absurd (cc)

-- one that changes the settings
change_ok : (p : CommandPlan) (r : Change) (o : Outcome) (s s' : State) → plan_table p s.table ≡ changed s.table r → plan_up p s.up ≡ s.up → ((opens : ℕ) → plan_effect opens s.table p ≡ says (change_outcome r)) →
    Answered (with_table s r) ≡ Ok (o, s') → IsCarriedOut p o s s'
change_ok p (Ok table) o s s' same still comes e =
    let both = same_outcome outcome.Done o (state_of table s.images s.drives s.up) s' e in
    record {
      comes_to = λ opens. comes opens ∙ ap outcome_effect both.0;
      state_is = sym both.1 ∙ (ap (λ t. state_of t s.images s.drives s.up) (sym same) ∙ ap (λ u. state_of (plan_table p s.table) s.images s.drives u) (sym still));
      is_local = subst IsLocalOutcome both.0 tt;
    }
change_ok p (Err why) o s s' same still comes e = absurd (cc)

-- one that sets the device up or down
device_ok : (p : CommandPlan) (wanted : Outcome) (r : Result Bool ApplyError) (o : Outcome) (s s' : State) → plan_table p s.table ≡ s.table → plan_up p s.up ≡ set_up s.up r →
    ((opens : ℕ) → plan_effect opens s.table p ≡ device_effect (outcome_effect wanted) r) → IsLocalOutcome wanted → Answered (with_up wanted s r) ≡ Ok (o, s') → IsCarriedOut p o s s'
device_ok p wanted (Ok up) o s s' same still comes here e =
    let both = same_outcome wanted o (state_of s.table s.images s.drives up) s' e in
    record {
      comes_to = λ opens. comes opens ∙ ap outcome_effect both.0;
      state_is = sym both.1 ∙ (ap (λ t. state_of t s.images s.drives up) (sym same) ∙ ap (λ u. state_of (plan_table p s.table) s.images s.drives u) (sym still));
      is_local = subst IsLocalOutcome both.0 here;
    }
device_ok p wanted (Err why) o s s' same still comes here e = absurd (cc)

pub carried_ok : (p : CommandPlan) (o : Outcome) (s s' : State) → IsLocal p → applied p None s ≡ Ok (o, s') → IsCarriedOut p o s s'
unfolding applied
carried_ok (plan.Echo newline text) o s s' here e = keeps_state (plan.Echo newline text) _ o s s' refl refl (λ opens. refl) tt e
carried_ok (plan.Goto label) o s s' here e = keeps_state (plan.Goto label) _ o s s' refl refl (λ opens. refl) tt e
carried_ok (plan.Exit n) o s s' here e = keeps_state (plan.Exit n) _ o s s' refl refl (λ opens. refl) tt e
carried_ok (plan.Isset word) o s s' here e = truth_ok (plan.Isset word) (is_word_set word) o s s' refl refl (λ opens. refl) e
carried_ok (plan.Iseq a b) o s s' here e = truth_ok (plan.Iseq a b) (bytes_eq a b) o s s' refl refl (λ opens. refl) e
carried_ok (plan.Set name value) o s s' here e = change_ok (plan.Set name value) (set_table name value s.table) o s s' refl refl (λ opens. refl) e
carried_ok (plan.Clear name) o s s' here e = change_ok (plan.Clear name) (cleared_table name s.table) o s s' refl refl (λ opens. refl) e
carried_ok (plan.Show name) o s s' here e = text_ok (plan.Show name) (setting_shown name s.table) o s s' refl refl (λ opens. refl) e
carried_ok (plan.Inc name by) o s s' here e = change_ok (plan.Inc name by) (increased_table name by s.table) o s s' refl refl (λ opens. refl) e
carried_ok (plan.Ifopen device) o s s' here e = device_ok (plan.Ifopen device) outcome.Done (device_change device true) o s s' refl refl (λ opens. refl) tt e
carried_ok (plan.Ifclose device) o s s' here e = device_ok (plan.Ifclose device) outcome.Down (device_change device false) o s s' refl refl (λ opens. refl) tt e
carried_ok (plan.Sleep seconds) o s s' here e = keeps_state (plan.Sleep seconds) _ o s s' refl refl (λ opens. refl) tt e
carried_ok (plan.Images command) o s s' here e = absurd here
carried_ok (plan.Drives command) o s s' here e = absurd here
carried_ok (plan.Dhcp device) o s s' here e = absurd here
carried_ok (plan.Ping text) o s s' here e = absurd here
carried_ok (plan.Nslookup setting text) o s s' here e = absurd here

-- a command that is refused
pub record IsRefusedSo (p : CommandPlan) (s : State) (cause : Cause) : Type 0 where
  pub comes_to : (opens : ℕ) → plan_effect opens s.table p ≡ says (refused cause)
  pub table_stays : plan_table p s.table ≡ s.table
  pub up_stays : plan_up p s.up ≡ s.up

pub same_cause : (c c' : Cause) → ◌≡◌ {A = Result (Outcome × State) Cause} (Err c) (Err c') → c ≡ c'
same_cause c c' e = cc

fails_so : (p : CommandPlan) (s : State) (why : ApplyError) (cause : Cause) → plan_table p s.table ≡ s.table → plan_up p s.up ≡ s.up → ((opens : ℕ) → plan_effect opens s.table p ≡ says (refused (apply_cause why))) →
    ◌≡◌ {A = Result (Outcome × State) Cause} (Err (apply_cause why)) (Err cause) → IsRefusedSo p s cause
fails_so p s why cause same still comes e = record { comes_to = λ opens. comes opens ∙ ap (λ c. says (refused c)) (same_cause (apply_cause why) cause e); table_stays = same; up_stays = still }

truth_err : (p : CommandPlan) (b : Bool) (s : State) (cause : Cause) → plan_table p s.table ≡ s.table → plan_up p s.up ≡ s.up → ((opens : ℕ) → plan_effect opens s.table p ≡ says (truth_outcome b)) →
    Answered (in_state s (truth b)) ≡ Err cause → IsRefusedSo p s cause
truth_err p true s cause same still comes e = absurd (cc)
truth_err p false s cause same still comes e = fails_so p s False cause same still comes e

text_err : (p : CommandPlan) (r : Result (List ℕ) ApplyError) (s : State) (cause : Cause) → plan_table p s.table ≡ s.table → plan_up p s.up ≡ s.up → ((opens : ℕ) → plan_effect opens s.table p ≡ says (text_told r)) →
    Answered (in_state s (text_outcome r)) ≡ Err cause → IsRefusedSo p s cause
text_err p (Ok text) s cause same still comes e = absurd (cc)
text_err p (Err why) s cause same still comes e = fails_so p s why cause same still comes e

change_err : (p : CommandPlan) (r : Change) (s : State) (cause : Cause) → plan_table p s.table ≡ changed s.table r → plan_up p s.up ≡ s.up → ((opens : ℕ) → plan_effect opens s.table p ≡ says (change_outcome r)) →
    Answered (with_table s r) ≡ Err cause → IsRefusedSo p s cause
change_err p (Ok table) s cause same still comes e = absurd (cc)
change_err p (Err why) s cause same still comes e = fails_so p s why cause same still comes e

device_err : (p : CommandPlan) (wanted : Outcome) (r : Result Bool ApplyError) (e : Effect) (s : State) (cause : Cause) → plan_table p s.table ≡ s.table → plan_up p s.up ≡ set_up s.up r →
    ((opens : ℕ) → plan_effect opens s.table p ≡ device_effect e r) → Answered (with_up wanted s r) ≡ Err cause → IsRefusedSo p s cause
device_err p wanted (Ok up) e s cause same still comes is = absurd (cc)
device_err p wanted (Err why) e s cause same still comes is = fails_so p s why cause same still comes is

never_fails : (p : CommandPlan) (o : Outcome) (s s' : State) (cause : Cause) → ◌≡◌ {A = Result (Outcome × State) Cause} (Ok (o, s')) (Err cause) → IsRefusedSo p s cause
never_fails p o s s' cause e = absurd (cc)

pub carried_err : (p : CommandPlan) (s : State) (cause : Cause) → IsLocal p → applied p None s ≡ Err cause → IsRefusedSo p s cause
unfolding applied
carried_err (plan.Echo newline text) s cause here e = never_fails (plan.Echo newline text) _ s s cause e
carried_err (plan.Goto label) s cause here e = never_fails (plan.Goto label) _ s s cause e
carried_err (plan.Exit n) s cause here e = never_fails (plan.Exit n) _ s s cause e
carried_err (plan.Isset word) s cause here e = truth_err (plan.Isset word) (is_word_set word) s cause refl refl (λ opens. refl) e
carried_err (plan.Iseq a b) s cause here e = truth_err (plan.Iseq a b) (bytes_eq a b) s cause refl refl (λ opens. refl) e
carried_err (plan.Set name value) s cause here e = change_err (plan.Set name value) (set_table name value s.table) s cause refl refl (λ opens. refl) e
carried_err (plan.Clear name) s cause here e = change_err (plan.Clear name) (cleared_table name s.table) s cause refl refl (λ opens. refl) e
carried_err (plan.Show name) s cause here e = text_err (plan.Show name) (setting_shown name s.table) s cause refl refl (λ opens. refl) e
carried_err (plan.Inc name by) s cause here e = change_err (plan.Inc name by) (increased_table name by s.table) s cause refl refl (λ opens. refl) e
carried_err (plan.Ifopen device) s cause here e = device_err (plan.Ifopen device) outcome.Done (device_change device true) (says (refused ok)) s cause refl refl (λ opens. refl) e
carried_err (plan.Ifclose device) s cause here e = device_err (plan.Ifclose device) outcome.Down (device_change device false) shuts_device s cause refl refl (λ opens. refl) e
carried_err (plan.Sleep seconds) s cause here e = never_fails (plan.Sleep seconds) _ s s cause e
carried_err (plan.Images command) s cause here e = absurd here
carried_err (plan.Drives command) s cause here e = absurd here
carried_err (plan.Dhcp device) s cause here e = absurd here
carried_err (plan.Ping text) s cause here e = absurd here
carried_err (plan.Nslookup setting text) s cause here e = absurd here

-- COMMANDS THAT BEGIN

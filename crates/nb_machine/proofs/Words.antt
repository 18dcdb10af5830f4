-- What commands come to, by their words before and after expansion, and what they leave.
use Rattle.std.proofs.Common.{◌≡◌, ℕ, ◌<◌, ◌==◌, Bool, true, false, cond, List, Result, Ok, Err, arith, refl, ◌∙◌, ap, subst}
use Rattle.std.proofs.lemmas.Bool.{eqb-false}
use Rattle.nb_defs.specs.Causes.{ok}
use Rattle.nb_defs.specs.Commands.{CommandOutcome, refused}
use Rattle.nb_settings.specs.Tables.{TableLists}
use Rattle.nb_expand.specs.declared.error.ExpandError.{ExpandError}
use Rattle.nb_command.specs.declared.command_plan.CommandPlan.{CommandPlan}
use Rattle.nb_command.specs.declared.command_plan.CommandPlan.TheVariants as plan
use Rattle.nb_command.specs.declared.error.ApplyError.{ApplyError}
use Rattle.nb_imagecmd.specs.declared.error.PlanError.{PlanError}
use Rattle.nb_imagecmd.specs.declared.commands.ImageCommand.{ImageCommand}
use Rattle.nb_drivecmd.specs.declared.commands.DriveCommand.{DriveCommand}
use Rattle.nb_command.specs.Planning.{planned}
use Rattle.nb_command.specs.Device.{device_change}
use Rattle.nb_machine.specs.Queries.{Query, for_lease}
use Rattle.nb_machine.proofs.Eithers.{drives_either, full_either, images_either, looked_up_either, pinged_either}
use Rattle.nb_machine.specs.Effects.{Effect, says, asks, goes, sleeps, shuts_device, inquires, on_images, on_drives, hooks_disk, unhooks_drive, boots_drive, concludes_at_once, Surroundings, settled_effect, effect_in, unless_full, sleeping_for, device_effect, plan_effect, plan_table, plan_up, set_up, planned_effect, planned_table, planned_up, words_effect, words_table, words_up, expansion, expanded_effect, expanded_table, expanded_up, expand_cause, effect, table_after, up_after, shown_words, shown_by, shown_as}

-- expanded words say the effect
pub effect_of_words : (opens : ℕ) (table : TableLists) (written ws : List (List ℕ)) → expansion table written ≡ Ok ws → effect opens table written ≡ words_effect opens table ws
unfolding effect
effect_of_words opens table written ws e = ap (expanded_effect opens table) e

pub table_of_words : (table : TableLists) (written ws : List (List ℕ)) → expansion table written ≡ Ok ws → table_after table written ≡ words_table table ws
unfolding table_after
table_of_words table written ws e = ap (expanded_table table) e

pub up_of_words : (table : TableLists) (up : Bool) (written ws : List (List ℕ)) → expansion table written ≡ Ok ws → up_after table up written ≡ words_up up ws
unfolding up_after
up_of_words table up written ws e = ap (expanded_up up) e

pub shown_of_words : (table : TableLists) (written ws : List (List ℕ)) → expansion table written ≡ Ok ws → shown_words table written ≡ shown_as true ws
unfolding shown_words
shown_of_words table written ws e = ap (shown_by written) e

-- words that aren't expanded
pub effect_of_refused : (opens : ℕ) (table : TableLists) (written : List (List ℕ)) (why : ExpandError) → expansion table written ≡ Err why → effect opens table written ≡ says (refused (expand_cause why))
unfolding effect
effect_of_refused opens table written why e = ap (expanded_effect opens table) e

pub table_of_refused : (table : TableLists) (written : List (List ℕ)) (why : ExpandError) → expansion table written ≡ Err why → table_after table written ≡ table
unfolding table_after
table_of_refused table written why e = ap (expanded_table table) e

pub up_of_refused : (table : TableLists) (up : Bool) (written : List (List ℕ)) (why : ExpandError) → expansion table written ≡ Err why → up_after table up written ≡ up
unfolding up_after
up_of_refused table up written why e = ap (expanded_up up) e

pub shown_of_refused : (table : TableLists) (written : List (List ℕ)) (why : ExpandError) → expansion table written ≡ Err why → shown_words table written ≡ shown_as false written
unfolding shown_words
shown_of_refused table written why e = ap (shown_by written) e

-- a planned command says the effect
pub effect_of_plan : (opens : ℕ) (table : TableLists) (ws : List (List ℕ)) (q : Result CommandPlan PlanError) → planned ws ≡ q → words_effect opens table ws ≡ planned_effect opens table q
unfolding words_effect
effect_of_plan opens table ws q e = ap (planned_effect opens table) e

pub table_of_plan : (table : TableLists) (ws : List (List ℕ)) (q : Result CommandPlan PlanError) → planned ws ≡ q → words_table table ws ≡ planned_table table q
unfolding words_table
table_of_plan table ws q e = ap (planned_table table) e

pub up_of_plan : (up : Bool) (ws : List (List ℕ)) (q : Result CommandPlan PlanError) → planned ws ≡ q → words_up up ws ≡ planned_up up q
unfolding words_up
up_of_plan up ws q e = ap (planned_up up) e

-- THE SETTINGS STAY, BUT FOR A COMMAND THAT IS OVER AT ONCE

abbrev pub KeepsTable : Effect → TableLists → TableLists → Type 0
KeepsTable (says o) table other = Unit {0}
KeepsTable (asks wanted) table other = other ≡ table
KeepsTable (goes name) table other = other ≡ table
KeepsTable (sleeps seconds) table other = other ≡ table
KeepsTable shuts_device table other = Unit {0}
KeepsTable (inquires q) table other = Unit {0}
KeepsTable (on_images command) table other = other ≡ table
KeepsTable (on_drives command) table other = other ≡ table
KeepsTable (hooks_disk hooking) table other = other ≡ table
KeepsTable (unhooks_drive number cause) table other = other ≡ table
KeepsTable (boots_drive number) table other = other ≡ table
KeepsTable (concludes_at_once c) table other = other ≡ table

keeps_same : (e : Effect) (table : TableLists) → KeepsTable e table table
keeps_same (says o) table = tt
keeps_same (asks wanted) table = refl
keeps_same (goes name) table = refl
keeps_same (sleeps seconds) table = refl
keeps_same shuts_device table = tt
keeps_same (inquires q) table = tt
keeps_same (on_images command) table = refl
keeps_same (on_drives command) table = refl
keeps_same (hooks_disk hooking) table = refl
keeps_same (unhooks_drive number cause) table = refl
keeps_same (boots_drive number) table = refl
keeps_same (concludes_at_once c) table = refl

keeps_plan : (opens : ℕ) (table : TableLists) (p : CommandPlan) → KeepsTable (plan_effect opens table p) table (plan_table p table)
keeps_plan opens table (plan.Echo newline text) = tt
keeps_plan opens table (plan.Goto label) = refl
keeps_plan opens table (plan.Exit n) = tt
keeps_plan opens table (plan.Isset word) = tt
keeps_plan opens table (plan.Iseq a b) = tt
keeps_plan opens table (plan.Set name value) = tt
keeps_plan opens table (plan.Clear name) = tt
keeps_plan opens table (plan.Show name) = tt
keeps_plan opens table (plan.Inc name by) = tt
keeps_plan opens table (plan.Images command) = refl
keeps_plan opens table (plan.Drives command) = refl
keeps_plan opens table (plan.Ifopen device) = keeps_same (plan_effect opens table (plan.Ifopen device)) table
keeps_plan opens table (plan.Ifclose device) = keeps_same (plan_effect opens table (plan.Ifclose device)) table
keeps_plan opens table (plan.Dhcp device) = keeps_same (plan_effect opens table (plan.Dhcp device)) table
keeps_plan opens table (plan.Ping text) = keeps_same (plan_effect opens table (plan.Ping text)) table
keeps_plan opens table (plan.Nslookup setting text) =
    looked_up_either (λ e. KeepsTable e table (plan_table (plan.Nslookup setting text) table)) (λ o. tt) (λ q. tt) opens table setting text
keeps_plan opens table (plan.Sleep seconds) = keeps_same (plan_effect opens table (plan.Sleep seconds)) table

keeps_planned : (opens : ℕ) (table : TableLists) (q : Result CommandPlan PlanError) → KeepsTable (planned_effect opens table q) table (planned_table table q)
keeps_planned opens table (Ok p) = keeps_plan opens table p
keeps_planned opens table (Err why) = tt

pub keeps_words : (opens : ℕ) (table : TableLists) (ws : List (List ℕ)) → KeepsTable (words_effect opens table ws) table (words_table table ws)
unfolding words_effect words_table
keeps_words opens table ws = keeps_planned opens table (planned ws)

keeps_expanded : (opens : ℕ) (table : TableLists) (r : Result (List (List ℕ)) ExpandError) → KeepsTable (expanded_effect opens table r) table (expanded_table table r)
keeps_expanded opens table (Ok ws) = keeps_words opens table ws
keeps_expanded opens table (Err why) = tt

pub keeps_table : (opens : ℕ) (table : TableLists) (ws : List (List ℕ)) → KeepsTable (effect opens table ws) table (table_after table ws)
unfolding effect table_after
keeps_table opens table ws = keeps_expanded opens table (expansion table ws)

-- THE DEVICE STAYS UP OR DOWN, BUT FOR A COMMAND THAT IS OVER AT ONCE

abbrev pub KeepsUp : Effect → Bool → Bool → Type 0
KeepsUp (says o) up other = Unit {0}
KeepsUp (asks wanted) up other = other ≡ up
KeepsUp (goes name) up other = other ≡ up
KeepsUp (sleeps seconds) up other = other ≡ up
KeepsUp shuts_device up other = Unit {0}
KeepsUp (inquires q) up other = Unit {0}
KeepsUp (on_images command) up other = other ≡ up
KeepsUp (on_drives command) up other = other ≡ up
KeepsUp (hooks_disk hooking) up other = other ≡ up
KeepsUp (unhooks_drive number cause) up other = other ≡ up
KeepsUp (boots_drive number) up other = other ≡ up
KeepsUp (concludes_at_once c) up other = other ≡ up

keeps_same_up : (e : Effect) (up : Bool) → KeepsUp e up up
keeps_same_up (says o) up = tt
keeps_same_up (asks wanted) up = refl
keeps_same_up (goes name) up = refl
keeps_same_up (sleeps seconds) up = refl
keeps_same_up shuts_device up = tt
keeps_same_up (inquires q) up = tt
keeps_same_up (on_images command) up = refl
keeps_same_up (on_drives command) up = refl
keeps_same_up (hooks_disk hooking) up = refl
keeps_same_up (unhooks_drive number cause) up = refl
keeps_same_up (boots_drive number) up = refl
keeps_same_up (concludes_at_once c) up = refl

device_keeps : (e : Effect) (r : Result Bool ApplyError) (up : Bool) → ((other : Bool) → KeepsUp e up other) → KeepsUp (device_effect e r) up (set_up up r)
device_keeps e (Ok other) up k = k other
device_keeps e (Err why) up k = tt

keeps_plan_up : (opens : ℕ) (table : TableLists) (up : Bool) (p : CommandPlan) → KeepsUp (plan_effect opens table p) up (plan_up p up)
keeps_plan_up opens table up (plan.Echo newline text) = keeps_same_up (plan_effect opens table (plan.Echo newline text)) up
keeps_plan_up opens table up (plan.Goto label) = keeps_same_up (plan_effect opens table (plan.Goto label)) up
keeps_plan_up opens table up (plan.Exit n) = keeps_same_up (plan_effect opens table (plan.Exit n)) up
keeps_plan_up opens table up (plan.Isset word) = keeps_same_up (plan_effect opens table (plan.Isset word)) up
keeps_plan_up opens table up (plan.Iseq a b) = keeps_same_up (plan_effect opens table (plan.Iseq a b)) up
keeps_plan_up opens table up (plan.Set name value) = keeps_same_up (plan_effect opens table (plan.Set name value)) up
keeps_plan_up opens table up (plan.Clear name) = keeps_same_up (plan_effect opens table (plan.Clear name)) up
keeps_plan_up opens table up (plan.Show name) = keeps_same_up (plan_effect opens table (plan.Show name)) up
keeps_plan_up opens table up (plan.Inc name by) = keeps_same_up (plan_effect opens table (plan.Inc name by)) up
keeps_plan_up opens table up (plan.Images command) = refl
keeps_plan_up opens table up (plan.Drives command) = refl
keeps_plan_up opens table up (plan.Sleep seconds) = keeps_same_up (plan_effect opens table (plan.Sleep seconds)) up
keeps_plan_up opens table up (plan.Dhcp device) =
    device_keeps (unless_full opens (inquires for_lease)) (device_change device true) up (λ other. full_either (λ e. KeepsUp e up other) (λ o. tt) opens (inquires for_lease) tt)
keeps_plan_up opens table up (plan.Ping text) = keeps_same_up (plan_effect opens table (plan.Ping text)) up
keeps_plan_up opens table up (plan.Nslookup setting text) = keeps_same_up (plan_effect opens table (plan.Nslookup setting text)) up
keeps_plan_up opens table up (plan.Ifopen device) = device_keeps (says (refused ok)) (device_change device true) up (λ other. tt)
keeps_plan_up opens table up (plan.Ifclose device) = device_keeps shuts_device (device_change device false) up (λ other. tt)

keeps_planned_up : (opens : ℕ) (table : TableLists) (up : Bool) (q : Result CommandPlan PlanError) → KeepsUp (planned_effect opens table q) up (planned_up up q)
keeps_planned_up opens table up (Ok p) = keeps_plan_up opens table up p
keeps_planned_up opens table up (Err why) = tt

pub keeps_words_up : (opens : ℕ) (table : TableLists) (up : Bool) (ws : List (List ℕ)) → KeepsUp (words_effect opens table ws) up (words_up up ws)
unfolding words_effect words_up
keeps_words_up opens table up ws = keeps_planned_up opens table up (planned ws)

keeps_expanded_up : (opens : ℕ) (table : TableLists) (up : Bool) (r : Result (List (List ℕ)) ExpandError) → KeepsUp (expanded_effect opens table r) up (expanded_up up r)
keeps_expanded_up opens table up (Ok ws) = keeps_words_up opens table up ws
keeps_expanded_up opens table up (Err why) = tt

pub keeps_up : (opens : ℕ) (table : TableLists) (up : Bool) (ws : List (List ℕ)) → KeepsUp (effect opens table ws) up (up_after table up ws)
unfolding effect up_after
keeps_up opens table up ws = keeps_expanded_up opens table up (expansion table ws)

-- WHAT A FILE'S COMMAND AND A SLEEP COME TO

-- a fact of each effect that a command may have
pub record Covers (P : Effect → Type 0) : Type 0 where
  pub of_says : (o : CommandOutcome) → P (says o)
  pub of_goes : (name : List ℕ) → P (goes name)
  pub of_sleep : (seconds : ℕ) → P (sleeping_for seconds)
  pub of_shut : P shuts_device
  pub of_inquiry : (q : Query) → P (inquires q)
  pub of_images : (command : ImageCommand) → P (on_images command)
  pub of_drives : (command : DriveCommand) → P (on_drives command)

device_covered : (P : Effect → Type 0) → Covers P → (e : Effect) → P e → (r : Result Bool ApplyError) → P (device_effect e r)
device_covered P c e is (Ok up) = is
device_covered P c e is (Err why) = c.of_says _

plan_covered : (P : Effect → Type 0) → Covers P → (opens : ℕ) (table : TableLists) (p : CommandPlan) → P (plan_effect opens table p)
plan_covered P c opens table (plan.Echo newline text) = c.of_says _
plan_covered P c opens table (plan.Goto label) = c.of_goes label
plan_covered P c opens table (plan.Exit n) = c.of_says _
plan_covered P c opens table (plan.Isset word) = c.of_says _
plan_covered P c opens table (plan.Iseq a b) = c.of_says _
plan_covered P c opens table (plan.Set name value) = c.of_says _
plan_covered P c opens table (plan.Clear name) = c.of_says _
plan_covered P c opens table (plan.Show name) = c.of_says _
plan_covered P c opens table (plan.Inc name by) = c.of_says _
plan_covered P c opens table (plan.Images command) = c.of_images command
plan_covered P c opens table (plan.Drives command) = c.of_drives command
plan_covered P c opens table (plan.Ifopen device) = device_covered P c (says (refused ok)) (c.of_says _) (device_change device true)
plan_covered P c opens table (plan.Ifclose device) = device_covered P c shuts_device c.of_shut (device_change device false)
plan_covered P c opens table (plan.Dhcp device) =
    device_covered P c (unless_full opens (inquires for_lease)) (full_either P c.of_says opens (inquires for_lease) (c.of_inquiry for_lease)) (device_change device true)
plan_covered P c opens table (plan.Ping text) = pinged_either P c.of_says c.of_inquiry opens table text
plan_covered P c opens table (plan.Nslookup setting text) = looked_up_either P c.of_says c.of_inquiry opens table setting text
plan_covered P c opens table (plan.Sleep seconds) = c.of_sleep seconds

planned_covered : (P : Effect → Type 0) → Covers P → (opens : ℕ) (table : TableLists) (q : Result CommandPlan PlanError) → P (planned_effect opens table q)
planned_covered P c opens table (Ok p) = plan_covered P c opens table p
planned_covered P c opens table (Err why) = c.of_says _

words_covered : (P : Effect → Type 0) → Covers P → (opens : ℕ) (table : TableLists) (ws : List (List ℕ)) → P (words_effect opens table ws)
unfolding words_effect
words_covered P c opens table ws = planned_covered P c opens table (planned ws)

expanded_covered : (P : Effect → Type 0) → Covers P → (opens : ℕ) (table : TableLists) (r : Result (List (List ℕ)) ExpandError) → P (expanded_effect opens table r)
expanded_covered P c opens table (Ok ws) = words_covered P c opens table ws
expanded_covered P c opens table (Err why) = c.of_says _

pub effect_covered : (P : Effect → Type 0) → Covers P → (opens : ℕ) (table : TableLists) (ws : List (List ℕ)) → P (effect opens table ws)
unfolding effect
effect_covered P c opens table ws = expanded_covered P c opens table (expansion table ws)

abbrev IsRested : Effect → Type 0
IsRested (sleeps seconds) = 0 < seconds
IsRested (says o) = Unit {0}
IsRested (asks wanted) = Unit {0}
IsRested (goes name) = Unit {0}
IsRested shuts_device = Unit {0}
IsRested (inquires q) = Unit {0}
IsRested (on_images command) = Unit {0}
IsRested (on_drives command) = Unit {0}
IsRested (hooks_disk hooking) = Unit {0}
IsRested (unhooks_drive number cause) = Unit {0}
IsRested (boots_drive number) = Unit {0}
IsRested (concludes_at_once c) = Unit {0}

rested_for : (seconds : ℕ) (b : Bool) → (seconds == 0) ≡ b → IsRested (cond b (says (refused ok)) (sleeps seconds))
rested_for seconds true is = tt
rested_for seconds false is = let some : seconds ≡ 0 → ⊥ = eqb-false seconds 0 is in grind arith

all_rested : Covers IsRested
all_rested = record {
  of_says = λ o. tt;
  of_goes = λ name. tt;
  of_shut = tt;
  of_inquiry = λ q. tt;
  of_sleep = λ seconds. rested_for seconds (seconds == 0) refl;
  of_images = λ command. tt;
  of_drives = λ command. tt;
}

-- a command that sleeps does so for some time
pub sleeps_some : (opens : ℕ) (table : TableLists) (ws : List (List ℕ)) (seconds : ℕ) → effect opens table ws ≡ sleeps seconds → 0 < seconds
sleeps_some opens table ws seconds is = subst IsRested is (effect_covered IsRested all_rested opens table ws)

-- WITHIN A SCRIPT

rested_in : (x : Surroundings) (e : Effect) → IsRested e → IsRested (settled_effect x e)
rested_in x (on_images command) h = images_either IsRested (λ o. tt) (λ c. tt) (λ wanted. tt) (λ q. tt) x command
rested_in x (on_drives command) h = drives_either IsRested (λ o. tt) (λ hooking. tt) (λ number cause. tt) (λ number. tt) x command
rested_in x (hooks_disk hooking) h = tt
rested_in x (unhooks_drive number cause) h = tt
rested_in x (boots_drive number) h = tt
rested_in x (says o) h = tt
rested_in x (asks wanted) h = tt
rested_in x (goes name) h = tt
rested_in x (sleeps seconds) h = h
rested_in x shuts_device h = tt
rested_in x (inquires q) h = tt
rested_in x (concludes_at_once c) h = tt

-- a command of a script that sleeps does so for some time
pub sleeps_some_in : (x : Surroundings) (ws : List (List ℕ)) (seconds : ℕ) → effect_in x ws ≡ sleeps seconds → 0 < seconds
unfolding effect_in
sleeps_some_in x ws seconds is = subst IsRested is (rested_in x (effect x.opens x.table ws) (effect_covered IsRested all_rested x.opens x.table ws))

settled_keeps : (x : Surroundings) (e : Effect) (table other : TableLists) → KeepsTable e table other → KeepsTable (settled_effect x e) table other
settled_keeps x (on_images command) table other h = images_either (λ e. KeepsTable e table other) (λ o. tt) (λ c. h) (λ wanted. h) (λ q. tt) x command
settled_keeps x (on_drives command) table other h = drives_either (λ e. KeepsTable e table other) (λ o. tt) (λ hooking. h) (λ number cause. h) (λ number. h) x command
settled_keeps x (hooks_disk hooking) table other h = h
settled_keeps x (unhooks_drive number cause) table other h = h
settled_keeps x (boots_drive number) table other h = h
settled_keeps x (says o) table other h = h
settled_keeps x (asks wanted) table other h = h
settled_keeps x (goes name) table other h = h
settled_keeps x (sleeps seconds) table other h = h
settled_keeps x shuts_device table other h = h
settled_keeps x (inquires q) table other h = h
settled_keeps x (concludes_at_once c) table other h = h

settled_keeps_up : (x : Surroundings) (e : Effect) (up other : Bool) → KeepsUp e up other → KeepsUp (settled_effect x e) up other
settled_keeps_up x (on_images command) up other h = images_either (λ e. KeepsUp e up other) (λ o. tt) (λ c. h) (λ wanted. h) (λ q. tt) x command
settled_keeps_up x (on_drives command) up other h = drives_either (λ e. KeepsUp e up other) (λ o. tt) (λ hooking. h) (λ number cause. h) (λ number. h) x command
settled_keeps_up x (hooks_disk hooking) up other h = h
settled_keeps_up x (unhooks_drive number cause) up other h = h
settled_keeps_up x (boots_drive number) up other h = h
settled_keeps_up x (says o) up other h = h
settled_keeps_up x (asks wanted) up other h = h
settled_keeps_up x (goes name) up other h = h
settled_keeps_up x (sleeps seconds) up other h = h
settled_keeps_up x shuts_device up other h = h
settled_keeps_up x (inquires q) up other h = h
settled_keeps_up x (concludes_at_once c) up other h = h

-- the settings and the device stay, but for such commands, also where images count
pub keeps_table_in : (x : Surroundings) (e : Effect) (ws : List (List ℕ)) → effect_in x ws ≡ e → KeepsTable e x.table (table_after x.table ws)
unfolding effect_in
keeps_table_in x e ws is = subst (λ y. KeepsTable y x.table (table_after x.table ws)) is (settled_keeps x _ x.table _ (keeps_table x.opens x.table ws))

pub keeps_up_in : (x : Surroundings) (e : Effect) (up : Bool) (ws : List (List ℕ)) → effect_in x ws ≡ e → KeepsUp e up (up_after x.table up ws)
unfolding effect_in
keeps_up_in x e up ws is = subst (λ y. KeepsUp y up (up_after x.table up ws)) is (settled_keeps_up x _ up _ (keeps_up x.opens x.table up ws))

-- what a planned command comes to within its script
pub effect_in_of_plan : (x : Surroundings) (written ws : List (List ℕ)) (p : CommandPlan) → expansion x.table written ≡ Ok ws → planned ws ≡ Ok p → effect_in x written ≡ settled_effect x (plan_effect x.opens x.table p)
unfolding effect_in
effect_in_of_plan x written ws p e is = ap (settled_effect x) (effect_of_words x.opens x.table written ws e ∙ effect_of_plan x.opens x.table ws (Ok p) is)

-- or any other
pub effect_in_of : (x : Surroundings) (written : List (List ℕ)) (e : Effect) → effect x.opens x.table written ≡ e → effect_in x written ≡ settled_effect x e
unfolding effect_in
effect_in_of x written e is = ap (settled_effect x) is

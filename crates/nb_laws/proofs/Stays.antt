-- What a command asks for stays so while more opens may be made.
use Rattle.std.proofs.Common.{◌≡◌, ℕ, ◌==◌, ◌<◌, Bool, true, false, cond, List, Option, Some, None, Result, Ok, Err, refl, ap, arith, ne_eqb}
use Rattle.std.specs.Option.{option_map_or}
use Rattle.nb_defs.specs.Causes.{ok}
use Rattle.nb_defs.specs.Commands.{refused}
use Rattle.nb_settings.specs.Tables.{TableLists}
use Rattle.nb_expand.specs.declared.error.ExpandError.{ExpandError}
use Rattle.nb_command.specs.declared.command_plan.CommandPlan.{CommandPlan}
use Rattle.nb_command.specs.declared.command_plan.CommandPlan.TheVariants as plan
use Rattle.nb_command.specs.declared.error.ApplyError.{ApplyError}
use Rattle.nb_imagecmd.specs.declared.error.PlanError.{PlanError}
use Rattle.nb_command.specs.Addresses.{address_table}
use Rattle.nb_command.specs.Device.{device_change}
use Rattle.nb_command.specs.Planning.{planned}
use Rattle.nb_command.specs.Settings.{Change}
use Rattle.nb_dns.specs.WrittenNames.{is_lookup_name}
use Rattle.nb_uri.specs.Addresses.{four_decimals}
use Rattle.nb_terms.specs.declared.cause.Cause.{Cause}
use Rattle.nb_machine.specs.Errands.{Errand, echoes_then, Onward, onward}
use Rattle.nb_machine.specs.Queries.{for_lease, bad_name, dns_in, with_domain}
use Rattle.nb_machine.specs.Effects.{Effect, says, asks, goes, sleeps, shuts_device, inquires, on_images, on_drives, hooks_disk, unhooks_drive, boots_drive, concludes_at_once, full_opens, unless_full, device_effect, next_effect, next_look_up, next_by_name, at_host, asked_name_server, name_effect, unless_refused, looked_up_effect, plan_effect, planned_effect, words_effect, expansion, expanded_effect, effect, ShownWords, shown_as}
use Rattle.nb_laws.specs.CommandsSoFar.{shown_effect}

-- something is asked for by an open
abbrev pub IsAsking : Effect → Type 0
IsAsking (asks wanted) = Unit {0}
IsAsking (inquires q) = Unit {0}
IsAsking (says o) = ⊥
IsAsking (goes name) = ⊥
IsAsking (sleeps seconds) = ⊥
IsAsking shuts_device = ⊥
IsAsking (on_images c) = ⊥
IsAsking (on_drives c) = ⊥
IsAsking (hooks_disk hooking) = Unit {0}
IsAsking (unhooks_drive number cause) = ⊥
IsAsking (boots_drive number) = ⊥
IsAsking (concludes_at_once c) = ⊥

-- the second is the first, if something is asked for
abbrev pub Stays : Effect → Effect → Type 0
Stays e f = IsAsking e → f ≡ e

not_full : (j : ℕ) → j < 16384 → (j == 16384) ≡ false
not_full j few = ne_eqb j 16384 (λ same. omega (arith, same, few))

full_stays : (k j : ℕ) (e : Effect) → j < 16384 → Stays (unless_full k e) (unless_full j e)
full_stays k j e few = by (k == 16384)
  where
    by : (b : Bool) → Stays (cond b (says (refused full_opens)) e) (unless_full j e)
    by true = λ is. absurd is
    by false = λ is. ap (λ b. cond b (says (refused full_opens)) e) (not_full j few)

next_stays : (k j : ℕ) (next : Result Onward Cause) → j < 16384 → Stays (next_effect (cond (k == 16384) (Err full_opens) next)) (next_effect (cond (j == 16384) (Err full_opens) next))
next_stays k j next few = by (k == 16384)
  where
    by : (b : Bool) → Stays (next_effect (cond b (Err full_opens) next)) (next_effect (cond (j == 16384) (Err full_opens) next))
    by true = λ is. absurd is
    by false = λ is. ap (λ b. next_effect (cond b (Err full_opens) next)) (not_full j few)

pub host_stays : (k j : ℕ) (table : TableLists) (text : List ℕ) (errand : Errand) → j < 16384 → Stays (at_host k table text errand) (at_host j table text errand)
host_stays k j table text errand few = by (four_decimals text)
  where
    name : List ℕ
    name = with_domain table text

    full : ℕ → Result Onward Cause → Result Onward Cause
    full n next = cond (n == 16384) (Err full_opens) next

    named : (b : Bool) → Stays (next_effect (cond b (full k (next_look_up errand name (dns_in table))) (Err bad_name))) (next_effect (cond b (full j (next_look_up errand name (dns_in table))) (Err bad_name)))
    named true = next_stays k j (next_look_up errand name (dns_in table)) few
    named false = λ is. refl

    by : (o : Option ℕ) → Stays (next_effect (option_map_or (λ address. full k (Ok (onward errand address))) o (next_by_name k table errand name)))
        (next_effect (option_map_or (λ address. full j (Ok (onward errand address))) o (next_by_name j table errand name)))
    by None = named (is_lookup_name name)
    by (Some address) = next_stays k j (Ok (onward errand address)) few

address_stays : (k j : ℕ) (table : TableLists) (setting text : List ℕ) → j < 16384 → Stays (looked_up_effect k table setting text) (looked_up_effect j table setting text)
address_stays k j table setting text few = by (address_table setting 0 table) (four_decimals text)
  where
    name : List ℕ
    name = with_domain table text

    named : (b : Bool) → Stays (cond b (unless_full k (asked_name_server setting name (dns_in table))) (says (refused bad_name))) (cond b (unless_full j (asked_name_server setting name (dns_in table))) (says (refused bad_name)))
    named true = full_stays k j (asked_name_server setting name (dns_in table)) few
    named false = λ is. refl

    by : (c : Change) (o : Option ℕ) → Stays (unless_refused c (option_map_or (λ address. says (refused ok)) o (name_effect k table setting name)))
        (unless_refused c (option_map_or (λ address. says (refused ok)) o (name_effect j table setting name)))
    by (Ok after) None = named (is_lookup_name name)
    by (Ok after) (Some address) = λ is. refl
    by (Err why) o = λ is. refl

device_stays : (k j : ℕ) (r : Result Bool ApplyError) → j < 16384 → Stays (device_effect (unless_full k (inquires for_lease)) r) (device_effect (unless_full j (inquires for_lease)) r)
device_stays k j (Ok up) few = full_stays k j (inquires for_lease) few
device_stays k j (Err why) few = λ is. refl

plan_stays : (k j : ℕ) (table : TableLists) (p : CommandPlan) → j < 16384 → Stays (plan_effect k table p) (plan_effect j table p)
plan_stays k j table (plan.Echo newline text) few = λ is. refl
plan_stays k j table (plan.Goto label) few = λ is. refl
plan_stays k j table (plan.Exit n) few = λ is. refl
plan_stays k j table (plan.Isset word) few = λ is. refl
plan_stays k j table (plan.Iseq a b) few = λ is. refl
plan_stays k j table (plan.Set name value) few = λ is. refl
plan_stays k j table (plan.Clear name) few = λ is. refl
plan_stays k j table (plan.Show name) few = λ is. refl
plan_stays k j table (plan.Inc name by) few = λ is. refl
plan_stays k j table (plan.Ifopen device) few = λ is. refl
plan_stays k j table (plan.Ifclose device) few = λ is. refl
plan_stays k j table (plan.Sleep seconds) few = λ is. refl
plan_stays k j table (plan.Images c) few = λ is. refl
plan_stays k j table (plan.Drives c) few = λ is. refl
plan_stays k j table (plan.Dhcp device) few = device_stays k j (device_change device true) few
plan_stays k j table (plan.Ping text) few = host_stays k j table text echoes_then few
plan_stays k j table (plan.Nslookup setting text) few = address_stays k j table setting text few

planned_stays : (k j : ℕ) (table : TableLists) (r : Result CommandPlan PlanError) → j < 16384 → Stays (planned_effect k table r) (planned_effect j table r)
planned_stays k j table (Ok p) few = plan_stays k j table p few
planned_stays k j table (Err why) few = λ is. refl

words_stay : (k j : ℕ) (table : TableLists) (ws : List (List ℕ)) → j < 16384 → Stays (words_effect k table ws) (words_effect j table ws)
unfolding words_effect
words_stay k j table ws few = planned_stays k j table (planned ws) few

expanded_stays : (k j : ℕ) (table : TableLists) (r : Result (List (List ℕ)) ExpandError) → j < 16384 → Stays (expanded_effect k table r) (expanded_effect j table r)
expanded_stays k j table (Ok ws) few = words_stay k j table ws few
expanded_stays k j table (Err why) few = λ is. refl

written_stays : (k j : ℕ) (table : TableLists) (ws : List (List ℕ)) → j < 16384 → Stays (effect k table ws) (effect j table ws)
unfolding effect
written_stays k j table ws few = expanded_stays k j table (expansion table ws) few

-- what a command asks for is so however many opens were made, where one more may be
pub shown_stays : (k j : ℕ) (table : TableLists) (shown : ShownWords) → j < 16384 → Stays (shown_effect k table shown) (shown_effect j table shown)
shown_stays k j table shown few = by shown.expanded shown.words
  where
    by : (expanded : Bool) (ws : List (List ℕ)) → Stays (shown_effect k table (shown_as expanded ws)) (shown_effect j table (shown_as expanded ws))
    by true ws = words_stay k j table ws few
    by false ws = written_stays k j table ws few

-- How much commands print.
use Rattle.std.proofs.Common.{◌≡◌, ℕ, ◌+◌, ◌≤◌, Bool, true, false, cond, List, [], ◌∷◌, length, codes, Option, Some, None, Ok, Err, ap, subst, arith, length-append}
use Rattle.std.specs.Prelude.{Result, IfOk}
use Rattle.std.specs.List.{join_with_byte, sum_by}
use Rattle.std.specs.Str.{bytes_eq}
use Rattle.std.proofs.lemmas.List.Sums.{sum_by-cons}
use Rattle.nb_defs.specs.Commands.{is_option, begins_with_option, number_of}
use Rattle.nb_expand.specs.Numbers.{within, signed_number_of}
use Rattle.nb_numerals.specs.Numbers.{below}
use Rattle.nb_command.specs.declared.command_name.CommandName.{CommandName}
use Rattle.nb_command.specs.declared.command_name.CommandName.TheVariants as command
use Rattle.nb_command.specs.declared.command_plan.CommandPlan.{CommandPlan}
use Rattle.nb_command.specs.declared.command_plan.CommandPlan.TheVariants as plan
use Rattle.nb_imagecmd.specs.declared.error.PlanError.{PlanError}
use Rattle.nb_command.specs.Echo.{echo_plan, unbroken_plan, echoed}
use Rattle.nb_command.specs.Exit.{exit_plan}
use Rattle.nb_command.specs.Ifopen.{ifopen_plan}
use Rattle.nb_command.specs.Ifclose.{ifclose_plan}
use Rattle.nb_command.specs.Dhcp.{dhcp_plan}
use Rattle.nb_command.specs.Nslookup.{nslookup_plan}
use Rattle.nb_command.specs.Inc.{inc_plan}
use Rattle.nb_command.specs.Iseq.{iseq_plan}
use Rattle.nb_command.specs.Isset.{isset_plan}
use Rattle.nb_command.specs.Planning.{plan_named}
use Rattle.nb_command.specs.Plans.{one_word, plan_with, PlansAs}
use Rattle.nb_command.specs.Printed.{most_printed, most_text}
use Rattle.nb_command.specs.Set.{set_plan}
use Rattle.nb_command.specs.Sleep.{sleep_plan}

-- ECHO

join_short : (words : List (List ℕ)) → length (join_with_byte 32 words) ≤ sum_by length words + length words
join_short [] = omega arith
join_short (w ∷ []) = omega (arith, sum_by-cons length w [])
join_short (w ∷ v ∷ words) =
    omega (arith, join_short (v ∷ words), sum_by-cons length w (v ∷ words), length-append w (32 ∷ join_with_byte 32 (v ∷ words)))

feed_short : (newline : Bool) → length (cond newline (codes "\n") []) ≤ 1
feed_short true = omega arith
feed_short false = omega arith

pub echoed_short : (newline : Bool) (words : List (List ℕ)) → length (echoed newline words) ≤ sum_by length words + length words + 1
echoed_short newline words =
    omega (arith, join_short words, feed_short newline, length-append (join_with_byte 32 words) (cond newline (codes "\n") []))

-- PLANS

-- no plan, or one whose text has at most 4,160 bytes
abbrev IsShort : Result CommandPlan PlanError → Type 0
IsShort answer = IfOk answer (λ p. most_text p ≤ 4160)

with_short : {T : Type 0} (f : T → CommandPlan) (o : Option T) → ((x : T) → most_text (f x) ≤ 4160) → IsShort (plan_with f o)
with_short f None short = tt
with_short f (Some x) short = short x

if_short : (b : Bool) (one other : Result CommandPlan PlanError) → IsShort one → IsShort other → IsShort (cond b one other)
if_short true one other h k = h
if_short false one other h k = k

echo_short : (args : List (List ℕ)) → length args ≤ 63 → sum_by length args ≤ 4096 → IsShort (echo_plan args)
unfolding echo_plan
echo_short [] few short = omega arith
echo_short (first ∷ others) few short =
    let whole = sum_by-cons length first others in
    let unbroken : IsShort (unbroken_plan others) = if_short (begins_with_option others) _ _ tt (omega arith) in
    if_short (bytes_eq first (codes "-n")) _ _ unbroken (if_short (is_option first) _ _ tt (omega arith))

exit_short : (args : List (List ℕ)) → IsShort (exit_plan args)
unfolding exit_plan
exit_short [] = omega arith
exit_short (word ∷ []) = with_short _ (below 256 (number_of word)) (λ n. omega arith)
exit_short (word ∷ second ∷ others) = tt

isset_short : (args : List (List ℕ)) → IsShort (isset_plan args)
unfolding isset_plan
isset_short [] = omega arith
isset_short (word ∷ []) = if_short (is_option word) _ _ tt (omega arith)
isset_short (word ∷ second ∷ others) = tt

ifopen_short : (args : List (List ℕ)) → IsShort (ifopen_plan args)
unfolding ifopen_plan
ifopen_short [] = omega arith
ifopen_short (word ∷ []) = if_short (is_option word) _ _ tt (omega arith)
ifopen_short (word ∷ second ∷ others) = tt

ifclose_short : (args : List (List ℕ)) → IsShort (ifclose_plan args)
unfolding ifclose_plan
ifclose_short [] = omega arith
ifclose_short (word ∷ []) = if_short (is_option word) _ _ tt (omega arith)
ifclose_short (word ∷ second ∷ others) = tt

dhcp_short : (args : List (List ℕ)) → IsShort (dhcp_plan args)
unfolding dhcp_plan
dhcp_short [] = omega arith
dhcp_short (word ∷ []) = if_short (is_option word) _ _ tt (omega arith)
dhcp_short (word ∷ second ∷ others) = tt

nslookup_short : (args : List (List ℕ)) → IsShort (nslookup_plan args)
unfolding nslookup_plan
nslookup_short [] = tt
nslookup_short (name ∷ []) = tt
nslookup_short (name ∷ host ∷ []) = if_short (is_option name) _ _ tt (omega arith)
nslookup_short (name ∷ host ∷ third ∷ others) = tt

iseq_short : (args : List (List ℕ)) → IsShort (iseq_plan args)
unfolding iseq_plan
iseq_short [] = tt
iseq_short (a ∷ []) = tt
iseq_short (a ∷ b ∷ []) = if_short (is_option a) _ _ tt (omega arith)
iseq_short (a ∷ b ∷ c ∷ others) = tt

set_short : (args : List (List ℕ)) → IsShort (set_plan args)
unfolding set_plan
set_short [] = tt
set_short (name ∷ value) = if_short (is_option name) _ _ tt (omega arith)

inc_short : (args : List (List ℕ)) → IsShort (inc_plan args)
unfolding inc_plan
inc_short [] = tt
inc_short (name ∷ []) = if_short (is_option name) _ _ tt (omega arith)
inc_short (name ∷ n ∷ []) =
    if_short (is_option name) _ _ tt (with_short (λ by. plan.Inc name by) (within 2147483648 (signed_number_of n)) (λ by. omega arith))
inc_short (name ∷ n ∷ second ∷ others) = tt

sleep_short : (args : List (List ℕ)) → IsShort (sleep_plan args)
unfolding sleep_plan
sleep_short [] = tt
sleep_short (seconds ∷ []) = with_short _ (below 4000001 (number_of seconds)) (λ n. omega arith)
sleep_short (seconds ∷ second ∷ others) = tt

named_short : (name : CommandName) (args : List (List ℕ)) → length args ≤ 63 → sum_by length args ≤ 4096 → IsShort (plan_named name args)
named_short command.Echo args few short = echo_short args few short
named_short command.Goto args few short = with_short _ (one_word args) (λ x. omega arith)
named_short command.Exit args few short = exit_short args
named_short command.Isset args few short = isset_short args
named_short command.Iseq args few short = iseq_short args
named_short command.Set args few short = set_short args
named_short command.Clear args few short = with_short _ (one_word args) (λ x. omega arith)
named_short command.Show args few short = with_short _ (one_word args) (λ x. omega arith)
named_short command.Inc args few short = inc_short args
named_short command.Ifopen args few short = ifopen_short args
named_short command.Ifclose args few short = ifclose_short args
named_short command.Dhcp args few short = dhcp_short args
named_short command.Ping args few short = with_short _ (one_word args) (λ x. omega arith)
named_short command.Nslookup args few short = nslookup_short args
named_short command.Sleep args few short = sleep_short args

-- the text of a plan that is made of such words
pub text_short : (words : List (List ℕ)) (first : List ℕ) (args : List (List ℕ)) (name : CommandName) (answer : Result CommandPlan PlanError) → words ≡ first ∷ args → PlansAs answer (plan_named name args) → length words ≤ 64 → sum_by length words ≤ 4096 → IfOk answer (λ p. most_text p ≤ 4160)
text_short words first args name (Ok p) is made few short =
    let whole = sum_by-cons length first args in
    subst IsShort made (named_short name args (omega (arith, ap length is)) (omega (arith, ap (sum_by length) is, whole)))
text_short words first args name (Err why) is made few short = tt

prints_less : (p : CommandPlan) → most_printed p ≤ most_text p
prints_less (plan.Echo newline text) = omega arith
prints_less (plan.Show name) = omega arith
prints_less (plan.Goto label) = omega arith
prints_less (plan.Exit n) = omega arith
prints_less (plan.Isset word) = omega arith
prints_less (plan.Iseq a b) = omega arith
prints_less (plan.Set name value) = omega arith
prints_less (plan.Clear name) = omega arith
prints_less (plan.Inc name by) = omega arith
prints_less (plan.Images command) = omega arith
prints_less (plan.Drives command) = omega arith
prints_less (plan.Ifopen device) = omega arith
prints_less (plan.Ifclose device) = omega arith
prints_less (plan.Dhcp device) = omega arith
prints_less (plan.Ping host) = omega arith
prints_less (plan.Nslookup name host) = omega arith
prints_less (plan.Sleep seconds) = omega arith

-- and so what it prints
pub printed_short : (answer : Result CommandPlan PlanError) → IfOk answer (λ p. most_text p ≤ 4160) → IfOk answer (λ p. most_printed p ≤ 4160)
printed_short (Ok p) h = omega (arith, h, prints_less p)
printed_short (Err why) h = tt

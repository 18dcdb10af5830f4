-- What the commands of a lab's script come to: an image is fetched and kept, or let go, or the script is left.
use Rattle.std.proofs.Common.{◌≡◌, inl, inr, ℕ, ◌==◌, Bool, true, false, not, ◌||◌, nat_le, nat_lt, if◌then◌else◌, List, [], ◌∷◌, length, Option, Some, None, Result, Ok, Err, IfOk, sum_by, codes, refl, sym, subst}
use Rattle.std.specs.Option.{option_map_or}
use Rattle.nb_terms.specs.declared.cause.Cause.{Cause}
use Rattle.nb_wire.specs.declared.address.Ip4.{Ip4}
use Rattle.nb_uri.specs.Addresses.{four_decimals}
use Rattle.nb_uri.specs.Resolutions.{resolution}
use Rattle.nb_uri.specs.declared.target.UriError.{UriError}
use Rattle.nb_uri.specs.declared.target.UriTarget.{UriTarget}
use Rattle.nb_uri.specs.declared.target.UriTarget.TheVariants.{Tftp, Http, Iscsi}
use Rattle.nb_dns.specs.WrittenNames.{is_lookup_name}
use Rattle.nb_settings.specs.Tables.{TableLists}
use Rattle.nb_image.specs.Images.{ImageList}
use Rattle.nb_imagecmd.specs.Asking.{asked_resolved, asked_file, asked_name, has_long_path, is_file}
use Rattle.nb_imagecmd.specs.CarryingOut.{asking_answer, image_effect, images_freed}
use Rattle.nb_imagecmd.specs.Freeing.{are_all_listed, kept_list}
use Rattle.nb_imagecmd.specs.declared.outcome.ImageOutcome.TheVariants.{Done}
use Rattle.nb_imagecmd.specs.declared.asking.After.TheVariants as after
use Rattle.nb_imagecmd.specs.declared.asking.Asking.{Asking}
use Rattle.nb_imagecmd.specs.declared.error.ImageFailure.{ImageFailure}
use Rattle.nb_imagecmd.specs.declared.error.ImageFailure.TheVariants.{NoImage}
use Rattle.nb_imagecmd.specs.Executing.{ImageAnswer}
use Rattle.nb_machine.specs.Conclusions.{Conclusion, keeps, tells, fails, boots, runs_script}
use Rattle.nb_machine.specs.Effects.{Effect, says, asks, goes, sleeps, shuts_device, inquires, on_images, on_drives, hooks_disk, unhooks_drive, boots_drive, concludes_at_once, Surroundings, next_open, next_look_up, next_by_name, next_at_host, next_effect, asked_effect, image_answer_effect, images_effect, settled_effect, planned_effect, words_effect, expanded_effect, effect, effect_in, table_after, up_after}
use Rattle.nb_machine.specs.Errands.{Errand, fetches_then, echoes_then, hooks_then, Onward, fetches_now, echoes_now, hooks_now, looks_up_now, onward}
use Rattle.nb_machine.specs.Queries.{with_domain, Query, for_lease, for_echo, for_host, for_address}
use Rattle.nb_machine.specs.Scripts.{Doing, ends, opens, goes_to, waits_until, shuts, concludes_now, hooks_one, lets_go, boots_one, doing_by, doing, surroundings}
use Rattle.nb_machine.specs.Running.{Running}
use Rattle.nb_machine.specs.States.{State}
use Rattle.nb_command.specs.Bases.{base_by}
use Rattle.nb_command.specs.CommandNames.{command_named}
use Rattle.nb_command.specs.Exit.{exit_plan}
use Rattle.nb_command.specs.Planning.{images_planned, planned}
use Rattle.nb_command.specs.Plans.{plan_with}
use Rattle.nb_command.specs.declared.command_plan.CommandPlan.TheVariants as plan
use Rattle.nb_defs.specs.Commands.{is_option, number_of}
use Rattle.nb_expand.specs.Expansion.{expanded}
use Rattle.nb_expand.specs.Values.{named_text}
use Rattle.nb_expand.specs.WordsExpansion.{expanded_words, short_words, word_before}
use Rattle.nb_expand.specs.declared.error.ExpandError.{ExpandError}
use Rattle.nb_expand.specs.declared.error.ExpandError.TheVariants.{TooLong}
use Rattle.nb_drivecmd.specs.DriveCommandNames.{drive_command_named}
use Rattle.nb_drivecmd.specs.DriveReading.{drive_command}
use Rattle.nb_imagecmd.specs.CommandNames.{image_command_named}
use Rattle.nb_imagecmd.specs.Reading.{SourceRead, fetch_of, image_command, imgfree_read, source_read}
use Rattle.nb_imagecmd.specs.declared.commands.ImageCommand.{ImageCommand}
use Rattle.nb_imagecmd.specs.declared.commands.ImageCommand.TheVariants.{Imgfree}
use Rattle.nb_imagecmd.specs.declared.error.PlanError.{PlanError}
use Rattle.nb_imagecmd.specs.declared.error.PlanError.TheVariants.{Usage}
use Rattle.nb_numerals.specs.Numbers.{below}
use Rattle.nb_labrun.specs.Keeping.{IsLabName, IsKept, IsErrandKept, IsNextKept, IsJobKept}

-- the script goes on after it
abbrev pub GoesOn : Conclusion → Type 0
GoesOn (keeps list) = Unit {0}
GoesOn (tells list lines) = Unit {0}
GoesOn (fails cause) = Unit {0}
GoesOn (boots list kernel) = ⊥
GoesOn (runs_script list script replace) = ⊥

abbrev pub IsQueryKept : Query → Type 0
IsQueryKept for_lease = Unit {0}
IsQueryKept (for_echo server) = Unit {0}
IsQueryKept (for_host errand name by) = IsErrandKept errand
IsQueryKept (for_address setting name by) = Unit {0}

abbrev pub IsEffectKept : Effect → Type 0
IsEffectKept (says o) = Unit {0}
IsEffectKept (asks wanted) = IsKept wanted.asking
IsEffectKept (goes name) = Unit {0}
IsEffectKept (sleeps seconds) = Unit {0}
IsEffectKept shuts_device = Unit {0}
IsEffectKept (inquires q) = IsQueryKept q
IsEffectKept (on_images command) = Unit {0}
IsEffectKept (on_drives command) = Unit {0}
IsEffectKept (hooks_disk hooking) = ⊥
IsEffectKept (unhooks_drive number cause) = ⊥
IsEffectKept (boots_drive number) = ⊥
IsEffectKept (concludes_at_once c) = GoesOn c

abbrev pub IsDoingKept : Doing → Type 0
IsDoingKept (ends o s) = Unit {0}
IsDoingKept (opens s l job) = IsJobKept job
IsDoingKept (goes_to name) = Unit {0}
IsDoingKept (waits_until time) = Unit {0}
IsDoingKept (shuts s) = Unit {0}
IsDoingKept (concludes_now c) = GoesOn c
IsDoingKept (hooks_one hooking) = ⊥
IsDoingKept (lets_go number cause) = ⊥
IsDoingKept (boots_one number) = ⊥

query_does : (s : State) (table : TableLists) (up : Bool) (q : Query) → IsQueryKept q → IsDoingKept (doing_by s table up (inquires q))
query_does s table up for_lease h = tt
query_does s table up (for_echo server) h = tt
query_does s table up (for_host errand name by) h = h
query_does s table up (for_address setting name by) h = tt

pub effect_does : (s : State) (table : TableLists) (up : Bool) (e : Effect) → IsEffectKept e → IsDoingKept (doing_by s table up e)
effect_does s table up (says o) h = tt
effect_does s table up (asks wanted) h = h
effect_does s table up (goes name) h = tt
effect_does s table up (sleeps seconds) h = tt
effect_does s table up shuts_device h = tt
effect_does s table up (inquires q) h = query_does s table up q h
effect_does s table up (on_images command) h = tt
effect_does s table up (on_drives command) h = tt
effect_does s table up (hooks_disk hooking) h = absurd h
effect_does s table up (unhooks_drive number cause) h = absurd h
effect_does s table up (boots_drive number) h = absurd h
effect_does s table up (concludes_at_once c) h = h

-- of two values
pub either : {A : Type 0} (P : A → Type 0) (b : Bool) (x y : A) → P x → P y → P (if b then x else y)
either P true x y p q = p
either P false x y p q = q

-- WHAT IS ASKED OF A HOST

pub onward_kept : (errand : Errand) (server : ℕ) → IsErrandKept errand → IsNextKept (onward errand server)
onward_kept (fetches_then asking) server h = h
onward_kept echoes_then server h = tt
onward_kept (hooks_then hooking) server h = absurd h

open_kept : (made : ℕ) (next : Onward) → IsNextKept next → IfOk (next_open made next) IsNextKept
open_kept made next h = either (λ r. IfOk r IsNextKept) (made == 16384) _ _ tt h

look_up_kept : (errand : Errand) (name : List ℕ) (by : Option Ip4) → IsErrandKept errand → IfOk (next_look_up errand name by) IsNextKept
look_up_kept errand name None h = tt
look_up_kept errand name (Some by) h = h

name_kept : (made : ℕ) (table : TableLists) (errand : Errand) (name : List ℕ) → IsErrandKept errand → IfOk (next_by_name made table errand name) IsNextKept
name_kept made table errand name h =
    either (λ r. IfOk r IsNextKept) (is_lookup_name name) _ _ (either (λ r. IfOk r IsNextKept) (made == 16384) _ _ tt (look_up_kept errand name _ h)) tt

pub host_kept : (made : ℕ) (table : TableLists) (text : List ℕ) (errand : Errand) → IsErrandKept errand → IfOk (next_at_host made table text errand) IsNextKept
host_kept made table text errand h = by_address (four_decimals text)
  where
    by_address : (found : Option ℕ) → IfOk (option_map_or (λ address. next_open made (onward errand address)) found (next_by_name made table errand (with_domain table text))) IsNextKept
    by_address None = name_kept made table errand (with_domain table text) h
    by_address (Some address) = open_kept made (onward errand address) (onward_kept errand address h)

next_effect_kept : (r : Result Onward Cause) → IfOk r IsNextKept → IsEffectKept (next_effect r)
next_effect_kept (Ok (fetches_now wanted)) h = h
next_effect_kept (Ok (echoes_now server)) h = tt
next_effect_kept (Ok (hooks_now hooking server)) h = absurd h
next_effect_kept (Ok (looks_up_now errand name by)) h = h
next_effect_kept (Err cause) h = tt

-- WHAT THE COMMANDS ON IMAGES COME TO

asked_kept : (base name : Option (List ℕ)) (uri : List ℕ) (args : List (List ℕ)) → IfOk (asked_file base name uri args after.Keep) IsKept
asked_kept base name uri args = by_target (resolution base uri)
  where
    by_target : (r : Result UriTarget UriError) → IfOk (asked_resolved r name args after.Keep) IsKept
    by_target (Ok target) =
        either (λ r. IfOk r IsKept) (not (is_file target)) _ _ tt
        (either (λ r. IfOk r IsKept) (has_long_path target || nat_lt 255 (length (asked_name name target))) _ _ tt refl)
    by_target (Err why) = tt

target_kept : (target : UriTarget) (x : Surroundings) (asking : Asking) → IsKept asking → IsEffectKept (asked_effect target x asking)
target_kept (Tftp host port path whole) x asking h = next_effect_kept (next_at_host x.opens x.table host (fetches_then asking)) (host_kept x.opens x.table host (fetches_then asking) h)
target_kept (Http host port path whole) x asking h = next_effect_kept (next_at_host x.opens x.table host (fetches_then asking)) (host_kept x.opens x.table host (fetches_then asking) h)
target_kept (Iscsi host port lun name whole) x asking h = tt

pub fetch_kept : (x : Surroundings) (r : Result Asking ImageFailure) (list : ImageList) → IfOk r IsKept → IsEffectKept (image_answer_effect x (asking_answer r list))
fetch_kept x (Ok asking) list h = target_kept asking.target x asking h
fetch_kept x (Err why) list h = tt

pub fetched_kept : (x : Surroundings) (base name : Option (List ℕ)) (uri : List ℕ) (args : List (List ℕ)) (list : ImageList) → IsEffectKept (image_answer_effect x (asking_answer (asked_file base name uri args after.Keep) list))
fetched_kept x base name uri args list = fetch_kept x (asked_file base name uri args after.Keep) list (asked_kept base name uri args)

pub freed_kept : (x : Surroundings) (names : List (List ℕ)) (list : ImageList) → IsEffectKept (image_answer_effect x (images_freed names list))
freed_kept x names list =
    let P : ImageAnswer → Type 0 = λ r. IsEffectKept (image_answer_effect x r) in
    either P (are_all_listed names list.images) (Ok (Done, kept_list names list)) (Err NoImage) tt tt

-- WHAT THEIR WORDS COME TO

-- words whose first is expanded to itself
pub words_kept : (x : Surroundings) (made : ℕ) (table : TableLists) (name : List ℕ) (first : Result (List ℕ) ExpandError) (others : Result (List (List ℕ)) ExpandError) → first ≡ Ok name →
    ((args : List (List ℕ)) → IsEffectKept (settled_effect x (words_effect made table (name ∷ args)))) → IsEffectKept (settled_effect x (expanded_effect made table (short_words (word_before first others))))
words_kept x made table name (Err why) others is kept = absurd (cc is)
words_kept x made table name (Ok word) (Err why) is kept = tt
words_kept x made table name (Ok word) (Ok args) is kept =
    let same : word ≡ name = cc is in
    let P : Result (List (List ℕ)) ExpandError → Type 0 = λ r. IsEffectKept (settled_effect x (expanded_effect made table r)) in
    either P (nat_le (sum_by length (word ∷ args)) 4096) (Ok (word ∷ args)) (Err TooLong) (subst (λ (w : List ℕ). P (Ok (w ∷ args))) (sym same) (kept args)) tt

planned_fetch : (args : List (List ℕ)) → planned (codes "imgfetch" ∷ args) ≡ images_planned (fetch_of (source_read args))
unfolding planned command_named drive_command drive_command_named image_command image_command_named
planned_fetch args = refl

planned_free : (args : List (List ℕ)) → planned (codes "imgfree" ∷ args) ≡ images_planned (imgfree_read args)
unfolding planned command_named drive_command drive_command_named image_command image_command_named
planned_free args = refl

planned_exit : (args : List (List ℕ)) → planned (codes "exit" ∷ args) ≡ exit_plan args
unfolding planned command_named
planned_exit args = refl

images_kept : (x : Surroundings) (made : ℕ) (table : TableLists) (r : Result ImageCommand PlanError) → IfOk r (λ command. IsEffectKept (images_effect x command)) → IsEffectKept (settled_effect x (planned_effect made table (images_planned r)))
images_kept x made table (Ok command) h = h
images_kept x made table (Err why) h = tt

fetch_command : (x : Surroundings) (read : Option SourceRead) → IfOk (fetch_of read) (λ command. IsEffectKept (images_effect x command))
unfolding image_effect
fetch_command x None = tt
fetch_command x (Some s) = fetched_kept x (base_by x.base x.table) s.name s.uri s.args x.images

free_command : (x : Surroundings) (args : List (List ℕ)) → IfOk (imgfree_read args) (λ command. IsEffectKept (images_effect x command))
unfolding imgfree_read image_effect
free_command x [] = freed_kept x [] x.images
free_command x (name ∷ names) = either (λ r. IfOk r (λ command. IsEffectKept (images_effect x command))) (is_option name) (Err Usage) (Ok (Imgfree (name ∷ names))) tt (freed_kept x (name ∷ names) x.images)

exit_kept : (x : Surroundings) (made : ℕ) (table : TableLists) (args : List (List ℕ)) → IsEffectKept (settled_effect x (planned_effect made table (exit_plan args)))
unfolding exit_plan
exit_kept x made table [] = tt
exit_kept x made table (word ∷ []) = by_number (below 256 (number_of word))
  where
    by_number : (found : Option ℕ) → IsEffectKept (settled_effect x (planned_effect made table (plan_with (λ n. plan.Exit n) found)))
    by_number None = tt
    by_number (Some n) = tt
exit_kept x made table (word ∷ second ∷ others) = tt

words_of_fetch : (x : Surroundings) (made : ℕ) (table : TableLists) (args : List (List ℕ)) → IsEffectKept (settled_effect x (words_effect made table (codes "imgfetch" ∷ args)))
unfolding words_effect
words_of_fetch x made table args =
    subst (λ r. IsEffectKept (settled_effect x (planned_effect made table r))) (sym (planned_fetch args)) (images_kept x made table (fetch_of (source_read args)) (fetch_command x (source_read args)))

words_of_free : (x : Surroundings) (made : ℕ) (table : TableLists) (args : List (List ℕ)) → IsEffectKept (settled_effect x (words_effect made table (codes "imgfree" ∷ args)))
unfolding words_effect
words_of_free x made table args =
    subst (λ r. IsEffectKept (settled_effect x (planned_effect made table r))) (sym (planned_free args)) (images_kept x made table (imgfree_read args) (free_command x args))

words_of_exit : (x : Surroundings) (made : ℕ) (table : TableLists) (args : List (List ℕ)) → IsEffectKept (settled_effect x (words_effect made table (codes "exit" ∷ args)))
unfolding words_effect
words_of_exit x made table args = subst (λ r. IsEffectKept (settled_effect x (planned_effect made table r))) (sym (planned_exit args)) (exit_kept x made table args)

fetch_itself : (value : List ℕ → Option (List ℕ)) → expanded value (codes "imgfetch") ≡ Ok (codes "imgfetch")
unfolding expanded
fetch_itself value = refl

free_itself : (value : List ℕ → Option (List ℕ)) → expanded value (codes "imgfree") ≡ Ok (codes "imgfree")
unfolding expanded
free_itself value = refl

exit_itself : (value : List ℕ → Option (List ℕ)) → expanded value (codes "exit") ≡ Ok (codes "exit")
unfolding expanded
exit_itself value = refl

by_name : (x : Surroundings) (name : List ℕ) (args : List (List ℕ)) → IsLabName name → IsEffectKept (effect_in x (name ∷ args))
unfolding effect_in effect expanded_words
by_name x name args (inl is) =
    subst (λ (n : List ℕ). IsEffectKept (effect_in x (n ∷ args))) (sym is)
    (words_kept x x.opens x.table (codes "imgfetch") _ _ (fetch_itself (named_text x.table)) (words_of_fetch x x.opens x.table))
by_name x name args (inr (inl is)) =
    subst (λ (n : List ℕ). IsEffectKept (effect_in x (n ∷ args))) (sym is)
    (words_kept x x.opens x.table (codes "imgfree") _ _ (free_itself (named_text x.table)) (words_of_free x x.opens x.table))
by_name x name args (inr (inr is)) =
    subst (λ (n : List ℕ). IsEffectKept (effect_in x (n ∷ args))) (sym is)
    (words_kept x x.opens x.table (codes "exit") _ _ (exit_itself (named_text x.table)) (words_of_exit x x.opens x.table))

-- a command of the lab's script
pub command_kept : (s : State) (inner : Running) (name : List ℕ) (args : List (List ℕ)) → IsLabName name → IsDoingKept (doing s inner (name ∷ args))
command_kept s inner name args is =
    effect_does s (table_after s.table (name ∷ args)) (up_after s.table s.up (name ∷ args)) (effect_in (surroundings s inner) (name ∷ args)) (by_name (surroundings s inner) name args is)

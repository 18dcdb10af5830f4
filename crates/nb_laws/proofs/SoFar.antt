-- The command that began last, the settings, the images and the scripts, by the history: one more event, and what a command's records do to them.
use Rattle.std.proofs.Common.{◌≡◌, ℕ, ◌-◌, cond, append_assoc, append-nil, add-zero, Bool, true, false, List, [], ◌∷◌, ◌++◌, Option, Some, None, Result, Ok, Err, refl, sym, ◌∙◌, ap, subst}
use Rattle.std.specs.Option.{option_and_then}
use Rattle.nb_defs.specs.Commands.{CommandOutcome}
use Rattle.nb_terms.specs.declared.cause.Cause.{Cause}
use Rattle.std.specs.List.{AllByRecursion}
use Rattle.nb_defs.specs.Records.{Out, step, sent, text as prints_text, command, result, script, opened, tried, advanced, ended, graph, part, done, Start}
use Rattle.nb_defs.specs.Causes.{is_ok_cause}
use Rattle.nb_settings.specs.Tables.{TableLists}
use Rattle.nb_expand.specs.declared.error.ExpandError.{ExpandError}
use Rattle.nb_machine.specs.Conclusions.{Conclusion}
use Rattle.nb_machine.specs.Effects.{inquires, ShownWords, shown_words, effect, table_after, up_after, expansion}
use Rattle.nb_machine.specs.Errands.{Errand}
use Rattle.nb_machine.specs.FirstText.{first_text}
use Rattle.nb_machine.specs.Queries.{Query, for_host}
use Rattle.nb_machine.specs.Running.{Running}
use Rattle.nb_machine.specs.CommandRecords.{prints, command_record, command_records}
use Rattle.nb_machine.specs.StartTable.{start_table}
use Rattle.nb_machine.specs.Starting.{is_up}
use Rattle.nb_machine.proofs.Words.{effect_of_words, table_of_words, up_of_words, shown_of_words, shown_of_refused, table_of_refused, up_of_refused}
use Rattle.nb_laws.specs.Events.{Event, starts, puts, followed}
use Rattle.nb_laws.specs.Lists.{Opening, openings, made, came_ok, last_end}
use Rattle.nb_laws.specs.Moves.{moves}
use Rattle.nb_laws.specs.Webs.{opens_a_file}
use Rattle.nb_laws.specs.Wanting.{wanted_by}
use Rattle.std.specs.Prelude.{find}
use Rattle.nb_laws.specs.CommandsSoFar as commands
use Rattle.nb_laws.specs.CommandsSoFar.{CommandsSoFar, so_far, so_far_by, no_commands, script_so_far, shown_effect, shown_table, shown_up, shown_query, found_table, left_table, comes_by, comes_after, concluded_in, file_fetched, wanted_so_far, arrived_so_far, concluded_by_open, conclusion_so_far, images_after, finding, hooking, hooked_then, hooked_after, hooking_in, hooking_so_far}
use Rattle.nb_laws.specs.Silence.{IsSilent}
use Rattle.nb_laws.proofs.Histories.{followed_one, followed_append}
use Rattle.nb_laws.proofs.Tellings.{told, made_more}
use Rattle.nb_laws.proofs.HandOffs.{last_end_more}
use Rattle.nb_laws.proofs.OwnQueries.{WordsAsk, ask_none, ask_host, query_of_host}
use Rattle.nb_drivecmd.specs.declared.outcome.Hooking.{Hooking}
use Rattle.nb_drivecmd.specs.HookedDrives.{with_hooked}

pub so_far_more : (es : List Event) (e : Event) → so_far (es ++ e ∷ []) ≡ so_far_by es (so_far es) e
unfolding so_far
so_far_more es e = followed_one so_far_by no_commands es e

pub told_so_far : (es : List Event) (outs : List Out) → so_far (es ++ told outs) ≡ followed so_far_by es (so_far es) (told outs)
unfolding so_far
told_so_far es outs = followed_append so_far_by [] no_commands es (told outs)

-- so do the records of a hand-off
pub silent_so_far : (before : List Event) (m : CommandsSoFar) (o : Out) → IsSilent o → so_far_by before m (puts o) ≡ m
silent_so_far before m (command depth line place expanded words) h = absurd h
silent_so_far before m (result cause) h = absurd h
silent_so_far before m (script what depth cause) h = absurd h
silent_so_far before m (step number) h = refl
silent_so_far before m _ h = refl

-- before any event
pub nothing_so_far : (es : List Event) → es ≡ [] → so_far es ≡ no_commands
unfolding so_far followed
nothing_so_far es e = rw e refl

-- START
pub starts_so_far : (es : List Event) (n : ℕ) (s : Start) → es ≡ [] → so_far (es ++ starts n s ∷ []) ≡ record no_commands { table = start_table s; up = is_up s; scripts = script_so_far (first_text s.script) None ∷ [] }
starts_so_far es n s e =
    so_far_more es (starts n s) ∙ ap (λ (m : CommandsSoFar). record m { table = start_table s; up = is_up s; scripts = script_so_far (first_text s.script) None ∷ [] }) (nothing_so_far es e)

-- A COMMAND IS OVER

-- it leaves the settings that its words say, and the images and scripts by what it concluded
abbrev pub over_so_far : Option Conclusion → CommandsSoFar → CommandsSoFar
over_so_far c m = record m { table = shown_table m.table m.shown; images = images_after c m.images; is_open = false; concluded = c }

-- it has found nothing: none of its opens has ended well
pub left_quiet : (before : List Event) (table : TableLists) (shown : Option ShownWords) → came_ok (last_end before) ≡ false → left_table before table shown ≡ shown_table table shown
left_quiet before table shown failed =
    ap (λ b. cond b (found_table before (shown_table table shown) (shown_query (made before - 1) table shown)) (shown_table table shown)) failed

-- it has asked for nothing by one exchange
pub left_unasked : (before : List Event) (table : TableLists) (shown : Option ShownWords) → shown_query (made before - 1) table shown ≡ None → left_table before table shown ≡ shown_table table shown
left_unasked before table shown none = by (came_ok (last_end before))
  where
    by : (b : Bool) → cond b (found_table before (shown_table table shown) (shown_query (made before - 1) table shown)) (shown_table table shown) ≡ shown_table table shown
    by true = ap (found_table before (shown_table table shown)) none
    by false = refl

-- nor anything for the settings where it has looked up its server
pub left_by_host : (before : List Event) (m : CommandsSoFar) (shown : ShownWords) (errand : Errand) (name : List ℕ) (by : ℕ) → m.shown ≡ Some shown → comes_by (made before - 1) m shown ≡ inquires (for_host errand name by) →
    left_table before m.table m.shown ≡ shown_table m.table m.shown
left_by_host before m shown errand name server said is = asked (query_of_host (made before - 1) m shown errand name server is)
  where
    query : (q : Option Query) → commands.query_in (shown_effect (made before - 1) m.table shown) ≡ q → shown_query (made before - 1) m.table m.shown ≡ q
    query q e = ap (shown_query (made before - 1) m.table) said ∙ e

    host : (other : Errand) (x : List ℕ) (y : ℕ) → shown_query (made before - 1) m.table m.shown ≡ Some (for_host other x y) → (b : Bool) →
        cond b (found_table before (shown_table m.table m.shown) (shown_query (made before - 1) m.table m.shown)) (shown_table m.table m.shown) ≡ shown_table m.table m.shown
    host other x y e true = ap (found_table before (shown_table m.table m.shown)) e
    host other x y e false = refl

    asked : WordsAsk (commands.query_in (shown_effect (made before - 1) m.table shown)) → left_table before m.table m.shown ≡ shown_table m.table m.shown
    asked (ask_none e) = left_unasked before m.table m.shown (query None e)
    asked (ask_host other x y e) = host other x y (query (Some (for_host other x y)) e) (came_ok (last_end before))

-- the drives that it hooks
abbrev pub hooks_so_far : Cause → List Event → CommandsSoFar
hooks_so_far cause es = hooking (hooked_then cause es (so_far es)) (so_far es)

-- with the settings that it leaves
pub result_is : (es : List Event) (cause : Cause) (c : Option Conclusion) (table : TableLists) → (so_far es).left ≡ None → conclusion_so_far (last_end es) es (so_far es) ≡ c → left_table es (so_far es).table (so_far es).shown ≡ table →
    so_far (es ++ puts (result cause) ∷ []) ≡ record (so_far es) { table = table; images = images_after c (so_far es).images; is_open = false; concluded = c; hooked = hooked_then cause es (so_far es) }
result_is es cause c table left is at =
    so_far_more es (puts (result cause)) ∙ ap (λ l. hooking (hooked_then cause es (so_far es)) (commands.result_so_far l es (so_far es))) left
    ∙ ap (λ t. record (so_far es) { table = t; images = images_after (conclusion_so_far (last_end es) es (so_far es)) (so_far es).images; is_open = false; concluded = conclusion_so_far (last_end es) es (so_far es); hooked = hooked_then cause es (so_far es) }) at
    ∙ ap (λ x. record (so_far es) { table = table; images = images_after x (so_far es).images; is_open = false; concluded = x; hooked = hooked_then cause es (so_far es) }) is

-- where its words hook no disk, it hooks none
pub hooks_none : (es : List Event) (cause : Cause) (shown : ShownWords) → (so_far es).shown ≡ Some shown → hooking_in (comes_by 0 (so_far es) shown) ≡ None → hooks_so_far cause es ≡ so_far es
hooks_none es cause shown said none =
    ap (λ h. hooking (hooked_after h cause (made es - 1) (so_far es).hooked) (so_far es)) (ap (option_and_then (λ x. hooking_in (comes_by 0 (so_far es) x))) said ∙ none)

-- nor one that no words are known of
pub hooks_unshown : (es : List Event) (cause : Cause) → (so_far es).shown ≡ None → hooks_so_far cause es ≡ so_far es
hooks_unshown es cause none =
    ap (λ h. hooking (hooked_after h cause (made es - 1) (so_far es).hooked) (so_far es)) (ap (option_and_then (λ x. hooking_in (comes_by 0 (so_far es) x))) none)

-- nor where it fails
pub hooks_failed : (es : List Event) (cause : Cause) → is_ok_cause cause ≡ false → hooks_so_far cause es ≡ so_far es
hooks_failed es cause failed = by (hooking_so_far (so_far es))
  where
    by : (h : Option Hooking) → hooking (hooked_after h cause (made es - 1) (so_far es).hooked) (so_far es) ≡ so_far es
    by None = refl
    by (Some x) = ap (λ b. hooking (cond b (with_hooked (record { number = x.number; described = x.described; open_number = made es - 1 }) (so_far es).hooked) (so_far es).hooked) (so_far es)) failed

-- it has hooked a disk
pub hooks_one : (es : List Event) (cause : Cause) (x : Hooking) → hooking_so_far (so_far es) ≡ Some x → is_ok_cause cause ≡ true →
    hooks_so_far cause es ≡ hooking (with_hooked (record { number = x.number; described = x.described; open_number = made es - 1 }) (so_far es).hooked) (so_far es)
hooks_one es cause x is well =
    ap (λ h. hooking (hooked_after h cause (made es - 1) (so_far es).hooked) (so_far es)) is
    ∙ ap (λ b. hooking (cond b (with_hooked (record { number = x.number; described = x.described; open_number = made es - 1 }) (so_far es).hooked) (so_far es).hooked) (so_far es)) well

pub result_so_far : (es : List Event) (cause : Cause) (c : Option Conclusion) → (so_far es).left ≡ None → conclusion_so_far (last_end es) es (so_far es) ≡ c →
    left_table es (so_far es).table (so_far es).shown ≡ shown_table (so_far es).table (so_far es).shown → so_far (es ++ puts (result cause) ∷ []) ≡ over_so_far c (hooks_so_far cause es)
result_so_far es cause c left is table = result_is es cause c (shown_table (so_far es).table (so_far es).shown) left is table

-- the result of a command whose script was left
pub handed_so_far : (es : List Event) (cause left : Cause) → (so_far es).left ≡ Some left → so_far (es ++ puts (result cause) ∷ []) ≡ record (hooks_so_far cause es) { is_open = false; left = None; concluded = None }
handed_so_far es cause left is = so_far_more es (puts (result cause)) ∙ ap (λ l. hooking (hooked_then cause es (so_far es)) (commands.result_so_far l es (so_far es))) is

-- what a command comes to as one on images whose open hasn't ended well
pub concludes_at_once_so : (es : List Event) (m : CommandsSoFar) (shown : ShownWords) → came_ok (last_end es) ≡ false → m.shown ≡ Some shown → conclusion_so_far (last_end es) es m ≡ concluded_in (comes_by (made es) m shown)
concludes_at_once_so es m shown failed said =
    ap (λ b. cond b (concluded_by_open es m) (option_and_then (λ x. concluded_in (comes_by (made es) m x)) m.shown)) failed ∙ ap (option_and_then (λ x. concluded_in (comes_by (made es) m x))) said

-- it has concluded nothing, whatever its opens: it fetches no file
pub fetches_nothing : (es : List Event) (m : CommandsSoFar) (shown : ShownWords) → m.shown ≡ Some shown → ((o : Opening) → wanted_by (comes_after (made es - 1) m shown (moves es)) o ≡ None) → concluded_in (comes_by (made es) m shown) ≡ None →
    conclusion_so_far (last_end es) es m ≡ None
fetches_nothing es m shown said none concluded = by (came_ok (last_end es))
  where
    by_open : (x : Option Opening) → option_and_then (λ o. option_and_then (arrived_so_far (file_fetched (made es - 1) es o) m o) (wanted_so_far (made es - 1) m (moves es) o)) x ≡ None
    by_open None = refl
    by_open (Some o) = ap (option_and_then (arrived_so_far (file_fetched (made es - 1) es o) m o)) (ap (option_and_then (λ x. wanted_by (comes_after (made es - 1) m x (moves es)) o)) said ∙ none o)

    by : (b : Bool) → cond b (concluded_by_open es m) (option_and_then (λ x. concluded_in (comes_by (made es) m x)) m.shown) ≡ None
    by true = by_open (find opens_a_file (openings (made es - 1) es))
    by false = ap (option_and_then (λ x. concluded_in (comes_by (made es) m x))) said ∙ concluded

-- or its last open is that of no file
pub opened_no_file : (es : List Event) (m : CommandsSoFar) (shown : ShownWords) → m.shown ≡ Some shown → find opens_a_file (openings (made es - 1) es) ≡ None → concluded_in (comes_by (made es) m shown) ≡ None →
    conclusion_so_far (last_end es) es m ≡ None
opened_no_file es m shown said none concluded = by (came_ok (last_end es))
  where
    by : (b : Bool) → cond b (concluded_by_open es m) (option_and_then (λ x. concluded_in (comes_by (made es) m x)) m.shown) ≡ None
    by true = ap (option_and_then (λ o. option_and_then (arrived_so_far (file_fetched (made es - 1) es o) m o) (wanted_so_far (made es - 1) m (moves es) o))) none
    by false = ap (option_and_then (λ x. concluded_in (comes_by (made es) m x))) said ∙ concluded

-- the drives that a command finds
abbrev pub found_so_far : List Event → CommandsSoFar
found_so_far es = finding es (so_far es)

-- a command begins
abbrev pub begun_so_far : CommandsSoFar → ShownWords → CommandsSoFar
begun_so_far m shown = record m { up = shown_up m.up shown; shown = Some shown; since = m.now; is_open = true }

pub begins_so_far : (es : List Event) (s : Running) (shown : ShownWords) → so_far (es ++ puts (command_record s shown) ∷ []) ≡ begun_so_far (found_so_far es) shown
begins_so_far es s shown = so_far_more es (puts (command_record s shown))

-- COMMAND and what it prints
pub begun_quiet : (es : List Event) (s : Running) (shown : ShownWords) → came_ok (last_end (es ++ puts (command_record s shown) ∷ [])) ≡ false
begun_quiet es s shown = ap came_ok (last_end_more es (puts (command_record s shown)))

made_begun : (es : List Event) (s : Running) (shown : ShownWords) → made (es ++ puts (command_record s shown) ∷ []) ≡ made es
made_begun es s shown = made_more es (puts (command_record s shown)) ∙ add-zero (made es)

-- what it comes to then, as one on images
pub begun_concludes : (es es1 : List Event) (shown : ShownWords) → so_far es1 ≡ begun_so_far (found_so_far es) shown → made es1 ≡ made es → came_ok (last_end es1) ≡ false →
    conclusion_so_far (last_end es1) es1 (so_far es1) ≡ concluded_in (comes_by (made es) (found_so_far es) shown)
begun_concludes es es1 shown began many failed =
    concludes_at_once_so es1 (so_far es1) shown failed (ap (λ (m : CommandsSoFar). m.shown) began) ∙ ap (λ k. concluded_in (comes_by k (so_far es1) shown)) many
    ∙ ap (λ m. concluded_in (comes_by (made es) m shown)) began

pub command_so_far : (es : List Event) (s : Running) (shown : ShownWords) (o : CommandOutcome) → (so_far es).left ≡ None → concluded_in (comes_by (made es) (found_so_far es) shown) ≡ None →
    hooking_in (comes_by 0 (found_so_far es) shown) ≡ None → so_far (es ++ told (command_records s shown o)) ≡ over_so_far None (begun_so_far (found_so_far es) shown)
command_so_far es s shown o left none unhooked = by o.prints
  where
    e : Event
    e = puts (command_record s shown)

    over : (es1 : List Event) → so_far es1 ≡ begun_so_far (found_so_far es) shown → made es1 ≡ made es → came_ok (last_end es1) ≡ false → so_far (es1 ++ puts (result o.cause) ∷ []) ≡ over_so_far None (begun_so_far (found_so_far es) shown)
    over es1 began many failed =
        result_so_far es1 o.cause None (ap (λ (m : CommandsSoFar). m.left) began ∙ left) (begun_concludes es es1 shown began many failed ∙ none) (left_quiet es1 (so_far es1).table (so_far es1).shown failed)
        ∙ ap (over_so_far None) (hooks_none es1 o.cause shown (ap (λ (m : CommandsSoFar). m.shown) began) (ap (λ m. hooking_in (comes_by 0 m shown)) began ∙ unhooked) ∙ began)

    by : (p : Option (List ℕ)) → so_far (es ++ told ((command_record s shown ∷ []) ++ prints p ++ (result o.cause ∷ []))) ≡ over_so_far None (begun_so_far (found_so_far es) shown)
    by None =
        ap so_far (sym (append_assoc es (e ∷ []) (puts (result o.cause) ∷ []))) ∙ over (es ++ e ∷ []) (begins_so_far es s shown) (made_begun es s shown) (begun_quiet es s shown)
    by (Some bytes) =
        let es1 = es ++ e ∷ [] in
        let t = puts (prints_text bytes) in
        ap so_far (sym (append_assoc es (e ∷ []) (t ∷ puts (result o.cause) ∷ [])) ∙ sym (append_assoc es1 (t ∷ []) (puts (result o.cause) ∷ [])))
        ∙ over (es1 ++ t ∷ []) (so_far_more es1 t ∙ begins_so_far es s shown) (made_more es1 t ∙ add-zero (made es1) ∙ made_begun es s shown) (ap came_ok (last_end_more es1 t) ∙ begun_quiet es s shown)

-- THE WORDS THAT A RECORD SHOWS SAY WHAT THE SCRIPT'S WORDS SAY

pub shown_effect_is : (opens : ℕ) (table : TableLists) (ws : List (List ℕ)) → shown_effect opens table (shown_words table ws) ≡ effect opens table ws
shown_effect_is opens table ws = by (expansion table ws) refl
  where
    by : (r : Result (List (List ℕ)) ExpandError) → expansion table ws ≡ r → shown_effect opens table (shown_words table ws) ≡ effect opens table ws
    by (Ok xs) e = ap (shown_effect opens table) (shown_of_words table ws xs e) ∙ sym (effect_of_words opens table ws xs e)
    by (Err why) e = ap (shown_effect opens table) (shown_of_refused table ws why e)

pub shown_table_is : (table : TableLists) (ws : List (List ℕ)) → shown_table table (Some (shown_words table ws)) ≡ table_after table ws
shown_table_is table ws = by (expansion table ws) refl
  where
    by : (r : Result (List (List ℕ)) ExpandError) → expansion table ws ≡ r → shown_table table (Some (shown_words table ws)) ≡ table_after table ws
    by (Ok xs) e = ap (λ x. shown_table table (Some x)) (shown_of_words table ws xs e) ∙ sym (table_of_words table ws xs e)
    by (Err why) e = ap (λ x. shown_table table (Some x)) (shown_of_refused table ws why e) ∙ sym (table_of_refused table ws why e)

pub shown_up_is : (table : TableLists) (up : Bool) (ws : List (List ℕ)) → shown_up up (shown_words table ws) ≡ up_after table up ws
shown_up_is table up ws = by (expansion table ws) refl
  where
    by : (r : Result (List (List ℕ)) ExpandError) → expansion table ws ≡ r → shown_up up (shown_words table ws) ≡ up_after table up ws
    by (Ok xs) e = ap (shown_up up) (shown_of_words table ws xs e) ∙ sym (up_of_words table up ws xs e)
    by (Err why) e = ap (shown_up up) (shown_of_refused table ws why e) ∙ sym (up_of_refused table up ws why e)

-- words that stand as they are written were refused
abbrev IsRefused : TableLists → ShownWords → Type 0
IsRefused table shown = shown.expanded ≡ false → (why : ExpandError) × (expansion table shown.words ≡ Err why)

pub shown_refused : (table : TableLists) (ws : List (List ℕ)) → (shown_words table ws).expanded ≡ false → (why : ExpandError) × (expansion table (shown_words table ws).words ≡ Err why)
shown_refused table ws = by (expansion table ws) refl
  where
    by : (r : Result (List (List ℕ)) ExpandError) → expansion table ws ≡ r → IsRefused table (shown_words table ws)
    by (Ok xs) e = subst (IsRefused table) (sym (shown_of_words table ws xs e)) (λ no. absurd (let impossible : true ≡ false = no in cc))
    by (Err why) e = subst (IsRefused table) (sym (shown_of_refused table ws why e)) (λ off. (why, e))

-- RECORDS THAT CHANGE NOTHING OF SOME OF IT

-- no SCRIPT
abbrev pub IsNoScript : Out → Type 0
IsNoScript (script what depth cause) = ⊥
IsNoScript (step number) = Unit {0}
IsNoScript (sent bytes) = Unit {0}
IsNoScript (prints_text bytes) = Unit {0}
IsNoScript (command depth line place expanded words) = Unit {0}
IsNoScript (result cause) = Unit {0}
IsNoScript (opened number kind server port own target) = Unit {0}
IsNoScript (tried number count) = Unit {0}
IsNoScript (advanced number place) = Unit {0}
IsNoScript (ended number cause) = Unit {0}
IsNoScript (graph happens) = Unit {0}
IsNoScript (part kind index offset bytes) = Unit {0}
IsNoScript (done status) = Unit {0}

abbrev pub HaveNoScripts : List Out → Type 0
HaveNoScripts outs = AllByRecursion IsNoScript outs

result_scripts : (l : Option Cause) (before : List Event) (m : CommandsSoFar) → (commands.result_so_far l before m).scripts ≡ m.scripts
result_scripts None before m = refl
result_scripts (Some cause) before m = refl

scripts_by : (before : List Event) (m : CommandsSoFar) (o : Out) → IsNoScript o → (so_far_by before m (puts o)).scripts ≡ m.scripts
scripts_by before m (result cause) h = result_scripts m.left before m
scripts_by before m (script what depth cause) h = absurd h
scripts_by before m (command depth line place expanded words) h = refl
scripts_by before m (step number) h = refl
scripts_by before m _ h = refl

-- they leave the scripts
pub told_scripts : (es : List Event) (outs : List Out) → HaveNoScripts outs → (so_far (es ++ told outs)).scripts ≡ (so_far es).scripts
told_scripts es [] h = ap (λ (z : List Event). (so_far z).scripts) (append-nil es)
told_scripts es (o ∷ outs) h =
    ap (λ (z : List Event). (so_far z).scripts) (sym (append_assoc es (puts o ∷ []) (told outs))) ∙ told_scripts (es ++ puts o ∷ []) outs h.1
    ∙ ap (λ (m : CommandsSoFar). m.scripts) (so_far_more es (puts o)) ∙ scripts_by es (so_far es) o h.0

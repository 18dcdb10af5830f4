-- The machine keeps to a lab's script, whatever comes.
use Rattle.std.proofs.Common.{◌≡◌, ℕ, zero, suc, Bool, true, false, nat_lt, if◌then◌else◌, List, [], ◌∷◌, drop, slice_get, Option, Some, None, Result, Ok, Err, IfOk, IfSome, option_map, refl, sym, subst}
use Rattle.std.specs.Option.{option_map_or}
use Rattle.nb_terms.specs.declared.cause.Cause.{Cause}
use Rattle.nb_defs.specs.Causes.{ok, is_ok_cause}
use Rattle.nb_defs.specs.Records.{In, start, frame, tick, off, Out}
use Rattle.nb_defs.specs.ScriptLines.{Item, Line, label, list, empty, items, script}
use Rattle.nb_image.specs.Images.{ImageList}
use Rattle.nb_image.specs.declared.error.ImageError.{ImageError}
use Rattle.nb_image.specs.declared.image.Image.{Image}
use Rattle.nb_imagecmd.specs.Arriving.{arrived, arrived_image, taken_unless}
use Rattle.nb_imagecmd.specs.Asking.{target_host, target_uri}
use Rattle.nb_imagecmd.specs.Moving.{moved_file, place_of_move, with_place}
use Rattle.nb_imagecmd.specs.declared.asking.After.{After}
use Rattle.nb_imagecmd.specs.declared.asking.After.TheVariants as after
use Rattle.nb_imagecmd.specs.declared.asking.Asking.{Asking}
use Rattle.nb_imagecmd.specs.declared.error.ImageFailure.{ImageFailure}
use Rattle.nb_imagecmd.specs.declared.error.ImageFailure.TheVariants.{ManyMoves}
use Rattle.nb_uri.specs.declared.target.UriTarget.{UriTarget}
use Rattle.nb_settings.specs.Tables.{TableLists}
use Rattle.nb_wire.specs.declared.address.Ip4.{Ip4}
use Rattle.nb_image.specs.Images as images
use Rattle.nb_machine.specs.CommandRecords.{no_route}
use Rattle.nb_machine.specs.Conclusions.{Conclusion, keeps, tells, fails, boots, runs_script, file_conclusion, conclusion}
use Rattle.nb_machine.specs.Courses.{Standing, Progress, ConclusionLeads, LeadsTo, StepBegins, runs, refuses, waits_on, is_answered, switches_off, resumes, goes_off, Proceeds, passes, is_left, hands_back, yields, does, closes_device, goes_to_hook, hooks_none, unhooks, boots_hooked, concludes_there, leaves, jumps, finds_no_label, falls_asleep, opens_one, finds_no_route, opens_onward, finds_no_way, opens_no_more, hands, has_handed}
use Rattle.nb_machine.specs.Effects.{full_opens, next_moved}
use Rattle.nb_machine.specs.Errands.{Errand, fetches_then, Onward, fetches_now, echoes_now, hooks_now, looks_up_now, onward, Wanted}
use Rattle.nb_machine.specs.FirstText.{first_reading}
use Rattle.nb_machine.specs.Kinds.{fetched, resolved}
use Rattle.nb_machine.specs.Running.{Running, passing, leaving, beginning, coming, rest_comes, words_come, line_comes, list_comes, behind_command, onto_line, with_result, anew, entered, lets_run, counting_on, no_label}
use Rattle.nb_machine.specs.Scripts.{Job, fetch, takes_lease, hears_echo, keeps_address, hooks, boots as boots_read, asks_on, sleep, job_onward, live_onward, Answer, by_end, by_drive, by_time, Upshot, concludes, settles, hooks_drive, reads_drive, boots_drive_by, goes_onward, concluded_by, place_moved_to, upshot_fetched, upshot_moved, next_of, settled_with, Doing, opens, concludes_now, hooks_one, lets_go, boots_one, doing}
use Rattle.nb_machine.specs.States.{State}
use Rattle.nb_machine.specs.Takings.{Over}
use Rattle.nb_client.specs.Progressing.{ProceedsTo, no_further, one_further, UsesOrMoves}
use Rattle.nb_labrun.specs.Keeping.{IsLabName, IsLabCommand, AreLabCommands, IsLabLine, AreLabLines, IsLabScript, IsKept, IsErrandKept, IsNextKept, IsJobKept, StandsInLab}
use Rattle.nb_labrun.proofs.CommandLemmas.{GoesOn, IsDoingKept, command_kept, either, host_kept, onward_kept}

-- WHAT A SCRIPT COMES TO NEXT

commands_dropped : (commands : List Item) → AreLabCommands commands → AreLabCommands (drop 1 commands)
commands_dropped [] h = tt
commands_dropped (i ∷ others) h = h.1

line_at : (code : List Line) (n : ℕ) → AreLabLines code → IfSome (slice_get code n) IsLabLine
line_at [] n h = tt
line_at (line ∷ others) zero h = h.0
line_at (line ∷ others) (suc n) h = line_at others n h.1

pub result_kept : (r : Running) (cause : Cause) → IsLabScript r → IsLabScript (with_result r cause)
result_kept r cause h = record { code = h.code; rest = h.rest }

pub entered_kept : (r : Running) → IsLabScript r → IsLabScript (entered r)
entered_kept r h = record { code = h.code; rest = commands_dropped r.rest h.rest }

pub anew_kept : (r : Running) → IsLabScript r → IsLabScript (anew r)
anew_kept r h = record { code = h.code; rest = h.rest }

behind_kept : (r : Running) → IsLabScript r → IsLabScript (behind_command r)
behind_kept r h = record { code = h.code; rest = commands_dropped r.rest h.rest }

onto_kept : (r : Running) (commands : List Item) → AreLabLines r.code → AreLabCommands commands → IsLabScript (onto_line r commands)
onto_kept r commands code h = record { code = code; rest = h }

list_passes : (r next : Running) (found : Option (List Item)) → AreLabLines r.code → IfSome found AreLabCommands → list_comes r found ≡ passing next → IsLabScript next
list_passes r next None code h e = absurd (cc e)
list_passes r next (Some commands) code h e = let same : onto_line r commands ≡ next = cc e in subst IsLabScript same (onto_kept r commands code h)

line_passes : (r next : Running) (found : Option Line) → AreLabLines r.code → IfSome found IsLabLine → line_comes r found ≡ passing next → IsLabScript next
line_passes r next None code h e = absurd (cc e)
line_passes r next (Some (label name)) code h e = let same : onto_line r [] ≡ next = cc e in subst IsLabScript same (onto_kept r [] code tt)
line_passes r next (Some empty) code h e = let same : onto_line r [] ≡ next = cc e in subst IsLabScript same (onto_kept r [] code tt)
line_passes r next (Some (list text)) code h e = list_passes r next (items text) code h e

end_passes : (b : Bool) (r next : Running) → AreLabLines r.code → (if b then line_comes r (slice_get r.code r.passed) else leaving r.last) ≡ passing next → IsLabScript next
end_passes true r next code e = line_passes r next (slice_get r.code r.passed) code (line_at r.code r.passed code) e
end_passes false r next code e = absurd (cc e)

words_pass : (r next : Running) (words : List (List ℕ)) → IsLabScript r → words_come r words ≡ passing next → IsLabScript next
words_pass r next [] h e = let same : with_result (behind_command r) ok ≡ next = cc e in subst IsLabScript same (result_kept (behind_command r) ok (behind_kept r h))
words_pass r next (name ∷ args) h e = absurd (cc e)

item_passes : (b : Bool) (r next : Running) (words : List (List ℕ)) → IsLabScript r → (if b then words_come r words else passing (behind_command r)) ≡ passing next → IsLabScript next
item_passes true r next words h e = words_pass r next words h e
item_passes false r next words h e = let same : behind_command r ≡ next = cc e in subst IsLabScript same (behind_kept r h)

rest_passes : (r next : Running) (rest : List Item) → IsLabScript r → rest_comes r rest ≡ passing next → IsLabScript next
rest_passes r next [] h e = end_passes (is_ok_cause r.last) r next h.code e
rest_passes r next (i ∷ behind) h e = item_passes (lets_run i.join r.last) r next i.words h e

pub passing_kept : (r next : Running) → IsLabScript r → coming r ≡ passing next → IsLabScript next
unfolding coming
passing_kept r next h e = rest_passes r next r.rest h e

list_begins : (r : Running) (found : Option (List Item)) (name : List ℕ) (args : List (List ℕ)) → list_comes r found ≡ beginning name args → ⊥
list_begins r None name args e = cc e
list_begins r (Some commands) name args e = cc e

line_begins : (r : Running) (found : Option Line) (name : List ℕ) (args : List (List ℕ)) → line_comes r found ≡ beginning name args → ⊥
line_begins r None name args e = cc e
line_begins r (Some (label text)) name args e = cc e
line_begins r (Some empty) name args e = cc e
line_begins r (Some (list text)) name args e = list_begins r (items text) name args e

end_begins : (b : Bool) (r : Running) (name : List ℕ) (args : List (List ℕ)) → (if b then line_comes r (slice_get r.code r.passed) else leaving r.last) ≡ beginning name args → ⊥
end_begins true r name args e = line_begins r (slice_get r.code r.passed) name args e
end_begins false r name args e = cc e

words_begin : (r : Running) (words : List (List ℕ)) (name : List ℕ) (args : List (List ℕ)) → IsLabCommand words → words_come r words ≡ beginning name args → IsLabName name
words_begin r [] name args h e = absurd (cc e)
words_begin r (word ∷ others) name args h e = let same : word ≡ name = cc e in subst IsLabName same h

item_begins : (b : Bool) (r : Running) (words : List (List ℕ)) (name : List ℕ) (args : List (List ℕ)) → IsLabCommand words → (if b then words_come r words else passing (behind_command r)) ≡ beginning name args → IsLabName name
item_begins true r words name args h e = words_begin r words name args h e
item_begins false r words name args h e = absurd (cc e)

rest_begins : (r : Running) (rest : List Item) (name : List ℕ) (args : List (List ℕ)) → AreLabCommands rest → rest_comes r rest ≡ beginning name args → IsLabName name
rest_begins r [] name args h e = absurd (end_begins (is_ok_cause r.last) r name args e)
rest_begins r (i ∷ behind) name args h e = item_begins (lets_run i.join r.last) r i.words name args h.0 e

pub beginning_kept : (r : Running) (name : List ℕ) (args : List (List ℕ)) → IsLabScript r → coming r ≡ beginning name args → IsLabName name
unfolding coming
beginning_kept r name args h e = rest_begins r r.rest name args h.rest e

-- WHAT COMES OF A COMMAND THAT WAITED

abbrev IsUpshotKept : Upshot → Type 0
IsUpshotKept (concludes c) = GoesOn c
IsUpshotKept (settles x) = Unit {0}
IsUpshotKept (hooks_drive d) = ⊥
IsUpshotKept (reads_drive d) = ⊥
IsUpshotKept (boots_drive_by d bytes) = ⊥
IsUpshotKept (goes_onward next) = IsNextKept next

taken_kept : (refused : Option ImageError) (way : After) (image : Image) (depth : ℕ) (held : ImageList) → way ≡ after.Keep → GoesOn (file_conclusion (taken_unless refused way image depth held))
taken_kept (Some why) way image depth held e = tt
taken_kept None after.Keep image depth held e = tt
taken_kept None after.Select image depth held e = tt
taken_kept None (after.Run replace) image depth held e = absurd (cc e)

arrived_kept : (asking : Asking) (body uri : List ℕ) (depth : ℕ) (held : ImageList) → IsKept asking → GoesOn (file_conclusion (arrived asking body uri depth held))
unfolding arrived
arrived_kept asking body uri depth held h = taken_kept (images.refusal (arrived_image asking body uri) held.images) asking.after (arrived_image asking body uri) depth held h

conclusion_kept : (cause : Cause) (asking : Asking) (body : List ℕ) (depth : ℕ) (held : ImageList) → IsKept asking → GoesOn (conclusion cause asking body depth held)
conclusion_kept cause asking body depth held h =
    either GoesOn (is_ok_cause cause) (file_conclusion (arrived asking body (target_uri asking.target) depth held)) (fails cause) (arrived_kept asking body (target_uri asking.target) depth held h) tt

placed_kept : (asking : Asking) (place : Result UriTarget ImageFailure) → IsKept asking → IfOk (with_place asking place) IsKept
placed_kept asking (Ok target) h = h
placed_kept asking (Err why) h = tt

moved_kept : (asking : Asking) (text : List ℕ) → IsKept asking → IfOk (moved_file asking text) IsKept
moved_kept asking text h =
    either (λ (r : Result Asking ImageFailure). IfOk r IsKept) (nat_lt asking.moves 5) (with_place asking (place_of_move asking.target text)) (Err ManyMoves) (placed_kept asking (place_of_move asking.target text) h) tt

next_kept : (made : ℕ) (table : TableLists) (r : Result Asking ImageFailure) → IfOk r IsKept → IfOk (next_moved made table r) IsNextKept
next_kept made table (Ok asking) h = host_kept made table (target_host asking.target) (fetches_then asking) h
next_kept made table (Err why) h = tt

upshot_next_kept : (r : Result Onward Cause) → IfOk r IsNextKept → IsUpshotKept (upshot_moved r)
upshot_next_kept (Ok next) h = h
upshot_next_kept (Err cause) h = tt

fetch_concluded : (s : State) (depth : ℕ) (wanted : Wanted) (o : Over) (place : Option (List ℕ)) → IsKept wanted.asking → IsUpshotKept (upshot_fetched s depth wanted o place)
fetch_concluded s depth wanted o None h = conclusion_kept o.cause wanted.asking (fetched o.live) depth s.images h
fetch_concluded s depth wanted o (Some place) h =
    upshot_next_kept (next_moved s.opens s.table (moved_file wanted.asking place)) (next_kept s.opens s.table (moved_file wanted.asking place) (moved_kept wanted.asking place h))

found_kept : (errand : Errand) (found : Option Ip4) → IsErrandKept errand → IfSome (option_map (λ address. onward errand address.0) found) IsNextKept
found_kept errand None h = tt
found_kept errand (Some address) h = onward_kept errand address.0 h

errand_concluded : (s : State) (errand : Errand) (o : Over) → IsErrandKept errand → (next : Option Onward) → IfSome next IsNextKept → IsUpshotKept (option_map_or goes_onward next (settles (settled_with o.cause (Ok s.table) s.table)))
errand_concluded s errand o h None k = tt
errand_concluded s errand o h (Some next) k = k

next_of_kept : (errand : Errand) (o : Over) → IsErrandKept errand → IfSome (next_of errand o) IsNextKept
next_of_kept errand o h =
    either (λ (r : Option Onward). IfSome r IsNextKept) (is_ok_cause o.cause) (option_map (λ address. onward errand address.0) (resolved o.live)) None (found_kept errand (resolved o.live) h) tt

concluded_kept : (s : State) (depth : ℕ) (job : Job) (a : Answer) → IsJobKept job → IsUpshotKept (concluded_by s depth job a)
concluded_kept s depth (fetch wanted) (by_end o) h = fetch_concluded s depth wanted o (place_moved_to o) h
concluded_kept s depth takes_lease (by_end o) h = tt
concluded_kept s depth hears_echo (by_end o) h = tt
concluded_kept s depth (keeps_address setting) (by_end o) h = tt
concluded_kept s depth (asks_on errand) (by_end o) h = errand_concluded s errand o h (next_of errand o) (next_of_kept errand o h)
concluded_kept s depth sleep (by_end o) h = tt
concluded_kept s depth (hooks hooking) a h = absurd h
concluded_kept s depth (boots_read d) a h = absurd h
concluded_kept s depth (fetch wanted) (by_drive l) h = tt
concluded_kept s depth takes_lease (by_drive l) h = tt
concluded_kept s depth hears_echo (by_drive l) h = tt
concluded_kept s depth (keeps_address setting) (by_drive l) h = tt
concluded_kept s depth (asks_on errand) (by_drive l) h = tt
concluded_kept s depth sleep (by_drive l) h = tt
concluded_kept s depth (fetch wanted) by_time h = tt
concluded_kept s depth takes_lease by_time h = tt
concluded_kept s depth hears_echo by_time h = tt
concluded_kept s depth (keeps_address setting) by_time h = tt
concluded_kept s depth (asks_on errand) by_time h = tt
concluded_kept s depth sleep by_time h = tt

-- WHERE THE RUN STANDS

conclusion_stands : (s : State) (inner : Running) (outer : List Running) (c : Conclusion) (put : List Out) (p : Standing) → IsLabScript inner → outer ≡ [] → GoesOn c → ConclusionLeads s inner outer c put p → StandsInLab p
conclusion_stands s inner outer (keeps held) put p h none k l = subst StandsInLab (sym l.1) (result_kept inner ok h, none)
conclusion_stands s inner outer (tells held lines) put p h none k l = subst StandsInLab (sym l.1) (result_kept inner ok h, none)
conclusion_stands s inner outer (fails cause) put p h none k l = subst StandsInLab (sym l.1) (result_kept inner cause h, none)
conclusion_stands s inner outer (boots held kernel) put p h none k l = absurd k
conclusion_stands s inner outer (runs_script held image replace) put p h none k l = absurd k

upshot_stands : (s : State) (inner : Running) (outer : List Running) (u : Upshot) (put : List Out) (p : Standing) → IsLabScript inner → outer ≡ [] → IsUpshotKept u → LeadsTo s inner outer u put p → StandsInLab p
upshot_stands s inner outer (concludes c) put p h none k l = conclusion_stands s inner outer c put p h none k l
upshot_stands s inner outer (settles x) put p h none k l = subst StandsInLab (sym l.1) (result_kept inner x.cause h, none)
upshot_stands s inner outer (hooks_drive d) put p h none k l = absurd k
upshot_stands s inner outer (reads_drive d) put p h none k l = absurd k
upshot_stands s inner outer (boots_drive_by d bytes) put p h none k l = absurd k
upshot_stands s inner outer (goes_onward next) put p h none k l = subst StandsInLab (sym l.1) (h, none, k)

onward_job : (next : Onward) → IsNextKept next → IsJobKept (job_onward next)
onward_job (fetches_now wanted) h = h
onward_job (echoes_now server) h = tt
onward_job (hooks_now hooking server) h = absurd h
onward_job (looks_up_now errand name by) h = h

-- a record that keeps to a lab: a START whose script does, a frame, or a time
abbrev pub IsLabRecord : In → Type 0
IsLabRecord (start s) = (code : List Line) → first_reading s.script ≡ script code → AreLabLines code
IsLabRecord (frame bytes) = Unit {0}
IsLabRecord (tick ms) = Unit {0}
IsLabRecord off = ⊥

begins_in_lab : (p : Progress) (r : In) (put : List Out) (q : Progress) → IsLabRecord r → StandsInLab p.standing → StepBegins p r put q → StandsInLab q.standing
begins_in_lab p r put q is h (runs n s code valid reading) = (record { code = is code reading; rest = tt }, refl)
begins_in_lab p r put q is h (refuses n s cause valid refusal) = refl
begins_in_lab p r put q is h (waits_on n s s' w r1 put1 over valid network none) = (anew_kept w.script h.0, h.1, h.2)
begins_in_lab p r put q is h (is_answered n s s' w r1 put1 more over a p1 valid network some leads) =
    upshot_stands s' (anew w.script) w.outer (concluded_by s' w.script.depth w.job a) more p1 (anew_kept w.script h.0) h.1 (concluded_kept s' w.script.depth w.job a h.2) leads
begins_in_lab p r put q is h (switches_off n s w put1 over all) = absurd is
begins_in_lab p r put q is h (resumes n s s' inner outer r1 put1 over valid network) = (anew_kept inner h.0, h.1)
begins_in_lab p r put q is h (goes_off n s inner outer put1 over all) = absurd is

none_outside : (gone : Running) (outer : List Running) → outer ≡ [] → counting_on gone outer ≡ []
none_outside gone [] e = refl
none_outside gone (r ∷ outer) e = absurd (cc e)

does_so : (s : State) (inner : Running) (name : List ℕ) (args : List (List ℕ)) (d : Doing) → IsLabScript inner → coming inner ≡ beginning name args → doing s inner (name ∷ args) ≡ d → IsDoingKept d
does_so s inner name args d h comes is = subst IsDoingKept is (command_kept s inner name args (beginning_kept inner name args h comes))

moves_in_lab : (p : Progress) (put : List Out) (q : Progress) → StandsInLab p.standing → Proceeds p put q → StandsInLab q.standing
moves_in_lab p put q h (passes n s inner next outer a) = (passing_kept inner next h.0 a, h.1)
moves_in_lab p put q h (is_left n s inner outer cause a) = none_outside inner outer h.1
moves_in_lab p put q h (hands_back n s inner outer cause) = absurd (cc h)
moves_in_lab p put q h (yields n s inner outer c cs a b) = h
moves_in_lab p put q h (does n s s' inner outer c cs o a b d e) = (result_kept (entered inner) o.cause (entered_kept inner h.0), h.1)
moves_in_lab p put q h (closes_device n s s' inner outer c cs put1 over a b d e) = (result_kept (entered inner) ok (entered_kept inner h.0), h.1)
moves_in_lab p put q h (goes_to_hook n s s' inner outer c cs hooking put1 next a b d e f) = absurd (does_so s inner c cs (hooks_one hooking) h.0 a d)
moves_in_lab p put q h (hooks_none n s s' inner outer c cs hooking put1 cause a b d e f) = absurd (does_so s inner c cs (hooks_one hooking) h.0 a d)
moves_in_lab p put q h (unhooks n s s' inner outer c cs number put1 cause a b d e) = absurd (does_so s inner c cs (lets_go number cause) h.0 a d)
moves_in_lab p put q h (boots_hooked n s inner outer c cs number d put1 p1 a b e f g) = absurd (does_so s inner c cs (boots_one number) h.0 a e)
moves_in_lab p put q h (concludes_there n s inner outer c cs x put1 p1 a b d leads) =
    conclusion_stands s (entered inner) outer x put1 p1 (entered_kept inner h.0) h.1 (does_so s inner c cs (concludes_now x) h.0 a d) leads
moves_in_lab p put q h (leaves n s s' inner outer c cs o a b d e) = none_outside (entered inner) outer h.1
moves_in_lab p put q h (jumps n s inner outer c cs name line a b d e) = (record { code = h.0.code; rest = tt }, h.1)
moves_in_lab p put q h (finds_no_label n s inner outer c cs name a b d e) = (result_kept (entered inner) no_label (entered_kept inner h.0), h.1)
moves_in_lab p put q h (falls_asleep n s inner outer c cs time a b d) = (entered_kept inner h.0, h.1, tt)
moves_in_lab p put q h (opens_one n s s' inner outer c cs l job link put1 a b d e f) = (entered_kept inner h.0, h.1, does_so s inner c cs (opens s' l job) h.0 a d)
moves_in_lab p put q h (finds_no_route n s s' inner outer c cs l job link a b d e f) = (result_kept (entered inner) (no_route l.server) (entered_kept inner h.0), h.1)
moves_in_lab p put q h (opens_onward n s inner outer next link put1 a b d) = (h.0, h.1, onward_job next h.2)
moves_in_lab p put q h (finds_no_way n s inner outer next link a b d) = (result_kept inner (no_route (live_onward s next).server) h.0, h.1)
moves_in_lab p put q h (opens_no_more n s inner outer next a) = (result_kept inner full_opens h.0, h.1)
moves_in_lab p put q h (hands n s r rest) = absurd h
moves_in_lab p put q h (has_handed n s) = absurd h

-- by moves
pub stays_in_lab : (p : Progress) (put : List Out) (q : Progress) → StandsInLab p.standing → ProceedsTo p put q → StandsInLab q.standing
stays_in_lab p put q h (no_further p1) = h
stays_in_lab p put q h (one_further p1 q1 r1 put1 more first rest) = stays_in_lab q1 more r1 (moves_in_lab p1 put1 q1 h first) rest

-- and by a record
pub used_in_lab : (p : Progress) (r : In) (put : List Out) (q : Progress) → IsLabRecord r → StandsInLab p.standing → UsesOrMoves (r ∷ []) p put q → StandsInLab q.standing
used_in_lab p r put q is h step = begins_in_lab p r put q is h step

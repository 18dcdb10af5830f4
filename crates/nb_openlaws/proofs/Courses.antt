-- A course has a history that says its time, its opens, and what each open that lives has received and tried.
use Rattle.std.proofs.Common.{◌≡◌, ℕ, ◌+◌, Bool, true, false, List, [], ◌∷◌, ◌++◌, Option, Some, None, refl, sym, ◌∙◌, ap, subst, append_assoc, append-nil}
use Rattle.std.proofs.lemmas.List.{map-append}
use Rattle.std.proofs.lemmas.List.Concat.{flat_map-append}
use Rattle.nb_terms.specs.declared.cause.Cause.{Cause}
use Rattle.nb_defs.specs.Commands.{CommandOutcome, refused}
use Rattle.nb_defs.specs.ScriptLines.{script_reading}
use Rattle.nb_imagecmd.specs.declared.outcome.ScriptImage.{ScriptImage}
use Rattle.nb_scripts.specs.Records.{replace}
use Rattle.nb_machine.specs.FirstText.{text_refusal}
use Rattle.nb_laws.specs.Agreement.{AreStill}
use Rattle.nb_defs.specs.Records.{Start, In, Out, result, enter, leave}
use Rattle.nb_settings.specs.Tables.{TableLists}
use Rattle.nb_stack.specs.Client.{Client}
use Rattle.nb_machine.specs.Effects.{Effect, says, asks, goes, sleeps, shuts_device, inquires, on_images, on_drives, hooks_disk, unhooks_drive, boots_drive, concludes_at_once, full_opens, shown_words}
use Rattle.nb_defs.specs.Causes.{ok}
use Rattle.nb_machine.specs.Running.{Running, no_label, entered, anew}
use Rattle.nb_machine.specs.CommandRecords.{command_record, command_records, no_route, stopped_cause}
use Rattle.nb_machine.specs.Conclusions.{Conclusion, keeps, tells, fails, boots, runs_script, conclusion_records}
use Rattle.nb_image.specs.Images.{ImageList}
use Rattle.nb_machine.specs.Lives.{close, Live, open_record, end_record}
use Rattle.nb_machine.specs.States.{State, following, state_at_start, with_images, with_settings, with_live, with_opened, with_one_made, with_drive}
use Rattle.nb_drivecmd.specs.declared.drive.Drive.{Drive}
use Rattle.nb_machine.specs.Takings.{Over, AllTake}
use Rattle.nb_machine.specs.Scripts.{Job, ends, opens, shuts, doing_by, transfer_for, live_for, live_onward, net0_mac, Upshot, concludes, settles, goes_onward, upshot_records, concluded_by, hooks_drive, reads_drive, boots_drive_by}
use Rattle.nb_machine.specs.Courses as course
use Rattle.nb_machine.specs.Courses.{ReadsBlock, block_lost, block_standing, Standing, Progress, stands, nowhere, text_records, text_standing, ScriptLeads, ConclusionLeads, LeadsTo, StepBegins, Proceeds, Course}
use Rattle.nb_machine.specs.BootTables.{boot_table}
use Rattle.nb_laws.specs.Events.{Event, starts, stops, puts, inputs, outputs, used_by, written_by, put_one}
use Rattle.nb_laws.specs.Lists.{time, made, port_offset, hardware, gathered, openings, open_has_ended, live, calls, marks}
use Rattle.nb_laws.specs.Webs.{brought_to, try_marks_of}
use Rattle.nb_openlaws.specs.Standings.{AgreesState, AgreesStanding}
use Rattle.nb_laws.proofs.Tellings.{told}
use Rattle.nb_laws.proofs.Asides.{more_still, still_command, still_conclusion, still_handoff, silent_handoff, still_disk, silent_disk}
use Rattle.nb_openlaws.proofs.UsedEvents.{IsUsed}
use Rattle.nb_openlaws.proofs.LiveStates.{as_state, nothing_came, close_agrees, SameStart, some_close, splits_first, drop_agrees}
use Rattle.nb_openlaws.proofs.Networks.{network_agrees, asks_agrees}
use Rattle.nb_openlaws.proofs.OpenStates.{still_state, IsNext, opened_state, failed_state, begun_so}
use Rattle.nb_openlaws.proofs.NextOpens.{query_next, transfer_next, opens_settings, onward_settings, onward_so, MayHook}

-- WHAT A COMMAND DOES TO THE STATE

-- the time, the count of opens and those that live stay
pub record KeepsOpens (s t : State) : Type 0 where
  pub same : SameStart s t
  pub lives : t.live ≡ s.live

mac_followed : (table : TableLists) (up : Bool) (devices : List Client) → net0_mac (following table up devices) ≡ net0_mac devices
mac_followed table up [] = refl
mac_followed table up (link ∷ others) = refl

keeps_with : (s : State) (table : TableLists) (up : Bool) → KeepsOpens s (with_settings s table up)
keeps_with s table up = record { same = record { now = refl; opens = refl; offset = refl; mac = mac_followed table up s.devices; identity = refl }; lives = refl }

keeps_same : (s : State) → KeepsOpens s s
keeps_same s = record { same = record { now = refl; opens = refl; offset = refl; mac = refl; identity = refl }; lives = refl }

pub ends_keep : (s t : State) (table : TableLists) (up : Bool) (e : Effect) (o : CommandOutcome) → doing_by s table up e ≡ ends o t → KeepsOpens s t
ends_keep s t table up (says c) o e = let same : with_settings s table up ≡ t = cc in subst (KeepsOpens s) same (keeps_with s table up)
ends_keep s t table up (asks wanted) o e = absurd (cc)
ends_keep s t table up (goes name) o e = absurd (cc)
ends_keep s t table up (sleeps seconds) o e = absurd (cc)
ends_keep s t table up (inquires q) o e = absurd (cc)
ends_keep s t table up (on_images c) o e = absurd (cc)
ends_keep s t table up (on_drives c) o e = absurd (cc)
ends_keep s t table up (hooks_disk hooking) o e = absurd (cc)
ends_keep s t table up (unhooks_drive number cause) o e = absurd (cc)
ends_keep s t table up (boots_drive number) o e = absurd (cc)
ends_keep s t table up (concludes_at_once c) o e = absurd (cc)
ends_keep s t table up shuts_device o e = absurd (cc)

pub shuts_keep : (s t : State) (table : TableLists) (up : Bool) (e : Effect) → doing_by s table up e ≡ shuts t → KeepsOpens s t
shuts_keep s t table up shuts_device e = let same : with_settings s table up ≡ t = cc in subst (KeepsOpens s) same (keeps_with s table up)
shuts_keep s t table up (says c) e = absurd (cc)
shuts_keep s t table up (asks wanted) e = absurd (cc)
shuts_keep s t table up (goes name) e = absurd (cc)
shuts_keep s t table up (sleeps seconds) e = absurd (cc)
shuts_keep s t table up (inquires q) e = absurd (cc)
shuts_keep s t table up (on_images c) e = absurd (cc)
shuts_keep s t table up (on_drives c) e = absurd (cc)
shuts_keep s t table up (hooks_disk hooking) e = absurd (cc)
shuts_keep s t table up (unhooks_drive number cause) e = absurd (cc)
shuts_keep s t table up (boots_drive number) e = absurd (cc)
shuts_keep s t table up (concludes_at_once c) e = absurd (cc)

pub opens_next : (s t : State) (table : TableLists) (up : Bool) (e : Effect) (l : Live) (job : Job) → doing_by s table up e ≡ opens t l job → KeepsOpens s t × IsNext t l
opens_next s t table up (asks wanted) l job e =
    let same : s ≡ t = cc in
    let it : transfer_for s wanted ≡ l = cc in
    (subst (KeepsOpens s) same (keeps_same s), subst (λ z. IsNext z l) same (subst (IsNext s) it (transfer_next s wanted)))
opens_next s t table up (inquires q) l job e =
    let same : with_settings s table up ≡ t = cc in
    let it : live_for (with_settings s table up) q ≡ l = cc in
    (subst (KeepsOpens s) same (keeps_with s table up), subst (λ z. IsNext z l) same (subst (IsNext (with_settings s table up)) it (query_next (with_settings s table up) q)))
opens_next s t table up (says c) l job e = absurd (cc)
opens_next s t table up (goes name) l job e = absurd (cc)
opens_next s t table up (sleeps seconds) l job e = absurd (cc)
opens_next s t table up shuts_device l job e = absurd (cc)
opens_next s t table up (on_images c) l job e = absurd (cc)
opens_next s t table up (on_drives c) l job e = absurd (cc)
opens_next s t table up (hooks_disk hooking) l job e = absurd (cc)
opens_next s t table up (unhooks_drive number cause) l job e = absurd (cc)
opens_next s t table up (boots_drive number) l job e = absurd (cc)
opens_next s t table up (concludes_at_once c) l job e = absurd (cc)

pub kept_state : (es : List Event) (s t : State) → KeepsOpens s t → AgreesState es s → AgreesState es t
kept_state es s t k a = as_state es s t k.same k.lives a

-- THE COURSE

put_all : (outs : List Out) → outputs (told outs) ≡ outs
put_all [] = refl
put_all (o ∷ outs) = ap (λ z. o ∷ z) (put_all outs)

used_none : (outs : List Out) → inputs (told outs) ≡ []
used_none [] = refl
used_none (o ∷ outs) = used_none outs

-- the event that a record used is, and the records that its step puts first
pub record Begun (es : List Event) (r : In) (added : List Out) (p : Standing) : Type 0 where
  pub event : Event
  pub more : List Out
  pub used : IsUsed event
  pub is_record : used_by event ≡ r ∷ []
  pub puts_so : added ≡ written_by event ∷ more
  pub agrees : AgreesStanding ((es ++ event ∷ []) ++ told more) p

started : (s : Start) (n : ℕ) → AgreesState (starts n s ∷ []) (state_at_start s)
unfolding time made port_offset hardware openings calls marks live open_has_ended gathered brought_to try_marks_of
started s n = record {
  time = refl;
  opens = refl;
  offset = refl;
  mac_is = refl;
  identity_is = refl;
  each = tt;
  apart = tt;
  others = λ j away. refl;
  unopened = λ j more. refl;
  unended = λ j more. refl;
  untold = λ j more. (refl, refl);
  unstreamed = λ j more. (refl, refl);
}

-- a text that is to run
text_still : (depth : ℕ) (begins : Out) (refused : Option Cause) → AreStill (begins ∷ []) → AreStill (text_records depth begins refused)
text_still depth begins None still = still
text_still depth begins (Some cause) still = (still.0, (tt, tt))

text_agrees : (es : List Event) (s : State) (new : Running) (outer : List Running) (refused : Option Cause) → AgreesState es s → AgreesStanding es (text_standing s new outer refused)
text_agrees es s new outer None a = a
text_agrees es s new outer (Some cause) a = a

script_agrees : (es : List Event) (s : State) (inner : Running) (outer : List Running) (image : ScriptImage) (replaces : Bool) (put : List Out) (p : Standing) → ScriptLeads s inner outer image replaces put p → AgreesState es s → AgreesStanding (es ++ told put) p
script_agrees es s inner outer image false put p (puts_so, is) a =
    let refused = text_refusal (script_reading image.text) in
    subst (AgreesStanding (es ++ told put)) (sym is) (text_agrees (es ++ told put) s _ (inner ∷ outer) refused
    (subst (λ z. AgreesState (es ++ told z) s) (sym puts_so) (still_state es (text_records (inner.depth + 1) (enter (inner.depth + 1)) refused) s (text_still (inner.depth + 1) (enter (inner.depth + 1)) refused (tt, tt)) a)))
script_agrees es s inner outer image true put p (puts_so, is) a =
    let refused = text_refusal (script_reading image.text) in
    subst (AgreesStanding (es ++ told put)) (sym is) (text_agrees (es ++ told put) s _ outer refused
    (subst (λ z. AgreesState (es ++ told z) s) (sym puts_so) (still_state es (text_records inner.depth (replace inner.depth) refused) s (text_still inner.depth (replace inner.depth) refused (tt, tt)) a)))

with_list : (es : List Event) (s : State) (list : ImageList) → AgreesState es s → AgreesState es (with_images s list)
with_list es s list a = as_state es s (with_images s list) (record { now = refl; opens = refl; offset = refl; mac = refl; identity = refl }) refl a

pub conclusion_agrees : (es : List Event) (s : State) (inner : Running) (outer : List Running) (c : Conclusion) (put : List Out) (p : Standing) → ConclusionLeads s inner outer c put p → AgreesState es s → AgreesStanding (es ++ told put) p
conclusion_agrees es s inner outer (keeps list) put p (none, is) a = subst (AgreesStanding (es ++ told put)) (sym is) (as_state (es ++ told put) s (with_images s list) (record { now = refl; opens = refl; offset = refl; mac = refl; identity = refl }) refl (subst (λ z. AgreesState (es ++ told z) s) (sym none) (subst (λ z. AgreesState z s) (sym (append-nil es)) a)))
conclusion_agrees es s inner outer (tells list lines) put p (none, is) a = subst (AgreesStanding (es ++ told put)) (sym is) (with_list (es ++ told put) s list (subst (λ z. AgreesState (es ++ told z) s) (sym none) (subst (λ z. AgreesState z s) (sym (append-nil es)) a)))
conclusion_agrees es s inner outer (runs_script list image replaces) put p leads a = script_agrees es (with_images s list) inner outer image replaces put p leads (with_list es s list a)
conclusion_agrees es s inner outer (fails cause) put p (none, is) a = subst (AgreesStanding (es ++ told put)) (sym is) (subst (λ z. AgreesState (es ++ told z) s) (sym none) (subst (λ z. AgreesState z s) (sym (append-nil es)) a))
conclusion_agrees es s inner outer (boots list kernel) put p (over, all, is) a =
    subst (AgreesStanding (es ++ told put)) (sym is)
    (as_state (es ++ told put) (with_live s []) (with_live (with_images s list) []) (record { now = refl; opens = refl; offset = refl; mac = refl; identity = refl }) refl (close_agrees es s stopped_cause put [] over a all), still_handoff kernel list.images (boot_table s), silent_handoff kernel list.images (boot_table s))

pub told_two : (es : List Event) (a b : List Out) → (es ++ told a) ++ told b ≡ es ++ told (a ++ b)
told_two es a b = append_assoc es (told a) (told b) ∙ ap (λ z. es ++ z) (sym (map-append puts a b))

-- a drive is asked for its first block, and the command waits for it, or has its cause
reads_agrees : (es : List Event) (s : State) (inner : Running) (outer : List Running) (number : ℕ) (d : Option Drive) (put : List Out) (p : Standing) → ReadsBlock s inner outer number d put p → AgreesState es s → AgreesStanding (es ++ told put) p
reads_agrees es s inner outer number d put p r a =
    subst (AgreesStanding (es ++ told put)) (sym r.stands_so) (subst (λ z. AgreesStanding z (block_standing r.next inner outer number d r.over)) (told_two es r.asked (block_lost r.over) ∙ ap (λ z. es ++ told z) (sym r.all)) (by r.over))
  where
    asked : AgreesState (es ++ told r.asked) r.next
    asked = asks_agrees es s r.next number r.asked r.over r.asks a

    by : (over : List Over) → AgreesStanding ((es ++ told r.asked) ++ told (block_lost over)) (block_standing r.next inner outer number d over)
    by [] = still_state (es ++ told r.asked) [] r.next tt asked
    by (o ∷ over) = still_state (es ++ told r.asked) (result o.cause ∷ []) r.next (tt, tt) asked

same_booted : (s : State) (d : Option Drive) → SameStart (with_live s []) (with_live (course.with_booted s d) [])
same_booted s None = record { now = refl; opens = refl; offset = refl; mac = refl; identity = refl }
same_booted s (Some d) = record { now = refl; opens = refl; offset = refl; mac = refl; identity = refl }

upshot_agrees : (es : List Event) (s : State) (inner : Running) (outer : List Running) (u : Upshot) (put : List Out) (p : Standing) → LeadsTo s inner outer u put p → AgreesState es s → AgreesStanding ((es ++ told (upshot_records u)) ++ told put) p
upshot_agrees es s inner outer (concludes c) put p leads a = conclusion_agrees (es ++ told (conclusion_records c)) s inner outer c put p leads (still_state es (conclusion_records c) s (still_conclusion c) a)
upshot_agrees es s inner outer (settles x) put p (none, is) a =
    let es1 = es ++ told (result x.cause ∷ []) in
    subst (AgreesStanding (es1 ++ told put)) (sym is) (as_state (es1 ++ told put) s (with_settings s x.table s.up) (keeps_with s x.table s.up).same refl
    (subst (λ z. AgreesState (es1 ++ told z) s) (sym none) (subst (λ z. AgreesState z s) (sym (append-nil es1)) (still_state es (result x.cause ∷ []) s (tt, tt) a))))
upshot_agrees es s inner outer (hooks_drive d) put p (none, is) a =
    let es1 = es ++ told (result ok ∷ []) in
    subst (AgreesStanding (es1 ++ told put)) (sym is) (as_state (es1 ++ told put) s (with_drive s d) (record { now = refl; opens = refl; offset = refl; mac = refl; identity = refl }) refl
    (subst (λ z. AgreesState (es1 ++ told z) s) (sym none) (subst (λ z. AgreesState z s) (sym (append-nil es1)) (still_state es (result ok ∷ []) s (tt, tt) a))))
upshot_agrees es s inner outer (reads_drive d) put p reads a = reads_agrees (es ++ told []) s inner outer d.open_number (Some d) put p reads (still_state es [] s tt a)
upshot_agrees es s inner outer (boots_drive_by d bytes) put p (over, all, is) a =
    let es1 = es ++ told (result ok ∷ []) in
    let table = boot_table (course.with_booted s d) in
    subst (AgreesStanding (es1 ++ told put)) (sym is)
    (as_state (es1 ++ told put) (with_live s []) (with_live (course.with_booted s d) []) (same_booted s d) refl (close_agrees es1 s stopped_cause put [] over (still_state es (result ok ∷ []) s (tt, tt) a) all), still_disk bytes table, silent_disk bytes table)
upshot_agrees es s inner outer (goes_onward next) put p (none, is) a =
    let es1 = es ++ told [] in
    subst (AgreesStanding (es1 ++ told put)) (sym is) (subst (λ z. AgreesState (es1 ++ told z) s) (sym none) (subst (λ z. AgreesState z s) (sym (append-nil es1)) (still_state es [] s tt a)))

off_state : (es : List Event) (n : ℕ) (s : State) (put : List Out) (over : List Over) → AgreesState es s → AllTake s.devices (close stopped_cause) s.live put [] over → AgreesState ((es ++ stops n ∷ []) ++ told put) (with_live s [])
off_state es n s put over a all =
    close_agrees (es ++ stops n ∷ []) s stopped_cause put [] over (nothing_came es (stops n) s tt tt a (λ j. (refl, refl)) refl) all

-- a record is used, and its step begins
pub step_told : (es : List Event) (m : Progress) (r : In) (added : List Out) (m2 : Progress) → StepBegins m r added m2 → AgreesStanding es m.standing → Begun es r added m2.standing
step_told es m r added m2 (course.runs n s code valid reads) a = record {
  event = starts (n + 1) s;
  more = enter 1 ∷ [];
  used = tt;
  is_record = refl;
  puts_so = refl;
  agrees = subst (λ (z : List Event). AgreesState ((z ++ starts (n + 1) s ∷ []) ++ told (enter 1 ∷ [])) (state_at_start s)) (sym a) (still_state (starts (n + 1) s ∷ []) (enter 1 ∷ []) (state_at_start s) (tt, tt) (started s (n + 1)));
}
step_told es m r added m2 (course.refuses n s cause valid refuses) a = record {
  event = starts (n + 1) s;
  more = enter 1 ∷ leave 1 cause ∷ [];
  used = tt;
  is_record = refl;
  puts_so = refl;
  agrees = subst (λ (z : List Event). AgreesState ((z ++ starts (n + 1) s ∷ []) ++ told (enter 1 ∷ leave 1 cause ∷ [])) (state_at_start s)) (sym a) (still_state (starts (n + 1) s ∷ []) (enter 1 ∷ leave 1 cause ∷ []) (state_at_start s) (tt, (tt, tt)) (started s (n + 1)));
}
step_told es m r added m2 (course.waits_on n s s2 w r0 put over valid net none) a =
    let u = network_agrees es s (n + 1) r put s2 over net a in
    record { event = u.event; more = put; used = u.used; is_record = u.is_record; puts_so = ap (λ z. z ∷ put) (sym u.is_step); agrees = u.agrees }
step_told es m r added m2 (course.is_answered n s s2 w r0 put more over x p valid net some leads) a =
    let u = network_agrees es s (n + 1) r put s2 over net a in
    let es1 = es ++ u.event ∷ [] in
    let c = upshot_records (concluded_by s2 w.script.depth w.job x) in
    record {
      event = u.event;
      more = put ++ c ++ more;
      used = u.used;
      is_record = u.is_record;
      puts_so = ap (λ z. z ∷ (put ++ c ++ more)) (sym u.is_step);
      agrees = subst (λ z. AgreesStanding z p) (ap (λ z. z ++ told more) (told_two es1 put c) ∙ told_two es1 (put ++ c) more) (upshot_agrees (es1 ++ told put) s2 (anew w.script) w.outer (concluded_by s2 w.script.depth w.job x) more p leads u.agrees);
    }
step_told es m r added m2 (course.switches_off n s w put over all) a =
    record { event = stops (n + 1); more = put; used = tt; is_record = refl; puts_so = refl; agrees = off_state es (n + 1) s put over a all }
step_told es m r added m2 (course.resumes n s s2 inner outer r0 put over valid net) a =
    let u = network_agrees es s (n + 1) r put s2 over net a in
    record { event = u.event; more = put; used = u.used; is_record = u.is_record; puts_so = ap (λ z. z ∷ put) (sym u.is_step); agrees = u.agrees }
step_told es m r added m2 (course.goes_off n s inner outer put over all) a =
    record { event = stops (n + 1); more = put; used = tt; is_record = refl; puts_so = refl; agrees = off_state es (n + 1) s put over a all }

-- the event of a step, and the records put in it
abbrev pub step_event : (es : List Event) (m : Progress) (r : In) (added : List Out) (m2 : Progress) → StepBegins m r added m2 → AgreesStanding es m.standing → Event
step_event es m r added m2 (course.runs n s code valid reads) a = starts (n + 1) s
step_event es m r added m2 (course.refuses n s cause valid refuses) a = starts (n + 1) s
step_event es m r added m2 (course.waits_on n s s2 w r0 put over valid net none) a = (network_agrees es s (n + 1) r put s2 over net a).event
step_event es m r added m2 (course.is_answered n s s2 w r0 put more over x p valid net some leads) a = (network_agrees es s (n + 1) r put s2 over net a).event
step_event es m r added m2 (course.switches_off n s w put over all) a = stops (n + 1)
step_event es m r added m2 (course.resumes n s s2 inner outer r0 put over valid net) a = (network_agrees es s (n + 1) r put s2 over net a).event
step_event es m r added m2 (course.goes_off n s inner outer put over all) a = stops (n + 1)

abbrev pub step_more : (m : Progress) (r : In) (added : List Out) (m2 : Progress) → StepBegins m r added m2 → List Out
step_more m r added m2 (course.runs n s code valid reads) = enter 1 ∷ []
step_more m r added m2 (course.refuses n s cause valid refuses) = enter 1 ∷ leave 1 cause ∷ []
step_more m r added m2 (course.waits_on n s s2 w r0 put over valid net none) = put
step_more m r added m2 (course.is_answered n s s2 w r0 put more over x p valid net some leads) = put ++ upshot_records (concluded_by s2 w.script.depth w.job x) ++ more
step_more m r added m2 (course.switches_off n s w put over all) = put
step_more m r added m2 (course.resumes n s s2 inner outer r0 put over valid net) = put
step_more m r added m2 (course.goes_off n s inner outer put over all) = put

pub step_event_is : (es : List Event) (m : Progress) (r : In) (added : List Out) (m2 : Progress) (begins : StepBegins m r added m2) (a : AgreesStanding es m.standing) → (step_told es m r added m2 begins a).event ≡ step_event es m r added m2 begins a
unfolding step_told
step_event_is es m r added m2 (course.runs n s code valid reads) a = refl
step_event_is es m r added m2 (course.refuses n s cause valid refuses) a = refl
step_event_is es m r added m2 (course.waits_on n s s2 w r0 put over valid net none) a = refl
step_event_is es m r added m2 (course.is_answered n s s2 w r0 put more over x p valid net some leads) a = refl
step_event_is es m r added m2 (course.switches_off n s w put over all) a = refl
step_event_is es m r added m2 (course.resumes n s s2 inner outer r0 put over valid net) a = refl
step_event_is es m r added m2 (course.goes_off n s inner outer put over all) a = refl

pub step_more_is : (es : List Event) (m : Progress) (r : In) (added : List Out) (m2 : Progress) (begins : StepBegins m r added m2) (a : AgreesStanding es m.standing) → (step_told es m r added m2 begins a).more ≡ step_more m r added m2 begins
unfolding step_told
step_more_is es m r added m2 (course.runs n s code valid reads) a = refl
step_more_is es m r added m2 (course.refuses n s cause valid refuses) a = refl
step_more_is es m r added m2 (course.waits_on n s s2 w r0 put over valid net none) a = refl
step_more_is es m r added m2 (course.is_answered n s s2 w r0 put more over x p valid net some leads) a = refl
step_more_is es m r added m2 (course.switches_off n s w put over all) a = refl
step_more_is es m r added m2 (course.resumes n s s2 inner outer r0 put over valid net) a = refl
step_more_is es m r added m2 (course.goes_off n s inner outer put over all) a = refl

-- all that lives is closed, the drives first
first_close : (es : List Event) (s : State) (put : List Out) (over : List Over) → AgreesState es s → AllTake s.devices (close course.down_cause) (course.drives_first s.drives s.live) put [] over → AgreesState (es ++ told put) (with_live s [])
first_close es s put over a all = some_close es s course.down_cause put (course.drives_first s.drives s.live) [] over a (splits_first es s s.drives a) all

-- a drive is closed, and its command is over
dropped_told : (es : List Event) (s s2 : State) (inner : Running) (ws : List (List ℕ)) (number : ℕ) (put : List Out) (cause : Cause) → course.DropsDrive s number put s2 → AgreesState es s →
    AgreesState (es ++ told (command_record inner (shown_words s.table ws) ∷ put ++ (result cause ∷ []))) s2
dropped_told es s s2 inner ws number put cause drops a =
    let b = command_record inner (shown_words s.table ws) ∷ [] in
    let a3 = still_state ((es ++ told b) ++ told put) (result cause ∷ []) s2 (tt, tt) (drop_agrees (es ++ told b) s s2 number put (still_state es b s (tt, tt) a) drops) in
    subst (λ z. AgreesState z s2) (ap (λ z. z ++ told (result cause ∷ [])) (told_two es b put) ∙ told_two es (b ++ put) (result cause ∷ [])) a3

-- a run goes on
pub move_told : (es : List Event) (m : Progress) (added : List Out) (m2 : Progress) → Proceeds m added m2 → AgreesStanding es m.standing → MayHook es m.standing → AgreesStanding (es ++ told added) m2.standing
move_told es m added m2 (course.passes n s inner next outer comes) a r = still_state es [] s tt a
move_told es m added m2 (course.is_left n s inner outer cause comes) a r = still_state es (leave inner.depth cause ∷ []) s (tt, tt) a
move_told es m added m2 (course.hands_back n s inner outer cause) a r = still_state es (result cause ∷ []) s (tt, tt) a
move_told es m added m2 (course.concludes_there n s inner outer c cs x put p comes few is leads) a r =
    let b = command_record inner (shown_words s.table (c ∷ cs)) ∷ conclusion_records x in
    subst (λ z. AgreesStanding z p) (told_two es b put) (conclusion_agrees (es ++ told b) s (entered inner) outer x put p leads (still_state es b s (tt, still_conclusion x) a))
move_told es m added m2 (course.yields n s inner outer c cs comes full) a r = still_state es [] s tt a
move_told es m added m2 (course.does n s s2 inner outer c cs x comes few is stays) a r =
    let b = command_records inner (shown_words s.table (c ∷ cs)) x in
    kept_state (es ++ told b) s s2 (ends_keep s s2 _ _ _ x is) (still_state es b s (still_command inner (shown_words s.table (c ∷ cs)) x) a)
move_told es m added m2 (course.closes_device n s s2 inner outer c cs put over comes few is all) a r =
    let b = command_record inner (shown_words s.table (c ∷ cs)) ∷ [] in
    let a2 = first_close (es ++ told b) s2 put over (kept_state (es ++ told b) s s2 (shuts_keep s s2 _ _ _ is) (still_state es b s (tt, tt) a)) all in
    let a3 = still_state ((es ++ told b) ++ told put) (result ok ∷ []) (with_live s2 []) (tt, tt) a2 in
    subst (λ z. AgreesState z (with_live s2 [])) (ap (λ z. z ++ told (result ok ∷ [])) (told_two es b put) ∙ told_two es (b ++ put) (result ok ∷ [])) a3
move_told es m added m2 (course.goes_to_hook n s s2 inner outer c cs hooking put next comes few is drops next_asked) a r =
    let b = command_record inner (shown_words s.table (c ∷ cs)) ∷ [] in
    subst (λ z. AgreesState z s2) (told_two es b put) (drop_agrees (es ++ told b) s s2 hooking.number put (still_state es b s (tt, tt) a) drops)
move_told es m added m2 (course.hooks_none n s s2 inner outer c cs hooking put cause comes few is drops next_asked) a r = dropped_told es s s2 inner (c ∷ cs) hooking.number put cause drops a
move_told es m added m2 (course.unhooks n s s2 inner outer c cs number put cause comes few is drops) a r = dropped_told es s s2 inner (c ∷ cs) number put cause drops a
move_told es m added m2 (course.boots_hooked n s inner outer c cs number d put p comes few is some reads) a r =
    let b = command_record inner (shown_words s.table (c ∷ cs)) ∷ [] in
    subst (λ z. AgreesStanding z p) (told_two es b put) (reads_agrees (es ++ told b) s (entered inner) outer d.open_number None put p reads (still_state es b s (tt, tt) a))
move_told es m added m2 (course.leaves n s s2 inner outer c cs x comes few is away) a r =
    let b = command_records inner (shown_words s.table (c ∷ cs)) x ++ (leave inner.depth x.cause ∷ []) in
    kept_state (es ++ told b) s s2 (ends_keep s s2 _ _ _ x is)
    (still_state es b s (more_still (command_records inner (shown_words s.table (c ∷ cs)) x) (leave inner.depth x.cause ∷ []) (still_command inner (shown_words s.table (c ∷ cs)) x) (tt, tt)) a)
move_told es m added m2 (course.jumps n s inner outer c cs name line comes few is there) a r =
    still_state es (command_records inner (shown_words s.table (c ∷ cs)) (refused ok)) s (still_command inner (shown_words s.table (c ∷ cs)) (refused ok)) a
move_told es m added m2 (course.finds_no_label n s inner outer c cs name comes few is none) a r =
    still_state es (command_records inner (shown_words s.table (c ∷ cs)) (refused no_label)) s (still_command inner (shown_words s.table (c ∷ cs)) (refused no_label)) a
move_told es m added m2 (course.falls_asleep n s inner outer c cs t comes few is) a r = still_state es (command_record inner (shown_words s.table (c ∷ cs)) ∷ []) s (tt, tt) a
move_told es m added m2 (course.opens_one n s s2 inner outer c cs l job link put comes few is got first) a r =
    let b = command_record inner (shown_words s.table (c ∷ cs)) ∷ [] in
    let k = opens_next s s2 _ _ _ l job is in
    let f = begun_so link l put first in
    subst (λ z. AgreesState z (with_opened s2 l)) (told_two es b (open_record l ∷ put)) (opened_state (es ++ told b) s2 l put k.1 (opens_settings (es ++ told b) s s2 _ _ _ l job is) f.0 f.1 f.2 f.3 (kept_state (es ++ told b) s s2 k.0 (still_state es b s (tt, tt) a)))
move_told es m added m2 (course.finds_no_route n s s2 inner outer c cs l job link comes few is got none) a r =
    let b = command_record inner (shown_words s.table (c ∷ cs)) ∷ [] in
    let k = opens_next s s2 _ _ _ l job is in
    let es1 = es ++ told b in
    let two = open_record l ∷ end_record l (no_route l.server) ∷ [] in
    let last = conclusion_records (fails (no_route l.server)) in
    subst (λ z. AgreesState z (with_one_made s2)) (ap (λ z. z ++ told last) (told_two es b two) ∙ told_two es (b ++ two) last)
    (still_state (es1 ++ told two) last (with_one_made s2) (tt, tt) (failed_state es1 s2 l (no_route l.server) k.1 (kept_state es1 s s2 k.0 (still_state es b s (tt, tt) a))))
move_told es m added m2 (course.opens_onward n s inner outer next link put few got first) a r =
    let l = live_onward s next in
    let f = begun_so link l put first in
    opened_state es s l put (onward_so es s next r) (onward_settings es s next r) f.0 f.1 f.2 f.3 a
move_told es m added m2 (course.finds_no_way n s inner outer next link few got none) a r =
    let l = live_onward s next in
    let two = open_record l ∷ end_record l (no_route l.server) ∷ [] in
    let last = conclusion_records (fails (no_route l.server)) in
    subst (λ z. AgreesState z (with_one_made s)) (told_two es two last) (still_state (es ++ told two) last (with_one_made s) (tt, tt) (failed_state es s l (no_route l.server) (onward_so es s next r) a))
move_told es m added m2 (course.opens_no_more n s inner outer next full) a r = still_state es (result full_opens ∷ []) s (tt, tt) a
move_told es m added m2 (course.hands n s o rest) a r = (still_state es (o ∷ []) s (a.1.0, tt) a.0, a.1.1, a.2.1)
move_told es m added m2 (course.has_handed n s) a r = still_state es [] s tt a.0

-- records are written
pub writes_more : (outs : List Out) (es : List Event) (more : List Out) → outs ≡ outputs es → outs ++ more ≡ outputs (es ++ told more)
writes_more outs es more o = ap (λ z. z ++ more) o ∙ sym (flat_map-append put_one es (told more) ∙ ap (λ z. outputs es ++ z) (put_all more))

pub uses_none : (ins : List In) (es : List Event) (more : List Out) → ins ≡ inputs es → ins ≡ inputs (es ++ told more)
uses_none ins es more i = i ∙ sym (flat_map-append used_by es (told more) ∙ ap (λ z. inputs es ++ z) (used_none more) ∙ append-nil (inputs es))

-- a record is used
pub uses_one : (ins : List In) (es : List Event) (e : Event) (r : In) → ins ≡ inputs es → used_by e ≡ r ∷ [] → ins ++ r ∷ [] ≡ inputs (es ++ e ∷ [])
uses_one ins es e r i is = ap (λ z. z ++ r ∷ []) i ∙ sym (flat_map-append used_by es (e ∷ []) ∙ ap (λ z. inputs es ++ (z ++ [])) is)

pub writes_one : (outs : List Out) (es : List Event) (e : Event) (added more : List Out) → outs ≡ outputs es → added ≡ written_by e ∷ more → outs ++ added ≡ outputs ((es ++ e ∷ []) ++ told more)
writes_one outs es e added more o is =
    ap (λ z. outs ++ z) is ∙ sym (append_assoc outs (written_by e ∷ []) more)
    ∙ writes_more (outs ++ written_by e ∷ []) (es ++ e ∷ []) more (ap (λ z. z ++ written_by e ∷ []) o ∙ sym (flat_map-append put_one es (e ∷ [])))

-- A run goes on: the records that it puts have their reasons.
use Rattle.std.proofs.Common.{◌≡◌, ℕ, ◌+◌, true, false, List, [], ◌∷◌, ◌++◌, Option, Some, None, refl, sym, ◌∙◌, ap, subst, map, append_assoc, Bool, cond, ◌||◌, ◌==◌}
use Rattle.std.specs.Prelude.{slice_get, filter}
use Rattle.std.specs.List.{AllByRecursion, list_any}
use Rattle.std.proofs.lemmas.Bool.{eqb-true}
use Rattle.nb_defs.specs.Causes.{ok}
use Rattle.nb_defs.specs.Commands.{CommandOutcome, refused}
use Rattle.nb_defs.specs.Records.{In, Out, step, sent, text, result, ended, enter, leave}
use Rattle.nb_terms.specs.declared.cause.Cause.{Cause}
use Rattle.nb_defs.specs.ScriptLines.{script_reading}
use Rattle.nb_image.specs.Images.{ImageList}
use Rattle.nb_scripts.specs.Records.{replace}
use Rattle.nb_machine.specs.FirstText.{text_refusal}
use Rattle.nb_streams.proofs.FlowLaws.{all_append}
use Rattle.nb_stack.specs.Client.{Client}
use Rattle.nb_machine.specs.Conclusions.{Conclusion, keeps, tells, fails, boots, runs_script, conclusion_records}
use Rattle.nb_machine.specs.Effects.{shuts_device, ShownWords, shown_words, full_opens, Effect, hooks_disk, unhooks_drive, up_after}
use Rattle.nb_machine.specs.Running.{Running, entered, no_label}
use Rattle.nb_machine.specs.CommandRecords.{prints, command_record, command_records, no_route, stopped_cause}
use Rattle.nb_machine.specs.Lives.{close, Live, open_record, end_record}
use Rattle.nb_machine.specs.States.{State, following, has_open}
use Rattle.nb_machine.specs.Takings.{Over, AllTake}
use Rattle.nb_machine.specs.Scripts.{Job, opens, shuts, live_onward, doing, boots_one}
use Rattle.nb_machine.specs.Courses as course
use Rattle.nb_machine.specs.Courses.{Standing, Progress, text_records, ConclusionLeads, Proceeds, down_cause}
use Rattle.nb_machine.specs.Kinds.{Keeps}
use Rattle.nb_laws.specs.Events.{Event, puts, EachEvent}
use Rattle.nb_laws.specs.Histories.{client}
use Rattle.nb_laws.specs.CommandsSoFar.{CommandsSoFar, so_far, conclusion_so_far, ComesTo, booted_in}
use Rattle.nb_laws.specs.Lists.{last_end, made}
use Rattle.nb_laws.specs.Progress.{IsAdvanced}
use Rattle.nb_laws.specs.Silence.{IsSilent}
use Rattle.nb_laws.specs.Agreement.{IsStill, AreStill}
use Rattle.nb_laws.proofs.Asides.{still_command, still_conclusion}
use Rattle.nb_laws.proofs.Tellings.{told, still_advances, still_tries, still_advanced}
use Rattle.nb_openlaws.specs.Standings.{AgreesState, AgreesDevice, AgreesLive}
use Rattle.nb_laws.specs.Endings.{ClosesToBoot, closes_down, closes_booted}
use Rattle.nb_openlaws.specs.OpenEndings.{OpensEndSo, FramesSo, by_device, by_hand_off}
use Rattle.nb_openlaws.specs.OpenReasons.{OpensAgree, OpenReasons}
use Rattle.nb_openlaws.proofs.OpenStates.{still_state}
use Rattle.nb_openlaws.proofs.Courses.{kept_state, opens_next, shuts_keep}
use Rattle.nb_openlaws.proofs.Sendings.{no_reasons, reasons_then}
use Rattle.nb_openlaws.proofs.Doings.{comes_to, shuts_by, opens_by, hooks_by, lets_by, up_stays}
use Rattle.nb_openlaws.proofs.KeptOpens.{AreKept, KeptAt}
use Rattle.nb_openlaws.proofs.Closings.{EndsFor, closes_reasons, LetsGoFor, IsDrives, AreLetGo, let_go_reasons}
use Rattle.nb_openlaws.proofs.FirstReasons.{Opens, begins_reasons, lost_reasons}
use Rattle.nb_openlaws.proofs.NextOpens.{opens_settings, onward_so, onward_settings}
use Rattle.nb_openlaws.proofs.LiveParts.{all_first, own_first, own_taken, all_filter}
use Rattle.nb_lawful.specs.ScriptAgreement.{SettingsAre, ScriptsAgree, IsDriveOf, WasHooked, HasDrives}
use Rattle.nb_laws.proofs.SoFar.{begins_so_far}
use Rattle.nb_laws.specs.Hookings.{NamesDrive, by_hooking, by_unhook, is_on_open}
use Rattle.nb_lawful.proofs.Quiet.{ends_alone, ends_quiet, quiet_so_far}
use Rattle.nb_lawful.proofs.Begun.{has_begun_comes, begun_silently, begun_closing, settings_begun, asks_nothing}
use Rattle.nb_lawful.proofs.Opening.{begins_by}
use Rattle.nb_lawful.proofs.Leading.{Concluding, BootsBy, boots_by}
use Rattle.nb_lawful.proofs.Shuts.{shuts_keeps_table}
use Rattle.nb_lawful.proofs.There.{there_boots}
use Rattle.nb_lawful.proofs.Scripted.{based}
use Rattle.nb_lawful.proofs.DriveBoots.{boots_asked}
use Rattle.nb_lawful.proofs.Plain.{ArePlain}
use Rattle.nb_lawful.proofs.Devices.{device_moves, device_stays, opens_device}
use Rattle.nb_lawful.proofs.OpenWays.{head_is}
use Rattle.nb_lawful.proofs.Runs.{Story}
use Rattle.nb_lawful.proofs.HookedLives.{lives_so, all_map, some_drives}
use Rattle.nb_lawful.proofs.Onward.{next_rightly}
use Rattle.nb_drivecmd.specs.declared.drive.Drive.{Drive}
use Rattle.nb_drivecmd.specs.HookedDrives.{is_drive, drive_numbered}
use Rattle.nb_tftp.proofs.BlockLemmas.{either_way}
use Rattle.nb_openlaws.specs.Sessions.{AgreesSession, SessionsAgree}
use Rattle.nb_openlaws.proofs.SessionSteps.{still_sessions}

-- RECORDS THAT TELL NOTHING OF AN OPEN

-- no FRAME
abbrev pub IsUnsent : Out → Type 0
IsUnsent (sent bytes) = ⊥
IsUnsent (step number) = Unit {0}
IsUnsent _ = Unit {0}

abbrev pub AreUnsent : List Out → Type 0
AreUnsent outs = AllByRecursion IsUnsent outs

ends_one : (before : List Event) (o : Out) → IsStill o → OpensEndSo before (puts o)
ends_one before (ended number cause) h = absurd h
ends_one before (step number) h = tt
ends_one before _ h = tt

frames_one : (before : List Event) (o : Out) → IsUnsent o → FramesSo before (puts o)
frames_one before (sent bytes) h = absurd h
frames_one before (step number) h = tt
frames_one before _ h = tt

ends_all : (es : List Event) (outs : List Out) → AreStill outs → EachEvent OpensEndSo es (told outs)
ends_all es [] h = tt
ends_all es (o ∷ outs) h = (ends_one es o h.0, ends_all (es ++ puts o ∷ []) outs h.1)

frames_all : (es : List Event) (outs : List Out) → AreUnsent outs → EachEvent FramesSo es (told outs)
frames_all es [] h = tt
frames_all es (o ∷ outs) h = (frames_one es o h.0, frames_all (es ++ puts o ∷ []) outs h.1)

pub still_reasons : (es : List Event) (outs : List Out) → AreStill outs → AreUnsent outs → IsAdvanced es → OpenReasons es outs
still_reasons es outs still unsent a = record { ends = ends_all es outs still; frames = frames_all es outs unsent; advances = still_advances es outs still a; tries = still_tries es outs still; after = still_advanced es outs still a }

unsent_command : (inner : Running) (shown : ShownWords) (o : CommandOutcome) → AreUnsent (command_records inner shown o)
unsent_command inner shown o = by o.prints
  where
    by : (p : Option (List ℕ)) → AreUnsent ((command_record inner shown ∷ []) ++ prints p ++ (result o.cause ∷ []))
    by None = (tt, (tt, tt))
    by (Some bytes) = (tt, (tt, (tt, tt)))

unsent_silent : (o : Out) → IsSilent o → IsUnsent o
unsent_silent (sent bytes) h = absurd h
unsent_silent (step number) h = tt
unsent_silent _ h = tt

command_reasons : (es : List Event) (inner : Running) (shown : ShownWords) (o : CommandOutcome) → IsAdvanced es → OpenReasons es (command_records inner shown o)
command_reasons es inner shown o a = still_reasons es (command_records inner shown o) (still_command inner shown o) (unsent_command inner shown o) a

-- A COMMAND CONCLUDES

unsent_texts : (lines : List (List ℕ)) → AreUnsent (map text lines)
unsent_texts [] = tt
unsent_texts (line ∷ lines) = (tt, unsent_texts lines)

pub unsent_conclusion : (c : Conclusion) → AreUnsent (conclusion_records c)
unsent_conclusion (keeps list) = (tt, tt)
unsent_conclusion (tells list lines) = all_append IsUnsent (map text lines) (result ok ∷ []) (unsent_texts lines) (tt, tt)
unsent_conclusion (fails cause) = (tt, tt)
unsent_conclusion (boots list kernel) = (tt, tt)
unsent_conclusion (runs_script list image true) = (tt, tt)
unsent_conclusion (runs_script list image false) = tt

-- all that lives is closed before a hand-off
hand_off_ends : (es : List Event) (list : ImageList) (kernel : ℕ) → conclusion_so_far (last_end es) es (so_far es) ≡ Some (boots list kernel) → EndsFor stopped_cause (es ++ puts (result ok) ∷ [])
hand_off_ends es list kernel booted = λ ends all.
    let so : ClosesToBoot ((es ++ puts (result ok) ∷ []) ++ told ends) =
    record { before = es; since = ends; ends = append_assoc es (puts (result ok) ∷ []) (told ends); behind = ends_alone stopped_cause ends all; list = list; kernel = kernel; boots = booted } in
    (λ k. by_hand_off refl so, closes_booted so)

text_reasons : (es : List Event) (depth : ℕ) (o : Out) (refused : Option Cause) → AreStill (o ∷ []) → AreUnsent (o ∷ []) → IsAdvanced es → OpenReasons es (text_records depth o refused)
text_reasons es depth o None still unsent adv = still_reasons es (o ∷ []) still unsent adv
text_reasons es depth o (Some cause) still unsent adv = still_reasons es (o ∷ leave depth cause ∷ []) (still.0, (tt, tt)) (unsent.0, (tt, tt)) adv

pub conclusion_reasons : (es : List Event) (s : State) (inner : Running) (outer : List Running) (c : Conclusion) (more : List Out) (p : Standing) → ConclusionLeads s inner outer c more p → AgreesState es s → AgreesDevice es s → AreKept s.live →
    IsAdvanced (es ++ told (conclusion_records c)) → ((list : ImageList) (kernel : ℕ) → c ≡ boots list kernel → BootsBy es s list kernel) → OpenReasons (es ++ told (conclusion_records c)) more
conclusion_reasons es s inner outer (keeps list) more p (none, is) a d k adv booted = subst (OpenReasons (es ++ told (result ok ∷ []))) (sym none) (no_reasons (es ++ told (result ok ∷ [])) adv)
conclusion_reasons es s inner outer (tells list lines) more p (none, is) a d k adv booted =
    subst (OpenReasons (es ++ told (conclusion_records (tells list lines)))) (sym none) (no_reasons (es ++ told (conclusion_records (tells list lines))) adv)
conclusion_reasons es s inner outer (fails cause) more p (none, is) a d k adv booted = subst (OpenReasons (es ++ told (result cause ∷ []))) (sym none) (no_reasons (es ++ told (result cause ∷ [])) adv)
conclusion_reasons es s inner outer (boots list kernel) more p (over, all, is) a d k adv booted =
    let b = still_state es (result ok ∷ []) s (tt, tt) a in
    let so = booted list kernel refl in
    let device : AgreesDevice (es ++ told (result ok ∷ [])) s = device_stays es (result ok ∷ []) s s refl refl refl d so.settings so.ended_so in
    closes_reasons s.devices stopped_cause s.live more [] over all refl (es ++ told (result ok ∷ [])) device b.each b.apart k adv (hand_off_ends es list kernel so.is_so) (still_sessions es (result ok ∷ []) s.live (tt, tt) ((λ j. refl), tt) so.sessions)
conclusion_reasons es s inner outer (runs_script list image true) more p (puts_so, is) a d k adv booted =
    subst (OpenReasons (es ++ told (result ok ∷ []))) (sym puts_so) (text_reasons (es ++ told (result ok ∷ [])) inner.depth (replace inner.depth) (text_refusal (script_reading image.text)) (tt, tt) (tt, tt) adv)
conclusion_reasons es s inner outer (runs_script list image false) more p (puts_so, is) a d k adv booted =
    subst (OpenReasons (es ++ told [])) (sym puts_so) (text_reasons (es ++ told []) (inner.depth + 1) (enter (inner.depth + 1)) (text_refusal (script_reading image.text)) (tt, tt) (tt, tt) adv)

-- A COMMAND MAKES AN OPEN

-- its open, after COMMAND
command_opens : (es : List Event) (outs : List Out) (s s2 : State) (inner : Running) (outer : List Running) (ws : List (List ℕ)) (l : Live) (job : Job) (link : Client) → AgreesState es s → AgreesDevice es s → ScriptsAgree es outs (course.running s inner outer) →
    doing s inner ws ≡ opens s2 l job → slice_get s2.devices l.device ≡ Some link → IsAdvanced es → Opens (es ++ told (command_record inner (shown_words s.table ws) ∷ [])) s2 l link
command_opens es outs s s2 inner outer ws l job link a d h is got adv =
    let b = command_record inner (shown_words s.table ws) ∷ [] in
    let es1 = es ++ told b in
    let by = opens_by s inner ws s2 l job is in
    let k = begins_by es outs s s2 inner outer ws l job (based es s a) (lives_so es s a h.2.drives) h by in
    let n = opens_next s s2 _ _ _ l job is in
    let device : AgreesDevice es1 s2 = opens_device es b s s2 s2 ws l job _ true by refl refl refl d h.1 k.under_way.settings in
    record {
      next = n.1;
      settings = opens_settings es1 s s2 _ _ _ l job is;
      base = kept_state es1 s s2 n.0 (still_state es b s (tt, tt) a);
      client_is = head_is (client es1) link s2.devices l.device device n.1.device_is got;
      advanced = still_advanced es b (tt, tt) adv;
    }

-- `ifclose`
device_ends : (es : List Event) (s : State) (inner : Running) (outs : List Out) (outer : List Running) (ws : List (List ℕ)) → AgreesState es s → ScriptsAgree es outs (course.running s inner outer) → comes_to s inner ws ≡ shuts_device →
    EndsFor down_cause (es ++ told (command_record inner (shown_words s.table ws) ∷ []))
device_ends es s inner outs outer ws a h e = λ ends all.
    let es1 = es ++ told (command_record inner (shown_words s.table ws) ∷ []) in
    let first = begun_silently es outs s inner outer ws a.opens (lives_so es s a h.2.drives) h in
    let b = begun_closing es1 s inner ws down_cause ends refl all first in
    let still = ap (λ (x : CommandsSoFar). x.is_open) b.so_far_is in
    let comes = has_begun_comes (es1 ++ told ends) s inner ws shuts_device b e in
    (λ k. by_device refl still comes, closes_down still comes)

shuts_reasons : (es : List Event) (outs : List Out) (s s2 : State) (inner : Running) (outer : List Running) (ws : List (List ℕ)) (put : List Out) (over : List Over) → AgreesState es s → AgreesDevice es s →
    ScriptsAgree es outs (course.running s inner outer) → AreKept s.live → SessionsAgree es s.live →
    doing s inner ws ≡ shuts s2 → AllTake s2.devices (close down_cause) (course.drives_first s2.drives s2.live) put [] over → IsAdvanced es → OpenReasons es (command_record inner (shown_words s.table ws) ∷ put ++ (result ok ∷ []))
shuts_reasons es outs s s2 inner outer ws put over a device h kept w is all adv =
    let b = command_record inner (shown_words s.table ws) ∷ [] in
    let es1 = es ++ told b in
    let d = shuts_by s inner ws s2 is in
    let settings : SettingsAre (so_far es1) s2 true =
    settings_begun es s s2 ws (begins_so_far es inner (shown_words s.table ws)) (ap (λ (z : State). z.table) d.1 ∙ shuts_keeps_table s inner ws d.0) (sym (ap (λ (z : State). z.up) d.1)) (ap (λ (z : State). z.now) d.1) h.1 in
    let moved : AgreesDevice es1 s2 = device_moves es b s s2 true (ap (λ (z : State). z.devices) d.1 ∙ ap (λ (z : State). following z.table z.up s.devices) (sym d.1)) device settings in
    let base : AgreesState es1 s2 = kept_state es1 s s2 (shuts_keep s s2 _ _ _ is) (still_state es b s (tt, tt) a) in
    let first = still_reasons es b (tt, tt) (tt, tt) adv in
    let closes = closes_reasons s2.devices down_cause (course.drives_first s2.drives s2.live) put [] over all refl es1 moved (all_first (AgreesLive es1) s2.drives s2.live base.each) (own_first s2.drives s2.live base.apart)
    (all_first Keeps s2.drives s2.live (subst (λ (z : State). AreKept z.live) (sym d.1) kept)) first.after (device_ends es s inner outs outer ws a h d.0)
    (all_first (AgreesSession es1) s2.drives s2.live (subst (λ (z : State). SessionsAgree es1 z.live) (sym d.1)
    (still_sessions es b s.live (tt, tt) (asks_nothing es s inner ws shuts_device (begun_silently es outs s inner outer ws a.opens (lives_so es s a h.2.drives) h) d.0 refl, tt) w))) in
    let last = still_reasons (es1 ++ told put) (result ok ∷ []) (tt, tt) (tt, tt) closes.after in
    reasons_then es b (put ++ (result ok ∷ [])) first (reasons_then es1 put (result ok ∷ []) closes last)

-- A DRIVE IS LET GO

one_let_go : (es : List Event) (l : Live) (ls : List Live) (b : Bool) → (b ≡ true → IsDrives l × LetsGoFor l.number es) → AreLetGo es ls → AreLetGo es (cond b (l ∷ ls) ls)
one_let_go es l ls true it h = (it refl, h)
one_let_go es l ls false it h = h

-- what lives and is a drive's
drives_of : (es : List Event) (s : State) (inner : Running) (ws : List (List ℕ)) (number : ℕ) (ds : List Drive) (f : Live → Bool) (ls : List Live) → ((l : Live) → f l ≡ true → LetsGoFor l.number es) →
    AllByRecursion (λ l. f l ≡ true → IsDrives l) ls → AreLetGo es (filter f ls)
drives_of es s inner ws number ds f [] why kinds = tt
drives_of es s inner ws number ds f (l ∷ ls) why kinds = one_let_go es l (filter f ls) (f l) (λ is. (kinds.0 is, why l is)) (drives_of es s inner ws number ds f ls why kinds.1)

transposed : (ds : List Drive) (ls : List Live) → AllByRecursion (λ d. AllByRecursion (IsDriveOf d) ls) ds → AllByRecursion (λ l. AllByRecursion (λ d. IsDriveOf d l) ds) ls
transposed ds [] h = tt
transposed ds (l ∷ ls) h = (
  all_map (λ d. AllByRecursion (IsDriveOf d) (l ∷ ls)) (λ d. IsDriveOf d l) ds (λ d x. x.0) h,
  transposed ds ls (all_map (λ d. AllByRecursion (IsDriveOf d) (l ∷ ls)) (λ d. AllByRecursion (IsDriveOf d) ls) ds (λ d x. x.1) h),
)

any_drive : (l : Live) (ds : List Drive) → AllByRecursion (λ d. IsDriveOf d l) ds → list_any (λ (d : Drive). d.open_number == l.number) ds ≡ true → IsDrives l
any_drive l [] h some = absurd (let clash : false ≡ true = some in cc clash)
any_drive l (d ∷ ds) h some = either_way (d.open_number == l.number) (λ is. h.0 (sym (eqb-true d.open_number l.number is))) (λ other. any_drive l ds h.1 (later (d.open_number == l.number) other some))
  where
    later : (b : Bool) {c : Bool} → b ≡ false → (b || c) ≡ true → c ≡ true
    later true {c} e g = absurd (let clash : true ≡ false = e in cc clash)
    later false {c} e g = g

-- each of these is a drive's
own_drives_are : (s : State) (m : CommandsSoFar) (number : ℕ) → HasDrives m s → AllByRecursion (λ l. course.is_drives_own (filter (is_drive number) s.drives) l ≡ true → IsDrives l) s.live
own_drives_are s m number h =
    live_map (λ l. AllByRecursion (λ d. IsDriveOf d l) m.hooked) (λ l. course.is_drives_own (filter (is_drive number) s.drives) l ≡ true → IsDrives l) s.live
    (λ l all some. any_drive l (filter (is_drive number) s.drives) (some_drives (λ d. IsDriveOf d l) (is_drive number) s.drives (subst (AllByRecursion (λ d. IsDriveOf d l)) (sym h.are) (some_drives (λ d. IsDriveOf d l) (has_open s.live) m.hooked all))) some)
    (transposed m.hooked s.live (all_map (WasHooked s) (λ d. AllByRecursion (IsDriveOf d) s.live) m.hooked (λ d w. w.is_drive) h.were))
  where
    live_map : (P Q : Live → Type 0) (xs : List Live) → ((x : Live) → P x → Q x) → AllByRecursion P xs → AllByRecursion Q xs
    live_map P Q xs so h = all_map P Q xs so h

-- COMMAND, and the close of the drive of a number
drops_reasons : (es : List Event) (outs : List Out) (s s2 : State) (inner : Running) (outer : List Running) (ws : List (List ℕ)) (e : Effect) (number : ℕ) (put : List Out) → AgreesState es s → SessionsAgree es s.live → booted_in e ≡ None →
    AgreesDevice es s → ScriptsAgree es outs (course.running s inner outer) →
    comes_to s inner ws ≡ e → up_after s.table s.up ws ≡ s.up → ((es2 : List Event) → ComesTo es2 (made es2) e → NamesDrive es2 number) → course.DropsDrive s number put s2 → IsAdvanced es → OpenReasons es (command_record inner (shown_words s.table ws) ∷ put)
drops_reasons es outs s s2 inner outer ws e number put a w unbooted device h comes up names drops adv =
    let b = command_record inner (shown_words s.table ws) ∷ [] in
    let es1 = es ++ told b in
    let lives = lives_so es s a h.2.drives in
    let begun = begins_so_far es inner (shown_words s.table ws) in
    let first = still_reasons es b (tt, tt) (tt, tt) adv in
    let base : AgreesState es1 s = still_state es b s (tt, tt) a in
    let moved : AgreesDevice es1 s = device_stays es b s s refl refl refl device h.1 (settings_begun es s s ws begun refl up refl h.1) in
    let f = course.is_drives_own (filter (is_drive number) s.drives) in
    let why : (l : Live) → f l ≡ true → LetsGoFor l.number es1 = λ l is closings all.
    (let es2 = es1 ++ told closings in
    let bc = begun_closing es1 s inner ws stopped_cause closings refl all (begun_silently es outs s inner outer ws a.opens lives h) in
    let so_is = quiet_so_far es1 closings (ends_quiet stopped_cause closings all) ∙ begun in
    record {
      still = ap (λ (x : CommandsSoFar). x.is_open) so_is;
      first = bc.none;
      number = number;
      names = names es2 (has_begun_comes es2 s inner ws e bc comes);
      hooked = ap (λ ds. list_any (is_on_open l.number) (filter (is_drive number) ds)) (ap (λ (x : CommandsSoFar). x.drives) so_is ∙ lives) ∙ is;
    }) in
    reasons_then es b put first
    (let_go_reasons s.devices (filter f s.live) put [] drops.over drops.closes es1 moved (all_filter (AgreesLive es1) f s.live base.each) (own_taken f s.live base.apart) first.after
    (drives_of es1 s inner ws number s.drives f s.live why (own_drives_are s (so_far es) number h.2.drives))
    (all_filter (AgreesSession es1) f s.live (still_sessions es b s.live (tt, tt) (asks_nothing es s inner ws e (begun_silently es outs s inner outer ws a.opens lives h) comes unbooted, tt) w)))

-- A DRIVE IS ASKED FOR ITS FIRST BLOCK

lost_still : (over : List Over) → AreStill (course.block_lost over)
lost_still [] = tt
lost_still (o ∷ over) = (tt, tt)

lost_unsent : (over : List Over) → AreUnsent (course.block_lost over)
lost_unsent [] = tt
lost_unsent (o ∷ over) = (tt, tt)

-- what it puts, and its command's RESULT, where it has ended by that
pub reads_reasons : (es : List Event) (s : State) (inner : Running) (outer : List Running) (number : ℕ) (d : Option Drive) (put : List Out) (p : Standing) (r : course.ReadsBlock s inner outer number d put p) → OpenReasons es r.asked → OpenReasons es put
reads_reasons es s inner outer number d put p r first =
    subst (OpenReasons es) (sym r.all) (reasons_then es r.asked (course.block_lost r.over) first (still_reasons (es ++ told r.asked) (course.block_lost r.over) (lost_still r.over) (lost_unsent r.over) first.after))

boots_reasons : (es : List Event) (outs : List Out) (s : State) (inner : Running) (outer : List Running) (ws : List (List ℕ)) (number : ℕ) (d : Drive) (put : List Out) (p : Standing) → OpensAgree es s → ArePlain es s.live →
    doing s inner ws ≡ boots_one number → drive_numbered number s.drives ≡ Some d → course.ReadsBlock s (entered inner) outer d.open_number None put p → ScriptsAgree es outs (course.running s inner outer) →
    OpenReasons es (command_record inner (shown_words s.table ws) ∷ put)
boots_reasons es outs s inner outer ws number d put p o plain is got r h =
    let b = command_record inner (shown_words s.table ws) ∷ [] in
    reasons_then es b put (still_reasons es b (tt, tt) (tt, tt) o.advanced) (reads_reasons (es ++ told b) s (entered inner) outer d.open_number None put p r (boots_asked es outs s inner outer ws number d o plain h is got r.asked r.next r.over r.asks))

-- EACH MOVE

pub move_reasons : (ins : List In) (outs : List Out) (es : List Event) (m : Progress) (added : List Out) (m2 : Progress) → Proceeds m added m2 → Story ins outs es m.standing → KeptAt m.standing → OpenReasons es added
move_reasons ins outs es m added m2 (course.passes n s inner next outer comes) t k = no_reasons es t.advanced
move_reasons ins outs es m added m2 (course.is_left n s inner outer cause comes) t k = still_reasons es (leave inner.depth cause ∷ []) (tt, tt) (tt, tt) t.advanced
move_reasons ins outs es m added m2 (course.hands_back n s inner outer cause) t k = still_reasons es (result cause ∷ []) (tt, tt) (tt, tt) t.advanced
move_reasons ins outs es m added m2 (course.concludes_there n s inner outer c cs x put p comes few is leads) t k =
    let command = command_record inner (shown_words s.table (c ∷ cs)) in
    let b = command ∷ [] in
    let es1 = es ++ told b in
    let first = still_reasons es b (tt, tt) (tt, tt) t.advanced in
    let second = still_reasons es1 (conclusion_records x) (still_conclusion x) (unsent_conclusion x) first.after in
    let there = there_boots es outs s inner outer (c ∷ cs) x t.base t.sessions t.base.opens (lives_so es s t.base t.scripts.2.drives) is t.scripts in
    let device : AgreesDevice es1 s = device_stays es b s s refl refl refl t.device t.scripts.1 there.settings in
    let third = conclusion_reasons es1 s (entered inner) outer x put p leads (still_state es b s (tt, tt) t.base) device k second.after
    (λ list kernel same. boots_by es1 (outs ++ b) s (entered inner) outer list kernel (subst (Concluding es1 (outs ++ b) s (entered inner) outer) same there)) in
    reasons_then es b (conclusion_records x ++ put) first (reasons_then es1 (conclusion_records x) put second third)
move_reasons ins outs es m added m2 (course.yields n s inner outer c cs comes full) t k = no_reasons es t.advanced
move_reasons ins outs es m added m2 (course.does n s s2 inner outer c cs x comes few is stays) t k = command_reasons es inner (shown_words s.table (c ∷ cs)) x t.advanced
move_reasons ins outs es m added m2 (course.closes_device n s s2 inner outer c cs put over comes few is all) t k = shuts_reasons es outs s s2 inner outer (c ∷ cs) put over t.base t.device t.scripts k t.sessions is all t.advanced
move_reasons ins outs es m added m2 (course.goes_to_hook n s s2 inner outer c cs hooking put next comes few is drops asks) t k =
    drops_reasons es outs s s2 inner outer (c ∷ cs) (hooks_disk hooking) hooking.number put t.base t.sessions refl t.device t.scripts (hooks_by s inner (c ∷ cs) hooking is)
    (up_stays s inner (hooks_disk hooking) (c ∷ cs) (hooks_by s inner (c ∷ cs) hooking is)) (λ e comes_so. by_hooking hooking comes_so refl) drops t.advanced
move_reasons ins outs es m added m2 (course.hooks_none n s s2 inner outer c cs hooking put cause comes few is drops asks) t k =
    let b = command_record inner (shown_words s.table (c ∷ cs)) ∷ put in
    let first =
    drops_reasons es outs s s2 inner outer (c ∷ cs) (hooks_disk hooking) hooking.number put t.base t.sessions refl t.device t.scripts (hooks_by s inner (c ∷ cs) hooking is)
    (up_stays s inner (hooks_disk hooking) (c ∷ cs) (hooks_by s inner (c ∷ cs) hooking is)) (λ e comes_so. by_hooking hooking comes_so refl) drops t.advanced in
    reasons_then es b (result cause ∷ []) first (still_reasons (es ++ told b) (result cause ∷ []) (tt, tt) (tt, tt) first.after)
move_reasons ins outs es m added m2 (course.unhooks n s s2 inner outer c cs number put cause comes few is drops) t k =
    let b = command_record inner (shown_words s.table (c ∷ cs)) ∷ put in
    let first =
    drops_reasons es outs s s2 inner outer (c ∷ cs) (unhooks_drive number cause) number put t.base t.sessions refl t.device t.scripts (lets_by s inner (c ∷ cs) number cause is)
    (up_stays s inner (unhooks_drive number cause) (c ∷ cs) (lets_by s inner (c ∷ cs) number cause is)) (λ e comes_so. by_unhook cause comes_so) drops t.advanced in
    reasons_then es b (result cause ∷ []) first (still_reasons (es ++ told b) (result cause ∷ []) (tt, tt) (tt, tt) first.after)
move_reasons ins outs es m added m2 (course.boots_hooked n s inner outer c cs number d put p comes few is got reads) t k =
    boots_reasons es outs s inner outer (c ∷ cs) number d put p (record { base = t.base; sessions = t.sessions; device = t.device; kept = k; ways = t.ways; advanced = t.advanced }) t.plain is got reads t.scripts
move_reasons ins outs es m added m2 (course.leaves n s s2 inner outer c cs x comes few is away) t k =
    let b = command_records inner (shown_words s.table (c ∷ cs)) x in
    let first = command_reasons es inner (shown_words s.table (c ∷ cs)) x t.advanced in
    reasons_then es b (leave inner.depth x.cause ∷ []) first (still_reasons (es ++ told b) (leave inner.depth x.cause ∷ []) (tt, tt) (tt, tt) first.after)
move_reasons ins outs es m added m2 (course.jumps n s inner outer c cs name line comes few is there) t k = command_reasons es inner (shown_words s.table (c ∷ cs)) (refused ok) t.advanced
move_reasons ins outs es m added m2 (course.finds_no_label n s inner outer c cs name comes few is none) t k = command_reasons es inner (shown_words s.table (c ∷ cs)) (refused no_label) t.advanced
move_reasons ins outs es m added m2 (course.falls_asleep n s inner outer c cs time comes few is) t k = still_reasons es (command_record inner (shown_words s.table (c ∷ cs)) ∷ []) (tt, tt) (tt, tt) t.advanced
move_reasons ins outs es m added m2 (course.opens_one n s s2 inner outer c cs l job link put comes few is got first) t k =
    let b = command_record inner (shown_words s.table (c ∷ cs)) ∷ [] in
    reasons_then es b (open_record l ∷ put) (still_reasons es b (tt, tt) (tt, tt) t.advanced)
    (begins_reasons (es ++ told b) s2 l link put (command_opens es outs s s2 inner outer (c ∷ cs) l job link t.base t.device t.scripts is got t.advanced) first)
move_reasons ins outs es m added m2 (course.finds_no_route n s s2 inner outer c cs l job link comes few is got none) t k =
    let b = command_record inner (shown_words s.table (c ∷ cs)) ∷ [] in
    let two = open_record l ∷ end_record l (no_route l.server) ∷ [] in
    let lost = lost_reasons (es ++ told b) s2 l link (command_opens es outs s s2 inner outer (c ∷ cs) l job link t.base t.device t.scripts is got t.advanced) none in
    reasons_then es b (two ++ conclusion_records (fails (no_route l.server))) (still_reasons es b (tt, tt) (tt, tt) t.advanced)
    (reasons_then (es ++ told b) two (result (no_route l.server) ∷ []) lost (still_reasons ((es ++ told b) ++ told two) (result (no_route l.server) ∷ []) (tt, tt) (tt, tt) lost.after))
move_reasons ins outs es m added m2 (course.opens_onward n s inner outer next link put few got first) t k =
    let l = live_onward s next in
    begins_reasons es s l link put (record { next = onward_so es s next (next_rightly es s next t.scripts.1.table t.scripts.4); settings = onward_settings es s next (next_rightly es s next t.scripts.1.table t.scripts.4); base = t.base; client_is = head_is (client es) link s.devices l.device t.device (onward_so es s next (next_rightly es s next t.scripts.1.table t.scripts.4)).device_is got; advanced = t.advanced }) first
move_reasons ins outs es m added m2 (course.finds_no_way n s inner outer next link few got none) t k =
    let l = live_onward s next in
    let two = open_record l ∷ end_record l (no_route l.server) ∷ [] in
    let lost = lost_reasons es s l link (record { next = onward_so es s next (next_rightly es s next t.scripts.1.table t.scripts.4); settings = onward_settings es s next (next_rightly es s next t.scripts.1.table t.scripts.4); base = t.base; client_is = head_is (client es) link s.devices l.device t.device (onward_so es s next (next_rightly es s next t.scripts.1.table t.scripts.4)).device_is got; advanced = t.advanced }) none in
    reasons_then es two (result (no_route l.server) ∷ []) lost (still_reasons (es ++ told two) (result (no_route l.server) ∷ []) (tt, tt) (tt, tt) lost.after)
move_reasons ins outs es m added m2 (course.opens_no_more n s inner outer next full) t k = still_reasons es (result full_opens ∷ []) (tt, tt) (tt, tt) t.advanced
move_reasons ins outs es m added m2 (course.hands n s r rest) t k = still_reasons es (r ∷ []) (t.base.1.0, tt) (unsent_silent r t.base.2.0, tt) t.advanced
move_reasons ins outs es m added m2 (course.has_handed n s) t k = no_reasons es t.advanced

-- A step: what its opens put has its reasons, and so have the records after it.
use Rattle.std.proofs.Common.{◌≡◌, ℕ, ◌+◌, true, false, List, [], ◌∷◌, ◌++◌, Some, refl, sym, ◌∙◌, ap, subst, append_assoc, append-nil, Option, None}
use Rattle.std.proofs.lemmas.List.Sums.{fold-append}
use Rattle.nb_defs.specs.Records.{In, Out, enter, leave, result}
use Rattle.nb_defs.specs.Causes.{ok}
use Rattle.nb_image.specs.Images.{ImageList}
use Rattle.nb_machine.specs.Conclusions.{boots}
use Rattle.nb_machine.specs.Running.{Running, anew}
use Rattle.nb_machine.specs.CommandRecords.{stopped_cause}
use Rattle.nb_machine.specs.Lives.{close, Live}
use Rattle.nb_machine.specs.States.{State}
use Rattle.nb_machine.specs.Takings.{Over, AllTake}
use Rattle.nb_machine.specs.Network.{Network}
use Rattle.nb_machine.specs.Scripts.{Answer, Waiting, answer_in, Upshot, concludes, settles, goes_onward, upshot_records, concluded_by, hooks_drive, reads_drive, boots_drive_by}
use Rattle.nb_machine.specs.Courses as course
use Rattle.nb_machine.specs.Courses.{Standing, Progress, LeadsTo, StepBegins}
use Rattle.nb_laws.specs.Events.{Event, starts, hears, waits, stops, puts}
use Rattle.nb_laws.specs.Endings.{off_by, is_off, by_stop, closes_off, ClosesToBootDisk, closes_booted_disk}
use Rattle.nb_laws.specs.Frames.{TriesSo}
use Rattle.nb_laws.specs.Progress.{AdvancesSo, IsAdvanced}
use Rattle.nb_laws.specs.Agreement.{AreStill}
use Rattle.nb_laws.proofs.Asides.{still_conclusion}
use Rattle.nb_laws.proofs.Histories.{client_stops}
use Rattle.nb_laws.proofs.Tellings.{told}
use Rattle.nb_openlaws.specs.Standings.{AreLive, AgreesState, AgreesDevice}
use Rattle.nb_openlaws.specs.OpenEndings.{OpensEndSo, FramesSo, by_itself, by_disk_off}
use Rattle.nb_openlaws.specs.OpenReasons.{HaveWays, OpensAgree, OpenReasons}
use Rattle.nb_openlaws.proofs.Takings.{grown}
use Rattle.nb_openlaws.proofs.UsedEvents.{IsUsed, used_same, made_used, hardware_used}
use Rattle.nb_openlaws.proofs.LiveStates.{all_same}
use Rattle.nb_openlaws.proofs.Networks.{network_agrees}
use Rattle.nb_openlaws.proofs.NetworkReasons.{start_advanced, off_advanced}
use Rattle.nb_openlaws.proofs.OpenReasons.{network_so}
use Rattle.nb_openlaws.proofs.Sendings.{no_reasons, reasons_then}
use Rattle.nb_openlaws.proofs.Courses.{step_event, step_more}
use Rattle.nb_openlaws.proofs.KeptOpens.{AreKept, KeptAt, network_kept}
use Rattle.nb_openlaws.proofs.Closings.{EndsFor, closes_reasons}
use Rattle.nb_lawful.specs.ScriptAgreement.{ScriptsAgree}
use Rattle.nb_lawful.proofs.Begun.{told_two}
use Rattle.nb_lawful.proofs.Scripted.{AnswersIn, AnswersAt, TellsIn, MayBoot, network_steps}
use Rattle.nb_lawful.proofs.MoveReasons.{AreUnsent, still_reasons, unsent_conclusion, conclusion_reasons, move_reasons, reads_reasons}
use Rattle.nb_lawful.proofs.Leading.{BootsBy}
use Rattle.nb_lawful.proofs.Booting.{step_boots, UpshotTells, step_tells}
use Rattle.nb_lawful.proofs.Runs.{Story, OpensGive, may_hook}
use Rattle.nb_lawful.proofs.DiskHanded.{BlockTells}
use Rattle.nb_drivecmd.specs.declared.drive.Drive.{Drive}
use Rattle.nb_openlaws.specs.Sessions.{SessionsAgree, SessionsStand}
use Rattle.nb_openlaws.proofs.SessionSteps.{still_sessions, used_session}
use Rattle.nb_openlaws.proofs.SessionMoves.{upshot_sessions, move_sessions}
use Rattle.nb_openlaws.proofs.SessionsDue.{sessions_on}
use Rattle.nb_lawful.proofs.Devices.{device_stays}
use Rattle.nb_openlaws.proofs.OpenStates.{still_state}
use Rattle.nb_lawful.proofs.Plain.{ArePlainBut, booted_open}
use Rattle.nb_lawful.proofs.Quiet.{ends_alone}
use Rattle.nb_lawful.proofs.DriveSteps.{AfterRecord, after_record, tells_in, all_unanswered, all_plain}
use Rattle.nb_lawful.proofs.DriveSessions.{asked_so, asked_stand}
use Rattle.nb_lawful.proofs.DriveBoots.{may_ask, boots_well}
use Rattle.nb_lawful.proofs.Coming.{comes_so}

-- WHAT THE HISTORY SAYS OF SESSIONS

off_sessions : (es : List Event) (n : ℕ) (ls : List Live) → SessionsAgree es ls → SessionsAgree (es ++ stops n ∷ []) ls
off_sessions es n ls w = sessions_on es (es ++ stops n ∷ []) ls (λ j some. used_session j es (stops n) tt tt (refl, refl)) w

-- THE NETWORK'S PART

-- the answers of opens that end are as their ends say
network_answers : (es : List Event) (s : State) → OpensAgree es s → AnswersIn es s
network_answers es s o = λ n r put s2 over net a. (network_so es s s2 n r put over net o a).answers

-- what is known of the opens where a command waits
abbrev opens_so : (ins : List In) (outs : List Out) (es : List Event) (s : State) (w : Waiting) → Story ins outs es (course.waiting s w) → AreKept s.live → OpensAgree es s
opens_so ins outs es s w t k = record { base = t.base; sessions = t.sessions; device = t.device; kept = k; ways = t.ways; advanced = t.advanced }

pub answers_so : (ins : List In) (outs : List Out) (es : List Event) (m : Progress) → Story ins outs es m.standing → KeptAt m.standing → AnswersAt es m.standing
answers_so ins outs es m t k = by m.standing t k
  where
    by : (p : Standing) → Story ins outs es p → KeptAt p → AnswersAt es p
    by (course.waiting s w) t k = let o = opens_so ins outs es s w t k in (network_answers es s o, tells_in es s w o t.plain t.scripts.4)
    by course.ready t k = tt
    by (course.running s inner outer) t k = tt
    by (course.reaching s inner outer next) t k = tt
    by (course.yielded s inner outer) t k = tt
    by (course.handing s rest) t k = tt
    by (course.left s outer cause) t k = tt
    by (course.handed_off s) t k = tt
    by (course.stopped s) t k = tt

-- WHAT FOLLOWS OF AN ANSWER

still_upshot : (u : Upshot) → AreStill (upshot_records u)
still_upshot (concludes c) = still_conclusion c
still_upshot (settles x) = (tt, tt)
still_upshot (hooks_drive d) = (tt, tt)
still_upshot (reads_drive d) = tt
still_upshot (boots_drive_by d bytes) = (tt, tt)
still_upshot (goes_onward next) = tt

unsent_upshot : (u : Upshot) → AreUnsent (upshot_records u)
unsent_upshot (concludes c) = unsent_conclusion c
unsent_upshot (settles x) = (tt, tt)
unsent_upshot (hooks_drive d) = (tt, tt)
unsent_upshot (reads_drive d) = tt
unsent_upshot (boots_drive_by d bytes) = (tt, tt)
unsent_upshot (goes_onward next) = tt

-- all that lives is closed before a disk's hand-off
disk_off_ends : (es : List Event) (s : State) (x : Option Drive) (bytes : List ℕ) → BlockTells es s x bytes → EndsFor stopped_cause (es ++ puts (result ok) ∷ [])
disk_off_ends es s x bytes b = λ ends all.
    let so : ClosesToBootDisk ((es ++ puts (result ok) ∷ []) ++ told ends) =
    record { before = es; since = ends; ends = append_assoc es (puts (result ok) ∷ []) (told ends); behind = ends_alone stopped_cause ends all; number = b.number; boots = b.boots_it; block = bytes; read = b.read } in
    (λ k. by_disk_off refl so, closes_booted_disk so)

booted_same : (s : State) (x : Option Drive) → ((course.with_booted s x).devices ≡ s.devices) × ((course.with_booted s x).table ≡ s.table) × ((course.with_booted s x).up ≡ s.up)
booted_same s None = (refl, refl, refl)
booted_same s (Some d) = (refl, refl, refl)

disk_reasons : (es : List Event) (s : State) (x : Option Drive) (bytes : List ℕ) (more : List Out) (over : List Over) → AllTake s.devices (close stopped_cause) s.live more [] over → AgreesState es s → AgreesDevice es s → AreKept s.live →
    IsAdvanced (es ++ told (result ok ∷ [])) → BlockTells es s x bytes →
    OpenReasons (es ++ told (result ok ∷ [])) more
disk_reasons es s x bytes more over all a d k adv b =
    let at = still_state es (result ok ∷ []) s (tt, tt) a in
    let same = booted_same s x in
    let device : AgreesDevice (es ++ told (result ok ∷ [])) (course.with_booted s x) = device_stays es (result ok ∷ []) s (course.with_booted s x) same.0 same.1 same.2 d b.settings b.ended_so in
    closes_reasons s.devices stopped_cause s.live more [] over all refl (es ++ told (result ok ∷ [])) (sym same.0 ∙ device) at.each at.apart k adv (disk_off_ends es s x bytes b) (still_sessions es (result ok ∷ []) s.live (tt, tt) ((λ j. refl), tt) b.sessions)

leads_reasons : (es : List Event) (s : State) (inner : Running) (outer : List Running) (u : Upshot) (more : List Out) (p : Standing) → LeadsTo s inner outer u more p → AgreesState es s → AgreesDevice es s → HaveWays es s.live →
    AreKept s.live → IsAdvanced (es ++ told (upshot_records u)) →
    ((list : ImageList) (kernel : ℕ) → u ≡ concludes (boots list kernel) → BootsBy es s list kernel) → UpshotTells es s u → OpenReasons (es ++ told (upshot_records u)) more
leads_reasons es s inner outer (concludes c) more p leads a d ways k adv booted tells = conclusion_reasons es s inner outer c more p leads a d k adv (λ list kernel same. booted list kernel (ap concludes same))
leads_reasons es s inner outer (settles x) more p (none, is) a d ways k adv booted tells = subst (OpenReasons (es ++ told (result x.cause ∷ []))) (sym none) (no_reasons (es ++ told (result x.cause ∷ [])) adv)
leads_reasons es s inner outer (hooks_drive x) more p (none, is) a d ways k adv booted tells = subst (OpenReasons (es ++ told (result ok ∷ []))) (sym none) (no_reasons (es ++ told (result ok ∷ [])) adv)
leads_reasons es s inner outer (reads_drive x) more p leads a d ways k adv booted (l, due, same) =
    subst (λ z. OpenReasons z more) (sym (append-nil es))
    (reads_reasons es s inner outer x.open_number (Some x) more p leads (asked_so es s leads.next l x.open_number leads.asked leads.over due a d ways (subst IsAdvanced (append-nil es) adv) leads.asks same).reasons)
leads_reasons es s inner outer (boots_drive_by x bytes) more p (over, all, is) a d ways k adv booted tells = disk_reasons es s x bytes more over all a d k adv tells
leads_reasons es s inner outer (goes_onward next) more p (none, is) a d ways k adv booted tells = subst (OpenReasons (es ++ told [])) (sym none) (no_reasons (es ++ told []) adv)

answered_reasons : (es : List Event) (outs : List Out) (s s2 : State) (w : Waiting) (n : ℕ) (r : In) (put more : List Out) (over : List Over) (x : Answer) (p : Standing) (net : Network s n r put s2 over) (o : OpensAgree es s) → TellsIn es s w →
    AfterRecord ((es ++ (network_agrees es s n r put s2 over net o.base).event ∷ []) ++ told put) s2 w over →
    UpshotTells ((es ++ (network_agrees es s n r put s2 over net o.base).event ∷ []) ++ told put) s2 (concluded_by s2 w.script.depth w.job x) → answer_in s2 r over w.awaited ≡ Some x →
    LeadsTo s2 (anew w.script) w.outer (concluded_by s2 w.script.depth w.job x) more p → ScriptsAgree es outs (course.waiting s w) →
    OpenReasons (es ++ (network_agrees es s n r put s2 over net o.base).event ∷ []) (put ++ upshot_records (concluded_by s2 w.script.depth w.job x) ++ more)
answered_reasons es outs s s2 w n r put more over x p net o told_so t tells some leads h =
    let u = network_agrees es s n r put s2 over net o.base in
    let es1 = es ++ u.event ∷ [] in
    let c = upshot_records (concluded_by s2 w.script.depth w.job x) in
    let first = (network_so es s s2 n r put over net o o.base).reasons in
    let second = still_reasons (es1 ++ told put) c (still_upshot (concluded_by s2 w.script.depth w.job x)) (unsent_upshot (concluded_by s2 w.script.depth w.job x)) first.after in
    let third = leads_reasons (es1 ++ told put) s2 (anew w.script) w.outer (concluded_by s2 w.script.depth w.job x) more p leads u.agrees t.device t.ways (network_kept s s2 n r put over net o.kept) second.after
    (λ list kernel is. step_boots es outs s s2 w n r put over x list kernel net o.base (network_answers es s o) told_so some is h) tells in
    reasons_then es1 (put ++ c) more (reasons_then es1 put c first second) (subst (λ z. OpenReasons z more) (sym (told_two es1 put c)) third)

-- THE POWER IS SWITCHED OFF

told_off : (es : List Event) (outs : List Out) → is_off (es ++ told outs) ≡ is_off es
unfolding is_off
told_off es [] = ap is_off (append-nil es)
told_off es (o ∷ outs) = ap is_off (sym (append_assoc es (puts o ∷ []) (told outs))) ∙ told_off (es ++ puts o ∷ []) outs ∙ fold-append off_by false es (puts o ∷ [])

last_off : (es : List Event) (n : ℕ) → is_off (es ++ stops n ∷ []) ≡ true
unfolding is_off
last_off es n = fold-append off_by false es (stops n ∷ [])

off_ends : (es : List Event) (n : ℕ) → EndsFor stopped_cause (es ++ stops n ∷ [])
off_ends es n = λ ends all.
    let off = told_off (es ++ stops n ∷ []) ends ∙ last_off es n in
    (λ k. by_itself (by_stop refl off), closes_off off)

off_reasons : (es : List Event) (s : State) (n : ℕ) (put : List Out) (over : List Over) → OpensAgree es s → AllTake s.devices (close stopped_cause) s.live put [] over → OpenReasons (es ++ stops n ∷ []) put
off_reasons es s n put over o all =
    let es1 = es ++ stops n ∷ [] in
    let each : AreLive es1 s.live = all_same es es1 s.live (grown es (stops n ∷ [])) (made_used es (stops n) tt) (hardware_used es (stops n) tt tt) (λ j some. used_same j es (stops n) tt (refl, refl)) o.base.each in
    closes_reasons s.devices stopped_cause s.live put [] over all refl es1 (o.device ∙ ap (λ c. c ∷ []) (sym (client_stops es n))) each o.base.apart o.kept (off_advanced es n o.advanced) (off_ends es n) (off_sessions es n s.live o.sessions)

-- WHERE IT LEADS

upshot_tells : (es : List Event) (outs : List Out) (s s2 : State) (w : Waiting) (n : ℕ) (r : In) (put : List Out) (over : List Over) (x : Answer) (net : Network s n r put s2 over) (o : OpensAgree es s) →
    ArePlainBut (booted_open w.awaited) es s.live → ScriptsAgree es outs (course.waiting s w) →
    answer_in s2 r over w.awaited ≡ Some x → UpshotTells ((es ++ (network_agrees es s n r put s2 over net o.base).event ∷ []) ++ told put) s2 (concluded_by s2 w.script.depth w.job x)
upshot_tells es outs s s2 w n r put over x net o plain h some =
    let u = network_agrees es s n r put s2 over net o.base in
    let es2 = (es ++ u.event ∷ []) ++ told put in
    let t = tells_in es s w o plain h.4 n r put s2 over net o.base in
    step_tells es2 outs s s2 w n put over x (after_record es s w n r put s2 over net o plain h.4)
    (comes_so es es2 outs s s2 w r n u.event put over x (network_steps es outs s s2 w n r put over net o.base h) u.agrees u.ended u.agrees.each t.tells t.told_over t.now (network_answers es s o n r put s2 over net o.base) some h.4)

upshot_stands : (es : List Event) (s : State) (inner : Running) (outer : List Running) (u : Upshot) (put : List Out) (p : Standing) → LeadsTo s inner outer u put p → AgreesState es s → UpshotTells es s u →
    SessionsStand ((es ++ told (upshot_records u)) ++ told put) p
upshot_stands es s inner outer (concludes c) put p leads a tells = upshot_sessions es s inner outer (concludes c) put p leads tt tells
upshot_stands es s inner outer (settles x) put p leads a tells = upshot_sessions es s inner outer (settles x) put p leads tt tells
upshot_stands es s inner outer (hooks_drive d) put p leads a tells = upshot_sessions es s inner outer (hooks_drive d) put p leads tt tells
upshot_stands es s inner outer (reads_drive d) put p leads a (l, due, same) = subst (λ z. SessionsStand (z ++ told put) p) (sym (append-nil es)) (asked_stand es s l inner outer d.open_number (Some d) put p due a leads same)
upshot_stands es s inner outer (boots_drive_by d bytes) put p leads a tells = upshot_sessions es s inner outer (boots_drive_by d bytes) put p leads tt tells.sessions
upshot_stands es s inner outer (goes_onward next) put p leads a tells = upshot_sessions es s inner outer (goes_onward next) put p leads tt tells

-- EACH STEP

used_so : (es : List Event) (e : Event) → IsUsed e → IsAdvanced es → AdvancesSo es e × OpensEndSo es e × FramesSo es e × TriesSo es e []
used_so es (starts n s) u a = (a, tt, tt, tt)
used_so es (hears n bytes m) u a = (a, tt, tt, tt)
used_so es (waits n ms) u a = (a, tt, tt, tt)
used_so es (stops n) u a = (a, tt, tt, tt)
used_so es (puts o) u a = absurd u

-- an event that is used, and the records after it
with_event : (es : List Event) (e : Event) (more : List Out) → IsUsed e → IsAdvanced es → OpenReasons (es ++ e ∷ []) more → AdvancesSo es e × OpensEndSo es e × FramesSo es e × TriesSo es e [] × OpenReasons (es ++ e ∷ []) more
with_event es e more u a r = let x = used_so es e u a in (x.0, x.1, x.2, x.3, r)

pub step_reasons : (ins : List In) (outs : List Out) (es : List Event) (m : Progress) (r : In) (added : List Out) (m2 : Progress) (begins : StepBegins m r added m2) (t : Story ins outs es m.standing) → KeptAt m.standing →
    AdvancesSo es (step_event es m r added m2 begins t.base) × OpensEndSo es (step_event es m r added m2 begins t.base) × FramesSo es (step_event es m r added m2 begins t.base) × TriesSo es (step_event es m r added m2 begins t.base) []
    × OpenReasons (es ++ step_event es m r added m2 begins t.base ∷ []) (step_more m r added m2 begins)
step_reasons ins outs es m r added m2 (course.runs n s code valid reads) t k =
    let e = starts (n + 1) s in
    with_event es e (enter 1 ∷ []) tt t.advanced (still_reasons (es ++ e ∷ []) (enter 1 ∷ []) (tt, tt) (tt, tt) (start_advanced es (n + 1) s t.base t.advanced))
step_reasons ins outs es m r added m2 (course.refuses n s cause valid refuses) t k =
    let e = starts (n + 1) s in
    with_event es e (enter 1 ∷ leave 1 cause ∷ []) tt t.advanced (still_reasons (es ++ e ∷ []) (enter 1 ∷ leave 1 cause ∷ []) (tt, (tt, tt)) (tt, (tt, tt)) (start_advanced es (n + 1) s t.base t.advanced))
step_reasons ins outs es m r added m2 (course.waits_on n s s2 w r0 put over valid net none) t k =
    let u = network_agrees es s (n + 1) r put s2 over net t.base in
    with_event es u.event put u.used t.advanced (network_so es s s2 (n + 1) r put over net (opens_so ins outs es s w t k) t.base).reasons
step_reasons ins outs es m r added m2 (course.is_answered n s s2 w r0 put more over x p valid net some leads) t k =
    let u = network_agrees es s (n + 1) r put s2 over net t.base in
    let o = opens_so ins outs es s w t k in
    with_event es u.event (put ++ upshot_records (concluded_by s2 w.script.depth w.job x) ++ more) u.used t.advanced
    (answered_reasons es outs s s2 w (n + 1) r put more over x p net o (tells_in es s w o t.plain t.scripts.4) (after_record es s w (n + 1) r put s2 over net o t.plain t.scripts.4)
    (upshot_tells es outs s s2 w (n + 1) r put over x net o t.plain t.scripts some) some leads t.scripts)
step_reasons ins outs es m r added m2 (course.switches_off n s w put over all) t k =
    with_event es (stops (n + 1)) put tt t.advanced (off_reasons es s (n + 1) put over (record { base = t.base; sessions = t.sessions; device = t.device; kept = k; ways = t.ways; advanced = t.advanced }) all)
step_reasons ins outs es m r added m2 (course.resumes n s s2 inner outer r0 put over valid net) t k =
    let u = network_agrees es s (n + 1) r put s2 over net t.base in
    with_event es u.event put u.used t.advanced (network_so es s s2 (n + 1) r put over net (record { base = t.base; sessions = t.sessions; device = t.device; kept = k; ways = t.ways; advanced = t.advanced }) t.base).reasons
step_reasons ins outs es m r added m2 (course.goes_off n s inner outer put over all) t k =
    with_event es (stops (n + 1)) put tt t.advanced (off_reasons es s (n + 1) put over (record { base = t.base; sessions = t.sessions; device = t.device; kept = k; ways = t.ways; advanced = t.advanced }) all)

-- WHAT BECOMES OF SESSIONS

step_sessions : (ins : List In) (outs : List Out) (es : List Event) (m : Progress) (r : In) (added : List Out) (m2 : Progress) (begins : StepBegins m r added m2) (t : Story ins outs es m.standing) → KeptAt m.standing →
    SessionsStand ((es ++ step_event es m r added m2 begins t.base ∷ []) ++ told (step_more m r added m2 begins)) m2.standing
step_sessions ins outs es m r added m2 (course.runs n s code valid reads) t k = tt
step_sessions ins outs es m r added m2 (course.refuses n s cause valid refuses) t k = tt
step_sessions ins outs es m r added m2 (course.waits_on n s s2 w r0 put over valid net none) t k =
    let a = after_record es s w (n + 1) r put s2 over net (opens_so ins outs es s w t k) t.plain t.scripts.4 in
    all_unanswered ((es ++ (network_agrees es s (n + 1) r put s2 over net t.base).event ∷ []) ++ told put) s2 w r over a.base none a.sized
step_sessions ins outs es m r added m2 (course.is_answered n s s2 w r0 put more over x p valid net some leads) t k =
    let u = network_agrees es s (n + 1) r put s2 over net t.base in
    let es1 = es ++ u.event ∷ [] in
    let c = concluded_by s2 w.script.depth w.job x in
    let c_puts = upshot_records c in
    let stands = upshot_stands (es1 ++ told put) s2 (anew w.script) w.outer c more p leads u.agrees (upshot_tells es outs s s2 w (n + 1) r put over x net (opens_so ins outs es s w t k) t.plain t.scripts some) in
    subst (λ z. SessionsStand z p) (sym (told_two es1 (put ++ c_puts) more ∙ ap (λ z. z ++ told more) (told_two es1 put c_puts))) stands
step_sessions ins outs es m r added m2 (course.switches_off n s w put over all) t k = tt
step_sessions ins outs es m r added m2 (course.resumes n s s2 inner outer r0 put over valid net) t k = all_plain es s s2 (n + 1) r put over net t.base t.sessions t.plain
step_sessions ins outs es m r added m2 (course.goes_off n s inner outer put over all) t k = tt

may_boot : (ins : List In) (outs : List Out) (es : List Event) (m : Progress) → Story ins outs es m.standing → KeptAt m.standing → MayBoot es m.standing
may_boot ins outs es m t k = by m.standing t k
  where
    by : (p : Standing) → Story ins outs es p → KeptAt p → MayBoot es p
    by (course.running s inner outer) t k = λ ws number d is got.
        boots_well es outs s inner outer ws number d (record { base = t.base; sessions = t.sessions; device = t.device; kept = k; ways = t.ways; advanced = t.advanced }) t.plain t.scripts is got
    by course.ready t k = tt
    by (course.waiting s w) t k = tt
    by (course.reaching s inner outer next) t k = tt
    by (course.yielded s inner outer) t k = tt
    by (course.handing s rest) t k = tt
    by (course.left s outer cause) t k = tt
    by (course.handed_off s) t k = tt
    by (course.stopped s) t k = tt

pub opens_give : OpensGive
opens_give = record {
  answers = answers_so;
  may_boot = may_boot;
  step_sessions = step_sessions;
  move_sessions = λ ins outs es m added m2 moves t k. move_sessions es m added m2 moves t.base (may_hook es outs m.standing t.scripts) (may_ask es outs m.standing t.base t.scripts) t.sessions;
  at_step = step_reasons;
  at_move = move_reasons;
}

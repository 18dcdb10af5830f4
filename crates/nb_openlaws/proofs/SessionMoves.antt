-- A run goes on: what the history says of the drives' sessions then.
use Rattle.std.proofs.Common.{◌≡◌, ℕ, ◌+◌, ◌==◌, Bool, true, false, cond, not, List, [], ◌∷◌, ◌++◌, map, filter, Option, Some, None, refl, sym, ◌∙◌, ap, subst, append_assoc, append-nil, arith, eq-eqb}
use Rattle.std.specs.List.{AllByRecursion}
use Rattle.std.proofs.lemmas.List.{map-append}
use Rattle.nb_terms.specs.declared.cause.Cause.{Cause}
use Rattle.nb_defs.specs.Causes.{ok}
use Rattle.nb_defs.specs.Commands.{refused}
use Rattle.nb_defs.specs.Records.{Out, step, text, command, enter, leave, result}
use Rattle.nb_drivecmd.specs.declared.drive.Drive.{Drive}
use Rattle.nb_drivecmd.specs.HookedDrives.{is_drive, drive_numbered}
use Rattle.nb_streams.proofs.FlowLaws.{all_append}
use Rattle.nb_tftp.proofs.BlockLemmas.{either_way}
use Rattle.nb_machine.specs.CommandRecords.{prints, command_record, command_records, stopped_cause, no_route}
use Rattle.nb_machine.specs.Conclusions.{Conclusion, keeps, tells, fails, boots, runs_script, conclusion_records}
use Rattle.nb_machine.specs.Courses as course
use Rattle.nb_machine.specs.Courses.{Standing, Progress, text_records, text_standing, ScriptLeads, ConclusionLeads, LeadsTo, DropsDrive, ReadsBlock, block_lost, block_standing, is_drives_own, Proceeds}
use Rattle.nb_machine.specs.Effects.{shown_words, full_opens}
use Rattle.nb_machine.specs.Lives.{OpenKind, tftp, http, iscsi, dns, dhcp, ping, kind_number, close, Live, open_record, end_record}
use Rattle.nb_machine.specs.Running.{Running, entered, no_label}
use Rattle.nb_machine.specs.FirstText.{text_refusal}
use Rattle.nb_defs.specs.ScriptLines.{script_reading}
use Rattle.nb_imagecmd.specs.declared.outcome.ScriptImage.{ScriptImage}
use Rattle.nb_scripts.specs.Records.{replace}
use Rattle.nb_machine.specs.Scripts.{Upshot, concludes, settles, hooks_drive, reads_drive, boots_drive_by, goes_onward, upshot_records, Doing, ends, opens, goes_to, waits_until, shuts, concludes_now, hooks_one, lets_go, boots_one, doing, live_onward}
use Rattle.nb_machine.specs.States.{State, with_images, with_opened}
use Rattle.nb_machine.specs.Takings.{Over}
use Rattle.nb_laws.specs.Agreement.{AreStill}
use Rattle.nb_laws.specs.CommandsSoFar.{so_far, so_far_by, booted_drive}
use Rattle.nb_laws.specs.Events.{Event, puts}
use Rattle.nb_laws.specs.Lists.{time}
use Rattle.nb_laws.proofs.DriveEvents.{BringsNothing, came_stays, told_nothing}
use Rattle.nb_laws.proofs.DriveTalks.{IsNoCommand, command_asks_none}
use Rattle.nb_laws.proofs.Histories.{hardware_more}
use Rattle.nb_laws.proofs.Tellings.{told, no_more, sessions_stay, session_marks_more, try_marks_by}
use Rattle.nb_laws.proofs.Asides.{more_still, still_command, still_conclusion}
use Rattle.nb_laws.specs.Drives.{session_mark_at, session_marks_of}
use Rattle.nb_streams.specs.Trying.{tries_at}
use Rattle.nb_openlaws.specs.Sessions.{AgreesBy, AgreesSession, SessionsAgree, SessionsStand}
use Rattle.nb_openlaws.specs.Standings.{lives_among, HaveOwnNumbers, AgreesState, AgreesStanding}
use Rattle.nb_laws.specs.Silence.{IsSilent}
use Rattle.nb_openlaws.proofs.Courses.{told_two, ends_keep, opens_next, kept_state}
use Rattle.nb_openlaws.proofs.NextOpens.{MayHook, opens_settings, onward_so, onward_settings}
use Rattle.nb_openlaws.proofs.LiveParts.{all_filter}
use Rattle.nb_openlaws.proofs.LiveStates.{not_among, splits_by}
use Rattle.nb_openlaws.proofs.Networks.{apart_front, apart_back}
use Rattle.nb_openlaws.proofs.OpenRecords.{AreOf}
use Rattle.nb_openlaws.proofs.OpenStates.{IsNext, SaysSettings, still_state, begun_so}
use Rattle.nb_openlaws.proofs.SessionAsks.{DueBy, command_asks_session, command_asks_others, asks_sessions}
use Rattle.nb_openlaws.proofs.SessionBegins.{begun_session}
use Rattle.nb_openlaws.proofs.SessionNetworks.{not_its, parts_agree}
use Rattle.nb_openlaws.proofs.SessionSteps.{then_session, still_sessions, taken_session}
use Rattle.nb_openlaws.proofs.SessionsDue.{SameSession, other_session, sessions_on}

-- A DRIVE IS CLOSED, OR AN OPEN BEGINS

-- the others live on where a drive was closed
pub sessions_dropped : (es : List Event) (s s' : State) (number : ℕ) (put : List Out) → DropsDrive s number put s' → AgreesState es s → SessionsAgree es s.live → SessionsAgree (es ++ told put) s'.live
sessions_dropped es s s' number put d a w =
    let f = is_drives_own (filter (is_drive number) s.drives) in
    let some = filter f s.live in
    let others = filter (λ l. not (f l)) s.live in
    let p = splits_by es s f a in
    subst (λ (z : State). SessionsAgree (es ++ told put) z.live) (sym d.leaves)
    (sessions_on es (es ++ told put) others
    (λ j lives. either_way (lives_among j some) (λ mine. absurd (let never : false ≡ true = sym (p.apart j mine) ∙ lives in cc))
    (λ other. taken_session s.devices (close stopped_cause) some put [] d.over d.closes j other es))
    (all_filter (AgreesSession es) (λ l. not (f l)) s.live w))

-- OPEN of another open leaves a session
open_session : (j : ℕ) (es : List Event) (l : Live) → (l.number == j) ≡ false → SameSession j es (es ++ puts (open_record l) ∷ [])
open_session j es l other =
    let e = puts (open_record l) in
    record {
      hardware_is = hardware_more es e;
      sessions_is = sessions_stay j es e (ap (λ b. cond b (record { kind = kind_number l.kind; server = l.server; port = l.port; own = l.own; target = l.target; since = time es } ∷ []) []) other);
      came_is = came_stays j es e refl;
      marks_is = session_marks_more j es e ∙ no_more (session_marks_of j es) (session_mark_at j es e) refl;
    }

-- the next open's number is that of none that lives
next_away : (es : List Event) (s : State) (l : Live) → IsNext s l → AgreesState es s → lives_among l.number s.live ≡ false
next_away es s l next a = not_among es l.number s.live a.each (omega (arith, next.number_is, a.opens))

-- what is put by an open that was made leaves the others
made_sessions : (es : List Event) (s : State) (l : Live) (put : List Out) → IsNext s l → AreOf l.number put → AgreesState es s → SessionsAgree es s.live → SessionsAgree (es ++ told (open_record l ∷ put)) s.live
made_sessions es s l put next of a w =
    let e = puts (open_record l) in
    let es1 = es ++ e ∷ [] in
    sessions_on es (es ++ told (open_record l ∷ put)) s.live
    (λ j lives.
    let other = not_its l.number j s.live (next_away es s l next a) lives in
    subst (SameSession j es) (append_assoc es (e ∷ []) (told put)) (then_session j es es1 (es1 ++ told put) (open_session j es l other) (other_session l.number j es1 put of other))) w

begun_by : (kind : OpenKind) (es : List Event) (s : State) (l : Live) (put : List Out) → l.kind ≡ kind → IsNext s l → SaysSettings es s l.kind → AreOf l.number put → ((now : ℕ) → try_marks_by l.number now put ≡ tries_at 1 now ∷ []) →
    AgreesState es s →
    AgreesBy (es ++ told (open_record l ∷ put)) kind l
begun_by tftp es s l put is next settings of first a = tt
begun_by (http isn) es s l put is next settings of first a = tt
begun_by (iscsi isn i) es s l put is next settings of first a = begun_session es s l put isn i is next settings of first a
begun_by (dns id) es s l put is next settings of first a = tt
begun_by (dhcp y) es s l put is next settings of first a = tt
begun_by ping es s l put is next settings of first a = tt

-- an open that begins
pub sessions_opened : (es : List Event) (s : State) (l : Live) (put : List Out) → IsNext s l → SaysSettings es s l.kind → AreOf l.number put → ((now : ℕ) → try_marks_by l.number now put ≡ tries_at 1 now ∷ []) → AgreesState es s →
    SessionsAgree es s.live →
    SessionsAgree (es ++ told (open_record l ∷ put)) (with_opened s l).live
sessions_opened es s l put next settings of first a w =
    all_append (AgreesSession (es ++ told (open_record l ∷ put))) s.live (l ∷ []) (made_sessions es s l put next of a w) (begun_by l.kind es s l put refl next settings of first a, tt)

-- A DRIVE IS ASKED FOR ITS FIRST BLOCK

pub reads_sessions : (es : List Event) (s : State) (inner : Running) (outer : List Running) (number : ℕ) (d : Option Drive) (put : List Out) (p : Standing) (r : ReadsBlock s inner outer number d put p) → AgreesState es s →
    SessionsAgree es r.asks.before → SessionsAgree es r.asks.behind → DueBy es r.asks.l.kind r.asks.l s.now → SessionsStand (es ++ told put) p
reads_sessions es s inner outer number d put p r a front back due =
    subst (SessionsStand (es ++ told put)) (sym r.stands_so)
    (subst (λ z. SessionsStand z (block_standing r.next inner outer number d r.over)) (append_assoc es (told r.asked) (told (block_lost r.over)) ∙ ap (λ z. es ++ z) (sym (map-append puts r.asked (block_lost r.over))) ∙ ap (λ z. es ++ told z) (sym r.all)) (by r.over))
  where
    asked : SessionsAgree (es ++ told r.asked) r.next.live
    asked = (asks_sessions es s r.next number r.asked r.over r.asks a front back due).0

    by : (over : List Over) → SessionsStand ((es ++ told r.asked) ++ told (block_lost over)) (block_standing r.next inner outer number d over)
    by [] = still_sessions (es ++ told r.asked) [] r.next.live tt tt asked
    by (o ∷ over) = still_sessions (es ++ told r.asked) (result o.cause ∷ []) r.next.live (tt, tt) (told_nothing (es ++ told r.asked) (result o.cause ∷ []) (tt, tt)) asked

-- WHAT A COMMAND ASKS

-- the drive that is booted, by what a command does
abbrev pub drive_asked : State → Doing → Option Drive
drive_asked s (boots_one number) = drive_numbered number s.drives
drive_asked s (ends o s') = None
drive_asked s (opens s' l job) = None
drive_asked s (goes_to name) = None
drive_asked s (waits_until time) = None
drive_asked s (shuts s') = None
drive_asked s (concludes_now c) = None
drive_asked s (hooks_one hooking) = None
drive_asked s (lets_go number cause) = None

-- the history says the same of each command that a script may begin
abbrev pub MayAsk : List Event → Standing → Type 0
MayAsk es (course.running s inner outer) = (ws : List (List ℕ)) → booted_drive (so_far_by es (so_far es) (puts (command_record inner (shown_words s.table ws)))) ≡ drive_asked s (doing s inner ws)
MayAsk es course.ready = Unit {0}
MayAsk es (course.waiting s w) = Unit {0}
MayAsk es (course.reaching s inner outer next) = Unit {0}
MayAsk es (course.yielded s inner outer) = Unit {0}
MayAsk es (course.handing s rest) = Unit {0}
MayAsk es (course.left s outer cause) = Unit {0}
MayAsk es (course.handed_off s) = Unit {0}
MayAsk es (course.stopped s) = Unit {0}

-- one that does anything else asks nothing
asks_nothing : (es : List Event) (s : State) (inner : Running) (outer : List Running) (ws : List (List ℕ)) (x : Doing) → MayAsk es (course.running s inner outer) → doing s inner ws ≡ x → drive_asked s x ≡ None →
    BringsNothing es (puts (command_record inner (shown_words s.table ws)))
asks_nothing es s inner outer ws x may is none =
    let shown = shown_words s.table ws in
    λ k. command_asks_none k es inner.depth inner.passed inner.place shown.expanded shown.words (may ws ∙ ap (drive_asked s) is ∙ none)

command_sessions : (es : List Event) (s : State) (inner : Running) (ws : List (List ℕ)) (rest : List Out) (ls : List Live) → BringsNothing es (puts (command_record inner (shown_words s.table ws))) →
    AreStill (command_record inner (shown_words s.table ws) ∷ rest) →
    AllByRecursion IsNoCommand rest → SessionsAgree es ls → SessionsAgree (es ++ told (command_record inner (shown_words s.table ws) ∷ rest)) ls
command_sessions es s inner ws rest ls none still plain w =
    still_sessions es (command_record inner (shown_words s.table ws) ∷ rest) ls still (none, told_nothing (es ++ puts (command_record inner (shown_words s.table ws)) ∷ []) rest plain) w

plain_prints : (p : Option (List ℕ)) (cause : Cause) → AllByRecursion IsNoCommand (prints p ++ (result cause ∷ []))
plain_prints None cause = (tt, tt)
plain_prints (Some bytes) cause = (tt, (tt, tt))

plain_texts : (lines : List (List ℕ)) → AllByRecursion IsNoCommand (map text lines)
plain_texts [] = tt
plain_texts (line ∷ lines) = (tt, plain_texts lines)

plain_conclusion : (c : Conclusion) → AllByRecursion IsNoCommand (conclusion_records c)
plain_conclusion (keeps list) = (tt, tt)
plain_conclusion (fails cause) = (tt, tt)
plain_conclusion (boots list kernel) = (tt, tt)
plain_conclusion (tells list lines) = all_append IsNoCommand (map text lines) (result ok ∷ []) (plain_texts lines) (tt, tt)
plain_conclusion (runs_script list image true) = (tt, tt)
plain_conclusion (runs_script list image false) = tt

-- records that no command stands among
plain_sessions : (es : List Event) (outs : List Out) (ls : List Live) → AreStill outs → AllByRecursion IsNoCommand outs → SessionsAgree es ls → SessionsAgree (es ++ told outs) ls
plain_sessions es outs ls still plain w = still_sessions es outs ls still (told_nothing es outs plain) w

-- WHAT COMES OF A COMMAND

text_still : (depth : ℕ) (begins : Out) (refusal : Option Cause) → AreStill (begins ∷ []) → AreStill (text_records depth begins refusal)
text_still depth begins None still = still
text_still depth begins (Some cause) still = (still.0, (tt, tt))

text_plain : (depth : ℕ) (begins : Out) (refusal : Option Cause) → IsNoCommand begins → AllByRecursion IsNoCommand (text_records depth begins refusal)
text_plain depth begins None plain = (plain, tt)
text_plain depth begins (Some cause) plain = (plain, (tt, tt))

text_stands : (es : List Event) (s : State) (new : Running) (outer : List Running) (refusal : Option Cause) → SessionsAgree es s.live → SessionsStand es (text_standing s new outer refusal)
text_stands es s new outer None w = w
text_stands es s new outer (Some cause) w = w

script_sessions : (es : List Event) (s : State) (inner : Running) (outer : List Running) (image : ScriptImage) (replaces : Bool) (put : List Out) (p : Standing) → ScriptLeads s inner outer image replaces put p → SessionsAgree es s.live →
    SessionsStand (es ++ told put) p
script_sessions es s inner outer image false put p (puts_so, is) w =
    let refusal = text_refusal (script_reading image.text) in
    let outs = text_records (inner.depth + 1) (enter (inner.depth + 1)) refusal in
    subst (SessionsStand (es ++ told put)) (sym is) (text_stands (es ++ told put) s _ (inner ∷ outer) refusal
    (subst (λ z. SessionsAgree (es ++ told z) s.live) (sym puts_so) (plain_sessions es outs s.live (text_still (inner.depth + 1) (enter (inner.depth + 1)) refusal (tt, tt)) (text_plain (inner.depth + 1) (enter (inner.depth + 1)) refusal tt) w)))
script_sessions es s inner outer image true put p (puts_so, is) w =
    let refusal = text_refusal (script_reading image.text) in
    let outs = text_records inner.depth (replace inner.depth) refusal in
    subst (SessionsStand (es ++ told put)) (sym is) (text_stands (es ++ told put) s _ outer refusal
    (subst (λ z. SessionsAgree (es ++ told z) s.live) (sym puts_so) (plain_sessions es outs s.live (text_still inner.depth (replace inner.depth) refusal (tt, tt)) (text_plain inner.depth (replace inner.depth) refusal tt) w)))

none_put : (es : List Event) (put : List Out) (ls : List Live) → put ≡ [] → SessionsAgree es ls → SessionsAgree (es ++ told put) ls
none_put es put ls none w = subst (λ z. SessionsAgree (es ++ told z) ls) (sym none) (subst (λ z. SessionsAgree z ls) (sym (append-nil es)) w)

pub conclusion_sessions : (es : List Event) (s : State) (inner : Running) (outer : List Running) (c : Conclusion) (put : List Out) (p : Standing) → ConclusionLeads s inner outer c put p → SessionsAgree es s.live → SessionsStand (es ++ told put) p
conclusion_sessions es s inner outer (keeps list) put p (none, is) w = subst (SessionsStand (es ++ told put)) (sym is) (none_put es put s.live none w)
conclusion_sessions es s inner outer (tells list lines) put p (none, is) w = subst (SessionsStand (es ++ told put)) (sym is) (none_put es put s.live none w)
conclusion_sessions es s inner outer (fails cause) put p (none, is) w = subst (SessionsStand (es ++ told put)) (sym is) (none_put es put s.live none w)
conclusion_sessions es s inner outer (boots list kernel) put p (over, all, is) w = subst (SessionsStand (es ++ told put)) (sym is) tt
conclusion_sessions es s inner outer (runs_script list image replaces) put p leads w = script_sessions es (with_images s list) inner outer image replaces put p leads w

-- where a command waited, and reads no block then
abbrev pub ReadsNone : Upshot → Type 0
ReadsNone (concludes c) = Unit {0}
ReadsNone (settles x) = Unit {0}
ReadsNone (hooks_drive d) = Unit {0}
ReadsNone (reads_drive d) = ⊥
ReadsNone (boots_drive_by d bytes) = Unit {0}
ReadsNone (goes_onward next) = Unit {0}

pub upshot_sessions : (es : List Event) (s : State) (inner : Running) (outer : List Running) (u : Upshot) (put : List Out) (p : Standing) → LeadsTo s inner outer u put p → ReadsNone u → SessionsAgree es s.live →
    SessionsStand ((es ++ told (upshot_records u)) ++ told put) p
upshot_sessions es s inner outer (concludes c) put p leads none w = conclusion_sessions (es ++ told (conclusion_records c)) s inner outer c put p leads (plain_sessions es (conclusion_records c) s.live (still_conclusion c) (plain_conclusion c) w)
upshot_sessions es s inner outer (settles x) put p (no_more_put, is) none w =
    let es1 = es ++ told (result x.cause ∷ []) in subst (SessionsStand (es1 ++ told put)) (sym is) (none_put es1 put s.live no_more_put (plain_sessions es (result x.cause ∷ []) s.live (tt, tt) (tt, tt) w))
upshot_sessions es s inner outer (hooks_drive d) put p (no_more_put, is) none w =
    let es1 = es ++ told (result ok ∷ []) in subst (SessionsStand (es1 ++ told put)) (sym is) (none_put es1 put s.live no_more_put (plain_sessions es (result ok ∷ []) s.live (tt, tt) (tt, tt) w))
upshot_sessions es s inner outer (reads_drive d) put p leads none w = absurd none
upshot_sessions es s inner outer (boots_drive_by d bytes) put p (over, all, is) none w = let es1 = es ++ told (result ok ∷ []) in subst (SessionsStand (es1 ++ told put)) (sym is) tt
upshot_sessions es s inner outer (goes_onward next) put p (no_more_put, is) none w =
    let es1 = es ++ told [] in subst (SessionsStand (es1 ++ told put)) (sym is) (none_put es1 put s.live no_more_put (none_put es [] s.live refl w))

-- A RUN GOES ON

-- a hooked drive is booted
boots_sessions : (es : List Event) (s : State) (inner : Running) (outer : List Running) (ws : List (List ℕ)) (number : ℕ) (d : Drive) (put : List Out) (p : Standing) → doing s inner ws ≡ boots_one number → drive_numbered number s.drives ≡ Some d →
    ReadsBlock s (entered inner) outer d.open_number None put p → MayAsk es (course.running s inner outer) → AgreesState es s → SessionsAgree es s.live → SessionsStand (es ++ told (command_record inner (shown_words s.table ws) ∷ put)) p
boots_sessions es s inner outer ws number d put p is some r may a w =
    let shown = shown_words s.table ws in
    let e = puts (command_record inner shown) in
    let q = r.asks in
    let asked = may ws ∙ ap (drive_asked s) is ∙ some in
    let own = subst HaveOwnNumbers q.parted a.apart in
    let parts = parts_agree es q.before (q.l ∷ q.behind) (subst (SessionsAgree es) q.parted w) in
    let away = λ (ls : List Live) (none : lives_among q.l.number ls ≡ false). ap (λ z. lives_among z ls) (sym q.its) ∙ none in
    let others = λ (ls : List Live) (none : lives_among q.l.number ls ≡ false) (x : SessionsAgree es ls). command_asks_others es ls inner.depth inner.passed inner.place shown.expanded shown.words d asked (away ls none) x in
    subst (λ z. SessionsStand z p) (append_assoc es (e ∷ []) (told put))
    (reads_sessions (es ++ e ∷ []) s (entered inner) outer d.open_number None put p r (still_state es (command_record inner shown ∷ []) s (tt, tt) a)
    (others q.before (apart_front q.before q.l q.behind own) parts.0) (others q.behind (apart_back q.before q.l q.behind own) parts.1.1)
    (due_by q.l.kind asked (ap (λ z. z == q.l.number) (sym q.its) ∙ eq-eqb q.l.number q.l.number refl) parts.1.0))
  where
    due_by : (kind : OpenKind) → booted_drive (so_far_by es (so_far es) (puts (command_record inner (shown_words s.table ws)))) ≡ Some d → (d.open_number == r.asks.l.number) ≡ true → AgreesBy es kind r.asks.l →
        DueBy (es ++ puts (command_record inner (shown_words s.table ws)) ∷ []) kind r.asks.l s.now
    due_by tftp asked its x = tt
    due_by (http isn) asked its x = tt
    due_by (iscsi isn i) asked its x =
        let shown = shown_words s.table ws in command_asks_session es r.asks.l isn i s.now inner.depth inner.passed inner.place shown.expanded shown.words d a.time asked its x
    due_by (dns id) asked its x = tt
    due_by (dhcp y) asked its x = tt
    due_by ping asked its x = tt

-- a drive is closed, and its command is over
dropped_sessions : (es : List Event) (s s2 : State) (inner : Running) (ws : List (List ℕ)) (number : ℕ) (put : List Out) (cause : Cause) → DropsDrive s number put s2 → BringsNothing es (puts (command_record inner (shown_words s.table ws))) →
    AgreesState es s → SessionsAgree es s.live →
    SessionsAgree (es ++ told (command_record inner (shown_words s.table ws) ∷ put ++ (result cause ∷ []))) s2.live
dropped_sessions es s s2 inner ws number put cause drops nothing a w =
    let b = command_record inner (shown_words s.table ws) ∷ [] in
    let es1 = es ++ told b in
    let w3 = plain_sessions (es1 ++ told put) (result cause ∷ []) s2.live (tt, tt) (tt, tt) (sessions_dropped es1 s s2 number put drops (still_state es b s (tt, tt) a) (command_sessions es s inner ws [] s.live nothing (tt, tt) tt w)) in
    subst (λ z. SessionsAgree z s2.live) (ap (λ z. z ++ told (result cause ∷ [])) (told_two es b put) ∙ told_two es (b ++ put) (result cause ∷ [])) w3

silent_plain : (o : Out) → IsSilent o → IsNoCommand o
silent_plain (command depth line place expanded words) h = absurd h
silent_plain (step number) h = tt
silent_plain _ h = tt

-- Nothing is outstanding after it, where nothing was before.
pub move_sessions : (es : List Event) (m : Progress) (added : List Out) (m2 : Progress) → Proceeds m added m2 → AgreesStanding es m.standing → MayHook es m.standing → MayAsk es m.standing → SessionsStand es m.standing →
    SessionsStand (es ++ told added) m2.standing
move_sessions es m added m2 (course.passes n s inner next outer comes) a r may w = none_put es [] s.live refl w
move_sessions es m added m2 (course.is_left n s inner outer cause comes) a r may w = plain_sessions es (leave inner.depth cause ∷ []) s.live (tt, tt) (tt, tt) w
move_sessions es m added m2 (course.hands_back n s inner outer cause) a r may w = plain_sessions es (result cause ∷ []) s.live (tt, tt) (tt, tt) w
move_sessions es m added m2 (course.concludes_there n s inner outer c cs x put p comes few is leads) a r may w =
    let ws = c ∷ cs in
    let b = command_record inner (shown_words s.table ws) ∷ conclusion_records x in
    let nothing = asks_nothing es s inner outer ws (concludes_now x) may is refl in
    subst (λ z. SessionsStand z p) (told_two es b put) (conclusion_sessions (es ++ told b) s (entered inner) outer x put p leads (command_sessions es s inner ws (conclusion_records x) s.live nothing (tt, still_conclusion x) (plain_conclusion x) w))
move_sessions es m added m2 (course.yields n s inner outer c cs comes full) a r may w = none_put es [] s.live refl w
move_sessions es m added m2 (course.does n s s2 inner outer c cs x comes few is stay) a r may w =
    let ws = c ∷ cs in
    let shown = shown_words s.table ws in
    subst (SessionsAgree (es ++ told (command_records inner shown x))) (sym (ends_keep s s2 _ _ _ x is).lives)
    (command_sessions es s inner ws (prints x.prints ++ (result x.cause ∷ [])) s.live (asks_nothing es s inner outer ws (ends x s2) may is refl) (still_command inner shown x) (plain_prints x.prints x.cause) w)
move_sessions es m added m2 (course.closes_device n s s2 inner outer c cs put over comes few is all) a r may w = tt
move_sessions es m added m2 (course.goes_to_hook n s s2 inner outer c cs hooking put next comes few is drops next_asked) a r may w =
    let ws = c ∷ cs in
    let b = command_record inner (shown_words s.table ws) ∷ [] in
    let nothing = asks_nothing es s inner outer ws (hooks_one hooking) may is refl in
    subst (λ z. SessionsAgree z s2.live) (told_two es b put) (sessions_dropped (es ++ told b) s s2 hooking.number put drops (still_state es b s (tt, tt) a) (command_sessions es s inner ws [] s.live nothing (tt, tt) tt w))
move_sessions es m added m2 (course.hooks_none n s s2 inner outer c cs hooking put cause comes few is drops next_asked) a r may w =
    dropped_sessions es s s2 inner (c ∷ cs) hooking.number put cause drops (asks_nothing es s inner outer (c ∷ cs) (hooks_one hooking) may is refl) a w
move_sessions es m added m2 (course.unhooks n s s2 inner outer c cs number put cause comes few is drops) a r may w =
    dropped_sessions es s s2 inner (c ∷ cs) number put cause drops (asks_nothing es s inner outer (c ∷ cs) (lets_go number cause) may is refl) a w
move_sessions es m added m2 (course.boots_hooked n s inner outer c cs number d put p comes few is some reads) a r may w = boots_sessions es s inner outer (c ∷ cs) number d put p is some reads may a w
move_sessions es m added m2 (course.leaves n s s2 inner outer c cs x comes few is away) a r may w =
    let ws = c ∷ cs in
    let shown = shown_words s.table ws in
    let last = leave inner.depth x.cause ∷ [] in
    subst (SessionsAgree (es ++ told (command_records inner shown x ++ last))) (sym (ends_keep s s2 _ _ _ x is).lives)
    (command_sessions es s inner ws ((prints x.prints ++ (result x.cause ∷ [])) ++ last) s.live (asks_nothing es s inner outer ws (ends x s2) may is refl) (more_still (command_records inner shown x) last (still_command inner shown x) (tt, tt))
    (all_append IsNoCommand (prints x.prints ++ (result x.cause ∷ [])) last (plain_prints x.prints x.cause) (tt, tt)) w)
move_sessions es m added m2 (course.jumps n s inner outer c cs name line comes few is there) a r may w =
    command_sessions es s inner (c ∷ cs) (result ok ∷ []) s.live (asks_nothing es s inner outer (c ∷ cs) (goes_to name) may is refl) (still_command inner (shown_words s.table (c ∷ cs)) (refused ok)) (tt, tt) w
move_sessions es m added m2 (course.finds_no_label n s inner outer c cs name comes few is none) a r may w =
    command_sessions es s inner (c ∷ cs) (result no_label ∷ []) s.live (asks_nothing es s inner outer (c ∷ cs) (goes_to name) may is refl) (still_command inner (shown_words s.table (c ∷ cs)) (refused no_label)) (tt, tt) w
move_sessions es m added m2 (course.falls_asleep n s inner outer c cs t comes few is) a r may w =
    command_sessions es s inner (c ∷ cs) [] s.live (asks_nothing es s inner outer (c ∷ cs) (waits_until t) may is refl) (tt, tt) tt w
move_sessions es m added m2 (course.opens_one n s s2 inner outer c cs l job link put comes few is got first) a r may w =
    let ws = c ∷ cs in
    let b = command_record inner (shown_words s.table ws) ∷ [] in
    let es1 = es ++ told b in
    let k = opens_next s s2 _ _ _ l job is in
    let f = begun_so link l put first in
    let nothing = asks_nothing es s inner outer ws (opens s2 l job) may is refl in
    subst (λ z. SessionsAgree z (with_opened s2 l).live) (told_two es b (open_record l ∷ put))
    (sessions_opened es1 s2 l put k.1 (opens_settings es1 s s2 _ _ _ l job is) f.0 f.3 (kept_state es1 s s2 k.0 (still_state es b s (tt, tt) a)) (subst (SessionsAgree es1) (sym k.0.lives) (command_sessions es s inner ws [] s.live nothing (tt, tt) tt w)))
move_sessions es m added m2 (course.finds_no_route n s s2 inner outer c cs l job link comes few is got none) a r may w =
    let ws = c ∷ cs in
    let b = command_record inner (shown_words s.table ws) ∷ [] in
    let es1 = es ++ told b in
    let k = opens_next s s2 _ _ _ l job is in
    let two = open_record l ∷ end_record l (no_route l.server) ∷ [] in
    let last = conclusion_records (fails (no_route l.server)) in
    let nothing = asks_nothing es s inner outer ws (opens s2 l job) may is refl in
    let made = made_sessions es1 s2 l (end_record l (no_route l.server) ∷ []) k.1 (refl, tt) (kept_state es1 s s2 k.0 (still_state es b s (tt, tt) a)) (subst (SessionsAgree es1) (sym k.0.lives) (command_sessions es s inner ws [] s.live nothing (tt, tt) tt w)) in
    subst (λ z. SessionsAgree z s2.live) (ap (λ z. z ++ told last) (told_two es b two) ∙ told_two es (b ++ two) last) (plain_sessions (es1 ++ told two) last s2.live (tt, tt) (tt, tt) made)
move_sessions es m added m2 (course.opens_onward n s inner outer next link put few got first) a r may w =
    let l = live_onward s next in
    let f = begun_so link l put first in
    sessions_opened es s l put (onward_so es s next r) (onward_settings es s next r) f.0 f.3 a w
move_sessions es m added m2 (course.finds_no_way n s inner outer next link few got none) a r may w =
    let l = live_onward s next in
    let two = open_record l ∷ end_record l (no_route l.server) ∷ [] in
    let last = conclusion_records (fails (no_route l.server)) in
    subst (λ z. SessionsAgree z s.live) (told_two es two last)
    (plain_sessions (es ++ told two) last s.live (tt, tt) (tt, tt) (made_sessions es s l (end_record l (no_route l.server) ∷ []) (onward_so es s next r) (refl, tt) a w))
move_sessions es m added m2 (course.opens_no_more n s inner outer next full) a r may w = plain_sessions es (result full_opens ∷ []) s.live (tt, tt) (tt, tt) w
move_sessions es m added m2 (course.hands n s o rest) a r may w = plain_sessions es (o ∷ []) s.live (a.1.0, tt) (silent_plain o a.2.0, tt) w
move_sessions es m added m2 (course.has_handed n s) a r may w = none_put es [] s.live refl w

-- A command asks a drive for its first block: what the history says of the drives' sessions then, and that all that is put has its reasons.
use Rattle.std.proofs.Common.{◌≡◌, ℕ, ◌==◌, Bool, true, false, cond, List, [], ◌∷◌, ◌++◌, map, Option, Some, None, refl, sym, ◌∙◌, ap, subst, append-nil}
use Rattle.std.specs.List.{AllByRecursion}
use Rattle.nb_terms.specs.declared.cause.Cause.{Cause}
use Rattle.nb_defs.specs.Records.{Out, command}
use Rattle.nb_drivecmd.specs.declared.drive.Drive.{Drive}
use Rattle.nb_login.specs.declared.info.LoginInfo.{LoginInfo}
use Rattle.nb_stack.specs.Client.{Client}
use Rattle.nb_streams.proofs.FlowLaws.{all_append}
use Rattle.nb_talks.specs.Talking.{by_task}
use Rattle.nb_defs.specs.Causes.{is_ok_cause}
use Rattle.nb_talks.specs.TalkPromises.{Put, earlier}
use Rattle.nb_machine.specs.CommandRecords.{no_route}
use Rattle.nb_machine.specs.Connections.{connection_of, loses_way}
use Rattle.nb_openlaws.proofs.WebStands.{end_of_put}
use Rattle.nb_machine.specs.Courses.{AsksBlock}
use Rattle.nb_machine.specs.Drives.{first_block_read}
use Rattle.nb_machine.specs.Findings.{first_word}
use Rattle.nb_machine.specs.Kinds.{KeepsBy, Keeps}
use Rattle.nb_machine.specs.Lives.{OpenKind, tftp, http, iscsi, dns, dhcp, ping, task, exchange, Live, continued}
use Rattle.nb_machine.specs.States.{State}
use Rattle.nb_machine.specs.Takings.{end_among, Over, AllTake, all_have, lives_on, is_over}
use Rattle.nb_laws.specs.CommandsSoFar.{so_far, so_far_by, booted_drive}
use Rattle.nb_laws.specs.Drives.{asked_by, comes_so, told_session_mark, session_marks_of}
use Rattle.nb_laws.specs.Endings.{HadWay}
use Rattle.nb_laws.specs.Events.{Event, puts}
use Rattle.nb_laws.specs.Frames.{IsDue, by_asking}
use Rattle.nb_laws.specs.Histories.{client}
use Rattle.nb_laws.specs.Lists.{time}
use Rattle.nb_laws.specs.Progress.{IsAdvanced}
use Rattle.nb_laws.proofs.DriveEvents.{came_stays, mark_put}
use Rattle.nb_laws.proofs.DriveTalks.{command_asks, command_asks_other}
use Rattle.nb_laws.proofs.Histories.{hardware_more}
use Rattle.nb_laws.proofs.Tellings.{told, no_more, sessions_stay, session_marks_more}
use Rattle.nb_openlaws.specs.OpenReasons.{HaveWays}
use Rattle.nb_openlaws.specs.Sessions.{session_of_live, SessionAgrees, AgreesBy, AgreesSession, SessionsAgree}
use Rattle.nb_openlaws.specs.Standings.{live_opening, AreLive, lives_among, HaveOwnNumbers, AgreesState, AgreesDevice}
use Rattle.nb_openlaws.proofs.AllReasons.{TakenSo, taken_more, answer_on, link_of}
use Rattle.nb_openlaws.proofs.ExchangeReasons.{ExchangeSo}
use Rattle.nb_openlaws.proofs.KindFacts.{opening_as}
use Rattle.nb_openlaws.proofs.NetworkReasons.{all_of}
use Rattle.nb_openlaws.proofs.Networks.{back_of, apart_front, apart_back}
use Rattle.nb_openlaws.proofs.OpenRecords.{AreOf, of_later, kept_puts}
use Rattle.nb_openlaws.proofs.Sendings.{no_reasons}
use Rattle.nb_openlaws.proofs.SessionAnswers.{SaysBy, SessionsOver, talks_alike}
use Rattle.nb_openlaws.proofs.SessionExchanges.{drive_asked_so}
use Rattle.nb_openlaws.proofs.SessionMarks.{talk_put}
use Rattle.nb_openlaws.proofs.SessionNetworks.{not_its, or_none}
use Rattle.nb_openlaws.proofs.SessionStands.{task_goes, command_due}
use Rattle.nb_openlaws.proofs.SessionSteps.{taken_session, kept_last}
use Rattle.nb_openlaws.proofs.SessionTalks.{session_one_more}
use Rattle.nb_openlaws.proofs.SessionsDue.{SessionDue, SameSession, comes_now, sessions_on, quiet_of}

-- THE COMMAND

-- it leaves the session of every open that it doesn't ask
put_session : (j : ℕ) (es : List Event) (depth line place : ℕ) (expanded : Bool) (words : List (List ℕ)) → asked_by j es (command depth line place expanded words) ≡ [] → SameSession j es (es ++ puts (command depth line place expanded words) ∷ [])
put_session j es depth line place expanded words none =
    let e = puts (command depth line place expanded words) in
    record {
      hardware_is = hardware_more es e;
      sessions_is = sessions_stay j es e refl;
      came_is = came_stays j es e none;
      marks_is = session_marks_more j es e ∙ no_more (session_marks_of j es) _ (mark_put j es (command depth line place expanded words) none);
    }

-- and asks the one that it boots
pub command_asks_session : (es : List Event) (l : Live) (isn : ℕ) (i : LoginInfo) (now : ℕ) (depth line place : ℕ) (expanded : Bool) (words : List (List ℕ)) (d : Drive) → time es ≡ now →
    booted_drive (so_far_by es (so_far es) (puts (command depth line place expanded words))) ≡ Some d → (d.open_number == l.number) ≡ true → SessionAgrees es l isn i → SessionDue (es ++ puts (command depth line place expanded words) ∷ []) l isn i now
command_asks_session es l isn i now depth line place expanded words d at some its w =
    let e = puts (command depth line place expanded words) in
    let here = command_asks l.number es depth line place expanded words d some its ∙ ap (λ z. by_task first_block_read z ∷ []) at in
    command_due (es ++ e ∷ []) l isn i now (comes_now es e l isn i (by_task first_block_read now) tt refl here (ap (λ cs. map comes_so cs ++ told_session_mark l.number (time es) (command depth line place expanded words)) here) w)

pub command_asks_others : (es : List Event) (ls : List Live) (depth line place : ℕ) (expanded : Bool) (words : List (List ℕ)) (d : Drive) → booted_drive (so_far_by es (so_far es) (puts (command depth line place expanded words))) ≡ Some d →
    lives_among d.open_number ls ≡ false → SessionsAgree es ls → SessionsAgree (es ++ puts (command depth line place expanded words) ∷ []) ls
command_asks_others es ls depth line place expanded words d some away w =
    sessions_on es (es ++ puts (command depth line place expanded words) ∷ []) ls
    (λ j lives. put_session j es depth line place expanded words (command_asks_other j es depth line place expanded words d some (not_its d.open_number j ls away lives))) w

-- it stands in the last records
pub command_is_due : (k : ℕ) (es : List Event) (depth line place : ℕ) (expanded : Bool) (words : List (List ℕ)) (d : Drive) → booted_drive (so_far_by es (so_far es) (puts (command depth line place expanded words))) ≡ Some d →
    (d.open_number == k) ≡ true →
    IsDue k (es ++ puts (command depth line place expanded words) ∷ [])
command_is_due k es depth line place expanded words d some its = by_asking es (command depth line place expanded words) (by_task first_block_read (time es)) (command_asks k es depth line place expanded words d some its)

-- THE TASK

-- of a drive's
abbrev pub DueBy : List Event → OpenKind → Live → ℕ → Type 0
DueBy es tftp l now = Unit {0}
DueBy es (http isn) l now = Unit {0}
DueBy es (iscsi isn i) l now = SessionDue es l isn i now
DueBy es (dns id) l now = Unit {0}
DueBy es (dhcp a) l now = Unit {0}
DueBy es ping l now = Unit {0}

task_next : (kind : OpenKind) (es : List Event) (l : Live) (link : Client) (put : List Out) (now : ℕ) → KeepsBy kind (continued l (exchange (task first_block_read now) link put)) → end_among l.number put ≡ None → time es ≡ now → AreOf l.number put →
    DueBy es kind l now →
    AgreesBy (es ++ told put) kind (continued l (exchange (task first_block_read now) link put))
task_next tftp es l link put now keeps none at of due = tt
task_next (http isn) es l link put now keeps none at of due = tt
task_next (iscsi isn i) es l link put now keeps none at of due = let x = exchange (task first_block_read now) link put in task_goes es l isn i x now (kept_last isn i l x keeps) none refl at (quiet_of l.number l.number es put of) due
task_next (dns id) es l link put now keeps none at of due = tt
task_next (dhcp y) es l link put now keeps none at of due = tt
task_next ping es l link put now keeps none at of due = tt

task_over : (kind : OpenKind) (es : List Event) (l : Live) (link : Client) (put : List Out) (now : ℕ) → AreOf l.number put → DueBy es kind l now → SaysBy (es ++ told put) kind (continued l (exchange (task first_block_read now) link put))
task_over tftp es l link put now of due = tt
task_over (http isn) es l link put now of due = tt
task_over (iscsi isn i) es l link put now of due =
    let quiet = quiet_of l.number l.number es put of in
    record {
      boots = due.boots;
      word = due.word ∙ ap (λ h. first_word h.identity l.number) (sym quiet.hardware_is);
      is = quiet.sessions_is ∙ due.is;
      talk = talks_alike (talk_put l.number (session_of_live l i due.boots) es put quiet.hardware_is quiet.nothing ∙ due.talk ∙ sym (session_one_more isn i l (exchange (task first_block_read now) link put) (by_task first_block_read now) refl));
    }
task_over (dns id) es l link put now of due = tt
task_over (dhcp y) es l link put now of due = tt
task_over ping es l link put now of due = tt

-- the open takes the task, and lives on, or has ended by it; the others agree as they did
pub asks_sessions : (es : List Event) (s s' : State) (number : ℕ) (put : List Out) (over : List Over) (q : AsksBlock s number put s' over) → AgreesState es s →
    SessionsAgree es q.before → SessionsAgree es q.behind → DueBy es q.l.kind q.l s.now → SessionsAgree (es ++ told put) s'.live × SessionsOver (es ++ told put) over
asks_sessions es s s' number put over q a front back due =
    let es2 = es ++ told put in
    let own = subst HaveOwnNumbers q.parted a.apart in
    let others = λ (ls : List Live) (away : lives_among q.l.number ls ≡ false) (w : SessionsAgree es ls). sessions_on es es2 ls
    (λ j some. taken_session s.devices (task first_block_read s.now) (q.l ∷ []) put q.after over q.takes j (or_none (q.l.number == j) (not_its q.l.number j ls away some)) es) w in
    let t = by put q.after over q.takes in (
      subst (λ (z : State). SessionsAgree es2 z.live) (sym q.leaves)
          (all_append (AgreesSession es2) (q.before ++ q.after) q.behind (all_append (AgreesSession es2) q.before q.after (others q.before (apart_front q.before q.l q.behind own) front) t.0) (others q.behind (apart_back q.before q.l q.behind own) back)),
      t.1,
    )
  where
    l : Live
    l = q.l

    by : (put : List Out) (after : List Live) (over : List Over) → AllTake s.devices (task first_block_read s.now) (l ∷ []) put after over → SessionsAgree (es ++ told put) after × SessionsOver (es ++ told put) over
    by put0 after0 over0 (lives_on l0 ls after1 link put1 more1 over1 got_it keeps none all_have) =
        let x = exchange (task first_block_read s.now) link put1 in
        ((subst (λ z. AgreesSession (es ++ told z) (continued l x)) (sym (append-nil put1)) (task_next l.kind es l link put1 s.now keeps none a.time (kept_puts l x keeps).of due), tt), tt)
    by put0 after0 over0 (is_over l0 ls after1 link put1 more1 over1 cause got_it keeps some all_have) =
        let x = exchange (task first_block_read s.now) link put1 in
        (tt, (subst (λ z. SaysBy (es ++ told z) l.kind (continued l x)) (sym (append-nil put1)) (task_over l.kind es l link put1 s.now (kept_puts l x keeps).of due), tt))

-- one that has ended by it hasn't ended well: there is no way to its server
asked_fails : (isn : ℕ) (i : LoginInfo) (l : Live) (link : Client) (put : List Out) (now : ℕ) (cause : Cause) → KeepsBy (iscsi isn i) (continued l (exchange (task first_block_read now) link put)) → end_among l.number put ≡ Some cause →
    is_ok_cause cause ≡ false
asked_fails isn i l link put now cause keeps some =
    let x = exchange (task first_block_read now) link put in
    let c = connection_of isn l in
    let kept = kept_last isn i l x keeps in
    lost kept.put.over (loses_way c link kept.put.sends) (ap (λ (p : Put). p.over) kept.puts) (sym (end_of_put c link kept.put) ∙ ap (end_among l.number) (sym kept.records) ∙ some)
  where
    lost : (over : Option Cause) (b : Bool) → over ≡ None → earlier over (cond b (Some (no_route l.server)) None) ≡ Some cause → is_ok_cause cause ≡ false
    lost (Some why) b none is = absurd (cc)
    lost None true none is = let same : no_route l.server ≡ cause = cc in sym (ap is_ok_cause same)
    lost None false none is = absurd (cc)

pub asks_fail : (es : List Event) (s s' : State) (number : ℕ) (put : List Out) (over : List Over) (q : AsksBlock s number put s' over) (isn : ℕ) (i : LoginInfo) → q.l.kind ≡ iscsi isn i → AllByRecursion (λ o. is_ok_cause o.cause ≡ false) over
asks_fail es s s' number put over q isn i is = by put q.after over q.takes
  where
    by : (put : List Out) (after : List Live) (over : List Over) → AllTake s.devices (task first_block_read s.now) (q.l ∷ []) put after over → AllByRecursion (λ o. is_ok_cause o.cause ≡ false) over
    by put0 after0 over0 (lives_on l0 ls after1 link put1 more1 over1 got_it keeps none all_have) = tt
    by put0 after0 over0 (is_over l0 ls after1 link put1 more1 over1 cause got_it keeps some all_have) =
        (asked_fails isn i q.l link put1 s.now cause (subst (λ z. KeepsBy z (continued q.l (exchange (task first_block_read s.now) link put1))) is keeps) some, tt)

-- all that it puts has its reasons
pub asks_reasons : (es : List Event) (s s' : State) (number : ℕ) (put : List Out) (over : List Over) (q : AsksBlock s number put s' over) (isn : ℕ) (i : LoginInfo) → q.l.kind ≡ iscsi isn i → AgreesState es s → AgreesDevice es s →
    HaveWays es s.live → IsAdvanced es →
    IsDue q.l.number es → SessionDue es q.l isn i s.now → TakenSo es put over
asks_reasons es s s' number put over q isn i is a device ways advanced due ahead = by put q.after over q.takes
  where
    l : Live
    l = q.l

    own : AreLive es (l ∷ q.behind)
    own = back_of es q.before (l ∷ q.behind) (subst (AreLive es) q.parted a.each)

    way : HadWay l.number es (live_opening l)
    way = all_of (λ (z : Live). HadWay z.number es (live_opening z)) q.before l q.behind (subst (HaveWays es) q.parted ways)

    exchanged : (link : Client) (put1 : List Out) → client es ≡ link → Keeps (continued l (exchange (task first_block_read s.now) link put1)) → ExchangeSo l.kind es l (exchange (task first_block_read s.now) link put1)
    exchanged link put1 same keeps =
        let x = exchange (task first_block_read s.now) link put1 in
        subst (λ z. ExchangeSo z es l x) (sym is)
        (drive_asked_so es l x isn i s.now refl ahead same (own.0.opening ∙ ap (λ z. opening_as z l ∷ []) is) own.0.lives due (subst (λ z. HadWay l.number es (opening_as z l)) is way) advanced (subst (λ z. KeepsBy z (continued l x)) is keeps))

    by : (put : List Out) (after : List Live) (over : List Over) → AllTake s.devices (task first_block_read s.now) (l ∷ []) put after over → TakenSo es put over
    by put0 after0 over0 (lives_on l0 ls after1 link put1 more1 over1 got_it keeps none all_have) =
        let x = exchanged link put1 (link_of es s.devices l link device own.0.on_net0 got_it) keeps in
        taken_more es put1 [] [] x.reasons (record { reasons = no_reasons (es ++ told put1) x.reasons.after; answers = tt })
    by put0 after0 over0 (is_over l0 ls after1 link put1 more1 over1 cause got_it keeps some all_have) =
        let k = l.number in
        let of = (kept_puts l (exchange (task first_block_read s.now) link put1) keeps).of in
        let x = exchanged link put1 (link_of es s.devices l link device own.0.on_net0 got_it) keeps in
        let t = taken_more es put1 [] [] x.reasons (record { reasons = no_reasons (es ++ told put1) x.reasons.after; answers = tt }) in
        record { reasons = t.reasons; answers = (x.answers cause some ∙ sym (answer_on es (put1 ++ []) k (live_opening l) (all_append _ put1 [] (of_later k put1 of) tt)), tt) }

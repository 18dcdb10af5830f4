-- What the three stand for before a call, and after one by which all go on, whichever runs of theirs are taken.
use Rattle.std.proofs.Common.{◌≡◌, ℕ, false, List, [], ◌∷◌, ◌++◌, length, Some, None, refl, sym, ap, ◌∙◌, subst}
use Rattle.std.proofs.lemmas.Option.{none-some}
use Rattle.nb_disk.specs.DiskAnswers.{session_has_ended as drive_has_ended, opened_of}
use Rattle.nb_disk.specs.Histories.{DiskCall}
use Rattle.nb_terms.specs.declared.acts.Acts.{Acts}
use Rattle.nb_graph.specs.Deeds.{Stage, no_memory, told_of}
use Rattle.nb_graph.specs.Trace.{NodeEntry}
use Rattle.nb_graph.specs.Whole.{Objects}
use Rattle.nb_iscsipdu.specs.Streams.{cut, is_refused}
use Rattle.nb_ledger.specs.Flat.{Notice}
use Rattle.nb_login.specs.declared.session.Session.{Session}
use Rattle.nb_login.specs.LoginHistory.{LoginEntry, login_ended}
use Rattle.nb_login.specs.Logins.{login_history}
use Rattle.nb_streams.specs.Flows.{TcpCall, text_came}
use Rattle.nb_streams.specs.Streams.{has_ended}
use Rattle.nb_tcp.specs.ConnHistory.{ConnEntry, EachConnEntry, calls_in, conn_entry, delivered, tcp_calls}
use Rattle.nb_tcp.specs.ConnPromises.{AsksAsPromised, ConnKeeps}
use Rattle.nb_conns.specs.ConnAsks.{link_of}
use Rattle.nb_conns.specs.Dialogues.{ConversesTo, Dialogue, IsConnAt, talking, unopened}
use Rattle.nb_drivechains.specs.declared.drive_chain.DriveChain.{DriveChain}
use Rattle.nb_drivechains.specs.DriveChains.{three_of}
use Rattle.nb_drivenodes.specs.DriveAsks.{DriveAskParts}
use Rattle.nb_drivenodes.specs.SessionTalks.{SessionTalk, SessionTalksTo, in_session, logging_in, login_failed, session_cut, session_drained, session_unasked}
use Rattle.nb_drivenodes.specs.UnitTalks.{UnitTalk, UnitTalksTo, unit_cut, unit_over, unit_unasked, unit_waits, unit_works}
use Rattle.nb_nodes.specs.declared.load.Load.{Load}
use Rattle.nb_nodes.specs.declared.obj.Obj.{Obj}
use Rattle.nb_nodes.specs.Carriers.{conn_carrier, text_carrier}
use Rattle.nb_opens.specs.Entries.{entries_of}
use Rattle.nb_opens.specs.Notices.{first_close}
use Rattle.nb_sans.specs.Sessions.{ReadTask}
use Rattle.nb_sans.specs.SessionSteps.{AreAskedBy}
use Rattle.nb_talks.specs.Talking.{Talk, come_of, talk_held}
use Rattle.nb_webchains.specs.WebChains.{IsInOrder}
use Rattle.nb_webtalks.specs.TalkStands.{HasHadCalls, stream_by}
use Rattle.nb_webtalks.proofs.Coming.{conversed_parts, each_at, gave_all, is_talked, kept_at}
use Rattle.nb_webtalks.proofs.Lowers.{had}
use Rattle.nb_drivetalks.specs.SessionStands.{SessionHasRead, HasWorked, StandsForSession}
use Rattle.nb_drivetalks.proofs.Cames.{Reads, in_drive, in_login}
use Rattle.nb_drivetalks.proofs.DriveParts.{HasHad}
use Rattle.nb_drivetalks.proofs.SessionParts.{none_open}
use Rattle.nb_drivetalks.proofs.Starting.{Started, call_of}
use Rattle.nb_drivetalks.proofs.Talks.{Failed, ran_out, text_broke}
use Rattle.nb_drivetalks.proofs.Walking.{DriveCall}

-- RUNS IN TWO PARTS

pub unit_parts : (u f : UnitTalk) (s t : List (NodeEntry Obj Load)) → UnitTalksTo text_carrier u (s ++ t) f → (q : UnitTalk) × UnitTalksTo text_carrier u s q × UnitTalksTo text_carrier q t f
unit_parts u f [] t h = (u, refl, h)
unit_parts u f (e ∷ s) t h = let y = unit_parts h.0 f s t h.2 in (y.0, (h.0, h.1, y.1), y.2)

pub session_parts : (r f : SessionTalk) (s t : List (NodeEntry Obj Load)) → SessionTalksTo text_carrier r (s ++ t) f → (q : SessionTalk) × SessionTalksTo text_carrier r s q × SessionTalksTo text_carrier q t f
session_parts r f [] t h = (r, refl, h)
session_parts r f (e ∷ s) t h = let y = session_parts h.0 f s t h.2 in (y.0, (h.0, h.1, y.1), y.2)

-- WHERE THEY ARE

-- a unit and a session that go on do so together
login_reads : (a : DriveAskParts) (come taken : List ℕ) (tasks : List (ReadTask × ℕ)) (b : DriveAskParts) (h : List LoginEntry) → SessionHasRead a come (logging_in b taken h) → Reads a tasks come unit_waits (logging_in b taken h)
login_reads a come taken tasks b h r =
    let ms = r.3.0 in
    let is : h ≡ login_history a.info ms = r.3.1 in
    let here : Reads a tasks come unit_waits (logging_in a come (login_history a.info ms)) = in_login ms r.3.2 (ap login_ended (sym is) ∙ r.2) in
    subst (λ z. Reads a tasks come unit_waits (logging_in z taken h)) (sym r.0) (subst (λ z. Reads a tasks come unit_waits (logging_in a z h)) (sym r.1) (subst (λ z. Reads a tasks come unit_waits (logging_in a come z)) (sym is) here))

drive_reads : (a : DriveAskParts) (come taken : List ℕ) (tasks : List (ReadTask × ℕ)) (b : DriveAskParts) (h : List LoginEntry) (o : _) (chap : ℕ) (calls : List DiskCall) → HasWorked a come tasks (unit_works o chap calls) → b ≡ a → taken ≡ come
    → Reads a tasks come (unit_works o chap calls) (in_session b taken h)
drive_reads a come taken tasks b h o chap calls w own all =
    let s : Session = w.0 in
    let had : HasHad a.info come tasks s calls = record { opens = w.1; same = w.4; lives = subst (λ z. drive_has_ended z calls ≡ false) w.2 w.5 } in
    let here : Reads a tasks come (unit_works (opened_of s) s.chap calls) (in_session a come h) = in_drive h s calls had in
    subst (λ z. Reads a tasks come (unit_works o chap calls) (in_session z taken h)) (sym own) (subst (λ z. Reads a tasks come (unit_works o chap calls) (in_session a z h)) (sym all)
    (subst (λ z. Reads a tasks come (unit_works o z calls) (in_session a come h)) (sym w.3) (subst (λ z. Reads a tasks come (unit_works z s.chap calls) (in_session a come h)) (sym w.2) here)))

pub reads_of : (a : DriveAskParts) (come : List ℕ) (tasks : List (ReadTask × ℕ)) (u : UnitTalk) (r : SessionTalk) → HasWorked a come tasks u → SessionHasRead a come r → Reads a tasks come u r
reads_of a come tasks unit_unasked r w h = absurd w
reads_of a come tasks unit_waits session_unasked w h = absurd h
reads_of a come tasks unit_waits (logging_in b taken es) w h = login_reads a come taken tasks b es h
reads_of a come tasks unit_waits (in_session b taken es) w h = absurd (none-some h.2.0 (sym w ∙ h.2.1))
reads_of a come tasks unit_waits (session_drained b taken es) w h = absurd h
reads_of a come tasks unit_waits (login_failed b taken es over) w h = absurd h
reads_of a come tasks unit_waits session_cut w h = absurd h
reads_of a come tasks (unit_works o chap calls) session_unasked w h = absurd h
reads_of a come tasks (unit_works o chap calls) (logging_in b taken es) w h = absurd (none-some w.0 (sym (none_open a.info come h.3.0 h.3.2 (ap login_ended (sym h.3.1) ∙ h.2)) ∙ w.1))
reads_of a come tasks (unit_works o chap calls) (in_session b taken es) w h = drive_reads a come taken tasks b es o chap calls w h.0 h.1
reads_of a come tasks (unit_works o chap calls) (session_drained b taken es) w h = absurd h
reads_of a come tasks (unit_works o chap calls) (login_failed b taken es over) w h = absurd h
reads_of a come tasks (unit_works o chap calls) session_cut w h = absurd h
reads_of a come tasks (unit_over o chap calls over) r w h = absurd w
reads_of a come tasks unit_cut r w h = absurd w

worked_of : (a : DriveAskParts) (come : List ℕ) (tasks : List (ReadTask × ℕ)) (u : UnitTalk) (r : SessionTalk) → Reads a tasks come u r → HasWorked a come tasks u
worked_of a come tasks _ _ (in_login ks pdus on) = none_open a.info come ks pdus on
worked_of a come tasks _ _ (in_drive h s calls had) = (s, had.opens, refl, refl, had.same, had.lives)

read_of : (a : DriveAskParts) (come : List ℕ) (tasks : List (ReadTask × ℕ)) (u : UnitTalk) (r : SessionTalk) → Reads a tasks come u r → SessionHasRead a come r
read_of a come tasks _ _ (in_login ks pdus on) = (refl, refl, on, (ks, refl, pdus))
read_of a come tasks _ _ (in_drive h s calls had) = (refl, refl, (s, had.opens))

-- how much of the stream a session took
abbrev taken_of : SessionTalk → List ℕ
taken_of session_unasked = []
taken_of (logging_in a taken h) = taken
taken_of (in_session a taken h) = taken
taken_of (session_drained a taken h) = taken
taken_of (login_failed a taken h over) = taken
taken_of session_cut = []

took_so : (a : DriveAskParts) (come : List ℕ) (tasks : List (ReadTask × ℕ)) (u : UnitTalk) (r : SessionTalk) → Reads a tasks come u r → taken_of r ≡ come
took_so a come tasks _ _ (in_login ks pdus on) = refl
took_so a come tasks _ _ (in_drive h s calls had) = refl

-- what failed closed something
pub failed_closes : (c : DriveCall) (ds : List _) → Failed c ds → first_close (told_of ds) ≡ None → ⊥
failed_closes c ds (ran_out out) none = none-some _ (sym none ∙ out)
failed_closes c ds (text_broke b start before rest text acts y asked is over closes) none = none-some y (sym none ∙ closes)

-- WHERE THEY ARE THEN

-- By these runs all go on: so much of the stream has come, and the connection has had the calls that this brings.
pub record Goes (a : DriveAskParts) (start : ℕ) (tasks : List (ReadTask × ℕ)) (calls_by : List ℕ → List TcpCall) (u : UnitTalk) (r : SessionTalk) (d : Dialogue) : Type 0 where
  pub come : List ℕ
  pub reads : Reads a tasks come u r
  pub after : List ConnEntry
  pub conn : d ≡ talking a.conn start after None
  pub called : tcp_calls after ≡ calls_by come
  pub gave : delivered after ≡ come

module _ (c : DriveChain) (order : IsInOrder (three_of c)) (h : Objects Obj) (now : ℕ) (asks : List (Stage Obj Load)) (ns : List Notice) (above between below : List (NodeEntry Obj Load)) (st : Started c order h now asks ns above between below)
    (a : DriveAskParts) (start : ℕ) (d : Talk ReadTask) (calls_by : List ℕ → List TcpCall)
    (every : (u : UnitTalk) (r : SessionTalk) (p : Dialogue) → UnitTalksTo text_carrier unit_unasked (above ++ entries_of c.unit.0 st.deeds) u → SessionTalksTo text_carrier session_unasked (between ++ entries_of c.session.0 st.deeds) r → ConversesTo conn_carrier unopened (below ++ entries_of c.conn.0 st.deeds) p
    → Goes a start d.tasks calls_by u r p) (come_is : (come : List ℕ) → stream_by a.conn (calls_by come) ≡ come_of a.conn.isn d) (calls_are : calls_by (come_of a.conn.isn d) ≡ d.calls) where
  -- by the run that the connection's node stands for, all has come
  all_come : (u : UnitTalk) (r : SessionTalk) (y : Goes a start d.tasks calls_by u r st.dialogue) → y.come ≡ come_of a.conn.isn d
  all_come u r y = sym y.gave ∙ gave_all st.state a.conn start y.after (subst (IsConnAt st.state) y.conn st.is_conn) ∙ ap (stream_by a.conn) y.called ∙ come_is y.come

  pub stands_then : has_ended (talk_held a.conn.isn d) ≡ false → is_refused (cut (come_of a.conn.isn d)).rest ≡ false → AreAskedBy (come_of a.conn.isn d) d.tasks → length a.info.lun ≡ 8 → StandsForSession a start d c h
  stands_then unended whole asked lun =
      let one = every st.work st.talk st.dialogue st.worked st.talked st.conversed in
      record {
        above = above ++ entries_of c.unit.0 st.deeds;
        between = between ++ entries_of c.session.0 st.deeds;
        below = below ++ entries_of c.conn.0 st.deeds;
        unit = st.unit;
        session = st.session;
        conn = st.conn;
        worked = λ u run. let y = every u st.talk st.dialogue run st.talked st.conversed in
            subst (λ z. HasWorked a z d.tasks u) (all_come u st.talk y) (worked_of a y.come d.tasks u st.talk y.reads);
        took = λ r run. let y = every st.work r st.dialogue st.worked run st.conversed in
            subst (λ z. SessionHasRead a z r) (all_come st.work r y) (read_of a y.come d.tasks st.work r y.reads);
        called = λ p run. let y = every st.work st.talk p st.worked st.talked run in
            let same : y.come ≡ come_of a.conn.isn d = sym (took_so a y.come d.tasks st.work st.talk y.reads) ∙ took_so a one.come d.tasks st.work st.talk one.reads ∙ all_come st.work st.talk one in
            subst (HasHadCalls a.conn start d.calls) (sym y.conn) (refl, refl, y.called ∙ ap calls_by same ∙ calls_are, y.gave ∙ same ∙ sym (come_same same), refl);
        lun = lun;
        unended = unended;
        whole = whole;
        asked = asked;
      }
    where
      come_same : {xs : List ℕ} → xs ≡ come_of a.conn.isn d → stream_by a.conn d.calls ≡ come_of a.conn.isn d
      come_same is = refl

-- WHERE A CALL FINDS THEM

-- Runs of the three, of which the first part is what they stood for.
pub record Parted (a : DriveAskParts) (start : ℕ) (d : Talk ReadTask) (above between below : List (NodeEntry Obj Load)) (u : UnitTalk) (r : SessionTalk) (p : Dialogue) : Type 0 where
  pub unit : UnitTalk
  pub session : SessionTalk
  pub entries : List ConnEntry
  pub reads : Reads a d.tasks (come_of a.conn.isn d) unit session
  pub called : tcp_calls entries ≡ d.calls
  pub gave : delivered entries ≡ come_of a.conn.isn d
  pub works : UnitTalksTo text_carrier unit above u
  pub talks : SessionTalksTo text_carrier session between r
  pub converses : ConversesTo conn_carrier (talking a.conn start entries None) below p

pub parted : {a : DriveAskParts} {start : ℕ} {d : Talk ReadTask} {c : DriveChain} {g : Objects Obj} (s : StandsForSession a start d c g) (above between below : List (NodeEntry Obj Load)) (u : UnitTalk) (r : SessionTalk) (p : Dialogue)
    → UnitTalksTo text_carrier unit_unasked (s.above ++ above) u → SessionTalksTo text_carrier session_unasked (s.between ++ between) r → ConversesTo conn_carrier unopened (s.below ++ below) p → Parted a start d above between below u r p
parted {a} {start} {d} s above between below u r p works talks converses =
    let x = unit_parts unit_unasked u s.above above works in
    let y = session_parts session_unasked r s.between between talks in
    let z = conversed_parts unopened p s.below below converses in
    let t = is_talked z.0 a.conn start d.calls (s.called z.0 z.1) in
    record {
      unit = x.0;
      session = y.0;
      entries = t.entries;
      reads = reads_of a (come_of a.conn.isn d) d.tasks x.0 y.0 (s.worked x.0 x.1) (s.took y.0 y.1);
      called = t.called;
      gave = t.gave;
      works = x.2;
      talks = y.2;
      converses = subst (λ w. ConversesTo conn_carrier w below p) t.is z.2;
    }

-- NO TEXT ENDS A CONNECTION

pub no_break : {c : DriveChain} {order : IsInOrder (three_of c)} {h : Objects Obj} {now : ℕ} {asks : List (Stage Obj Load)} {ns : List Notice} {above between below : List (NodeEntry Obj Load)} (st : Started c order h now asks ns above between below) (u : UnitTalk) (r : SessionTalk)
    → Failed (call_of c order h now u r st.dialogue) st.deeds → first_close (told_of st.deeds) ≡ Some no_memory
no_break st u r (ran_out out) = out
no_break {now = now} st u r (text_broke b start before rest text acts y asked is over closes) =
    let keeps : ConnKeeps (link_of b) start (had st.dialogue) = kept_at st.state st.dialogue b start st.is_conn asked in
    let so = each_at (AsksAsPromised (link_of b) start) [] before (conn_entry (calls_in (text_came text now)) acts) rest (subst (EachConnEntry (AsksAsPromised (link_of b) start) []) is keeps.each) in
    absurd (none-some y (sym (ap (λ (z : Acts). z.over) so.0) ∙ over))

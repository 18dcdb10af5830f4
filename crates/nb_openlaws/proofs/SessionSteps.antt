-- What the history says of the drives' sessions after records that are written, and after one that is used: each that lives agrees, but one at most
-- that has become known then, and is asked for its first block.
use Rattle.std.proofs.Common.{◌≡◌, ℕ, ◌==◌, Bool, true, false, List, [], ◌∷◌, ◌++◌, map, None, refl, sym, ◌∙◌, ap, subst, append_assoc, append-nil}
use Rattle.std.proofs.lemmas.List.{map-append}
use Rattle.nb_defs.specs.Records.{Out, step, tried}
use Rattle.nb_login.specs.declared.info.LoginInfo.{LoginInfo}
use Rattle.nb_sans.specs.Sessions.{ReadTask, session_talker}
use Rattle.nb_stack.specs.Client.{Client}
use Rattle.nb_talks.specs.Talking.{Came, by_time, by_task, time_of, talks_on}
use Rattle.nb_machine.specs.Connections.{connection_of, KeepsAt}
use Rattle.nb_machine.specs.Drives.{input_to_session, session_talking, session_of, first_block_read}
use Rattle.nb_machine.specs.Findings.{first_word}
use Rattle.nb_machine.specs.Kinds.{KeepsBy}
use Rattle.nb_machine.specs.Lives.{OpenKind, tftp, http, iscsi, dns, dhcp, ping, OpenInput, time as time_came, Exchange, exchange, Live, continued}
use Rattle.nb_machine.specs.Takings.{end_among, Over, AllTake, all_have, lives_on, is_over}
use Rattle.nb_laws.specs.Agreement.{IsStill, AreStill}
use Rattle.nb_laws.specs.Drives.{session_so_far, to_session, came_to_session_at, comes_so, told_session_mark, session_mark_at, session_marks_of}
use Rattle.nb_laws.specs.Events.{Event, starts, hears, waits, stops, puts, EachEvent}
use Rattle.nb_laws.specs.Lists.{time}
use Rattle.nb_laws.specs.Webs.{came_at}
use Rattle.nb_laws.proofs.DriveEvents.{BringsNothing, came_stays, came_told, marks_told, session_tries_by}
use Rattle.nb_laws.proofs.Tellings.{told, no_more, KeepsHardware, hardware_stays, sessions_stay, session_marks_more}
use Rattle.nb_openlaws.specs.Standings.{lives_among, HaveOwnNumbers}
use Rattle.nb_openlaws.specs.Sessions.{session_of_live, AgreesBy, SessionsAgree}
use Rattle.nb_openlaws.proofs.OpenRecords.{AreLater, AreOf, left, of_later, last_exchange, kept_puts}
use Rattle.nb_openlaws.proofs.OpenStates.{still_later}
use Rattle.nb_openlaws.proofs.SessionAnswers.{TalksSo, talks_alike, talks_ahead, SessionSays, SaysBy, SessionsOver}
use Rattle.nb_openlaws.proofs.SessionStands.{sizes, sized_as, unsized_talk, sized_talk, time_goes}
use Rattle.nb_openlaws.proofs.SessionTalks.{session_one_more}
use Rattle.nb_openlaws.proofs.SessionMarks.{talk_put}
use Rattle.nb_openlaws.proofs.SessionsDue.{SessionComes, ComesBy, AllSessionsCome, SameSession, agrees_on, other_session, sessions_on, others_come, Quiet, quiet_of}
use Rattle.nb_openlaws.proofs.Takings.{or_first, or_second}
use Rattle.nb_openlaws.proofs.UsedEvents.{IsUsed, BringsNone, no_opening}
use Rattle.nb_laws.proofs.DriveEvents.{talk_same}

-- RECORDS THAT ARE WRITTEN

pub then_session : (j : ℕ) (a b c : List Event) → SameSession j a b → SameSession j b c → SameSession j a c
then_session j a b c p q = record {
  hardware_is = q.hardware_is ∙ p.hardware_is;
  sessions_is = q.sessions_is ∙ p.sessions_is;
  came_is = q.came_is ∙ p.came_is;
  marks_is = q.marks_is ∙ p.marks_is;
}

-- those that ask nothing and tell no try leave each session
pub told_session : (j : ℕ) (es : List Event) (outs : List Out) → AreLater outs → EachEvent BringsNothing es (told outs) → session_tries_by j (time es) outs ≡ [] → SameSession j es (es ++ told outs)
told_session j es outs later none untold =
    let f = left es outs later in
    record {
      hardware_is = f.hardware_is;
      sessions_is = f.sessions_is j;
      came_is = came_told j es outs none;
      marks_is = marks_told j es outs none ∙ no_more (session_marks_of j es) (session_tries_by j (time es) outs) untold;
    }

still_mark : (j now : ℕ) (o : Out) → IsStill o → told_session_mark j now o ≡ []
still_mark j now (tried number count) h = absurd h
still_mark j now (step number) h = refl
still_mark j now _ h = refl

still_marks : (j now : ℕ) (outs : List Out) → AreStill outs → session_tries_by j now outs ≡ []
still_marks j now [] h = refl
still_marks j now (o ∷ outs) h = ap (λ z. z ++ session_tries_by j now outs) (still_mark j now o h.0) ∙ still_marks j now outs h.1

pub still_sessions : (es : List Event) (outs : List Out) (ls : List Live) → AreStill outs → EachEvent BringsNothing es (told outs) → SessionsAgree es ls → SessionsAgree (es ++ told outs) ls
still_sessions es outs ls still none w = sessions_on es (es ++ told outs) ls (λ j some. told_session j es outs (still_later outs still) none (still_marks j (time es) outs still)) w

-- RECORDS THAT ARE USED

used_came : (j : ℕ) (es : List Event) (e : Event) → IsUsed e → came_at j es e ≡ [] → came_to_session_at j es e ≡ []
used_came j es (puts o) u none = absurd u
used_came j es (hears n bytes m) u none = ap (map to_session) none
used_came j es (waits n ms) u none = ap (map to_session) none
used_came j es (starts n s) u none = refl
used_came j es (stops n) u none = refl

used_mark : (j : ℕ) (es : List Event) (e : Event) → IsUsed e → came_to_session_at j es e ≡ [] → session_mark_at j es e ≡ []
used_mark j es (puts o) u none = absurd u
used_mark j es (hears n bytes m) u none = ap (map comes_so) none
used_mark j es (waits n ms) u none = ap (map comes_so) none
used_mark j es (starts n s) u none = refl
used_mark j es (stops n) u none = refl

-- one that brings an open nothing leaves its session
pub used_session : (j : ℕ) (es : List Event) (e : Event) → IsUsed e → KeepsHardware e → BringsNone j es e → SameSession j es (es ++ e ∷ [])
used_session j es e u keeps none =
    let came = used_came j es e u none.1 in
    record {
      hardware_is = hardware_stays es e keeps;
      sessions_is = sessions_stay j es e (no_opening j es e u);
      came_is = came_stays j es e came;
      marks_is = session_marks_more j es e ∙ no_more (session_marks_of j es) (session_mark_at j es e) (used_mark j es e u came);
    }

-- SEVERAL TAKE WHAT COMES

-- the records of these leave the session of another
pub taken_session : (devices : List Client) (input : OpenInput) (ls : List Live) (put : List Out) (after : List Live) (over : List Over) → AllTake devices input ls put after over → (j : ℕ) → lives_among j ls ≡ false → (es : List Event) →
    SameSession j es (es ++ told put)
taken_session devices input ls put after over all_have j away es = subst (SameSession j es) (sym (append-nil es)) (record { hardware_is = refl; sessions_is = refl; came_is = refl; marks_is = refl })
taken_session devices input ls0 put0 after0 over0 (lives_on l ls after link put more over got_it keeps none rest) j away es =
    let of = (kept_puts l (exchange input link put) keeps).of in
    subst (SameSession j es) (append_assoc es (told put) (told more) ∙ ap (λ z. es ++ z) (sym (map-append puts put more)))
    (then_session j es (es ++ told put) ((es ++ told put) ++ told more) (other_session l.number j es put of (or_first (l.number == j) (lives_among j ls) away))
    (taken_session devices input ls more after over rest j (or_second (l.number == j) (lives_among j ls) away) (es ++ told put)))
taken_session devices input ls0 put0 after0 over0 (is_over l ls after link put more over cause got_it keeps some rest) j away es =
    let of = (kept_puts l (exchange input link put) keeps).of in
    subst (SameSession j es) (append_assoc es (told put) (told more) ∙ ap (λ z. es ++ z) (sym (map-append puts put more)))
    (then_session j es (es ++ told put) ((es ++ told put) ++ told more) (other_session l.number j es put of (or_first (l.number == j) (lives_among j ls) away))
    (taken_session devices input ls more after over rest j (or_second (l.number == j) (lives_among j ls) away) (es ++ told put)))

says_on : (a b : List Event) (l : Live) (isn : ℕ) (i : LoginInfo) → SameSession l.number a b → SessionSays a l isn i → SessionSays b l isn i
says_on a b l isn i q w = record { boots = w.boots; word = w.word ∙ ap (λ h. first_word h.identity l.number) (sym q.hardware_is); is = q.sessions_is ∙ w.is; talk = by w.talk }
  where
    same : session_so_far l.number (session_of_live l i w.boots) b ≡ session_so_far l.number (session_of_live l i w.boots) a
    same = talk_same l.number (session_of_live l i w.boots) b a q.hardware_is q.came_is

    by : TalksSo a l isn i w.boots → TalksSo b l isn i w.boots
    by (talks_alike is) = talks_alike (same ∙ is)
    by (talks_ahead now booting earlier last parted before is) = talks_ahead now booting earlier last parted before (same ∙ is)

pub says_stays : (a b : List Event) (kind : OpenKind) (l : Live) → SameSession l.number a b → SaysBy a kind l → SaysBy b kind l
says_stays a b tftp l q w = tt
says_stays a b (http isn) l q w = tt
says_stays a b (iscsi isn i) l q w = says_on a b l isn i q w
says_stays a b (dns id) l q w = tt
says_stays a b (dhcp x) l q w = tt
says_stays a b ping l q w = tt

pub agrees_stays : (a b : List Event) (kind : OpenKind) (l : Live) → SameSession l.number a b → AgreesBy a kind l → AgreesBy b kind l
agrees_stays a b tftp l q w = tt
agrees_stays a b (http isn) l q w = tt
agrees_stays a b (iscsi isn i) l q w = agrees_on a b l isn i q w
agrees_stays a b (dns id) l q w = tt
agrees_stays a b (dhcp x) l q w = tt
agrees_stays a b ping l q w = tt

-- one that what came has ended
pub over_says : (es : List Event) (l : Live) (isn : ℕ) (i : LoginInfo) (x : Exchange) (c : Came ReadTask) → input_to_session x.came ≡ c ∷ [] → Quiet l.number es x.put → SessionComes es l isn i c → SessionSays (es ++ told x.put) (continued l x) isn i
over_says es l isn i x c one quiet w = record { boots = w.boots; word = w.word ∙ ap (λ h. first_word h.identity l.number) (sym quiet.hardware_is); is = quiet.sessions_is ∙ w.is; talk = by (sizes es l isn i w.boots c) refl }
  where
    goes_on : session_of isn i (continued l x) ≡ talks_on (session_talker i) isn (session_of isn i l) c
    goes_on = session_one_more isn i l x c one

    by : (b : Bool) → sizes es l isn i w.boots c ≡ b → TalksSo (es ++ told x.put) (continued l x) isn i w.boots
    by false e = talks_alike (talk_put l.number (session_of_live l i w.boots) es x.put quiet.hardware_is quiet.nothing ∙ unsized_talk es l isn i c w e ∙ sym goes_on)
    by true e = let so = sized_as es l isn i w.boots c w.word e in talks_ahead (time_of c) so.0 l.exchanges x refl so.1
        (talk_put l.number (session_of_live l i w.boots) es x.put quiet.hardware_is quiet.nothing ∙ sized_talk es l isn i c w e ∙ ap (λ z. talks_on (session_talker i) isn z (by_task first_block_read (time_of c))) (sym goes_on))

-- A TIME

pub kept_last : (isn : ℕ) (i : LoginInfo) (l : Live) (x : Exchange) → KeepsBy (iscsi isn i) (continued l x) → KeepsAt (session_talking i) (connection_of isn l) l.exchanges x
kept_last isn i l x keeps = last_exchange (KeepsAt (session_talking i) (connection_of isn l)) [] l.exchanges x keeps

time_next : (kind : OpenKind) (es : List Event) (l : Live) (link : Client) (put : List Out) (now : ℕ) → KeepsBy kind (continued l (exchange (time_came now) link put)) → end_among l.number put ≡ None → time es ≡ now → AreOf l.number put →
    ComesBy es kind l (by_time now) →
    AgreesBy (es ++ told put) kind (continued l (exchange (time_came now) link put))
time_next tftp es l link put now keeps none at of come = tt
time_next (http isn) es l link put now keeps none at of come = tt
time_next (iscsi isn i) es l link put now keeps none at of come = let x = exchange (time_came now) link put in time_goes es l isn i x now (kept_last isn i l x keeps) none refl at (quiet_of l.number l.number es put of) come
time_next (dns id) es l link put now keeps none at of come = tt
time_next (dhcp y) es l link put now keeps none at of come = tt
time_next ping es l link put now keeps none at of come = tt

time_over : (kind : OpenKind) (es : List Event) (l : Live) (link : Client) (put : List Out) (now : ℕ) → AreOf l.number put → ComesBy es kind l (by_time now) → SaysBy (es ++ told put) kind (continued l (exchange (time_came now) link put))
time_over tftp es l link put now of come = tt
time_over (http isn) es l link put now of come = tt
time_over (iscsi isn i) es l link put now of come = over_says es l isn i (exchange (time_came now) link put) (by_time now) refl (quiet_of l.number l.number es put of) come
time_over (dns id) es l link put now of come = tt
time_over (dhcp y) es l link put now of come = tt
time_over ping es l link put now of come = tt

pub times_taken : (devices : List Client) (now : ℕ) (ls : List Live) (put : List Out) (after : List Live) (over : List Over) → AllTake devices (time_came now) ls put after over → (es : List Event) → time es ≡ now → HaveOwnNumbers ls →
    AllSessionsCome es (by_time now) ls →
    SessionsAgree (es ++ told put) after × SessionsOver (es ++ told put) over
times_taken devices now ls put after over all_have es at apart come = (tt, tt)
times_taken devices now ls0 put0 after0 over0 (lives_on l ls after link put more over got_it keeps none rest) es at apart come =
    let of = (kept_puts l (exchange (time_came now) link put) keeps).of in
    let es1 = es ++ told put in
    let f = left es put (of_later l.number put of) in
    let t = times_taken devices now ls more after over rest es1 (f.time_is ∙ at) apart.1 (others_come l.number es put ls (by_time now) of apart.0 come.1) in
    let same = taken_session devices (time_came now) ls more after over rest l.number apart.0 es1 in
    let all : es1 ++ told more ≡ es ++ told (put ++ more) = append_assoc es (told put) (told more) ∙ ap (λ z. es ++ z) (sym (map-append puts put more)) in (
      subst (λ z. SessionsAgree z (continued l (exchange (time_came now) link put) ∷ after)) all
          (agrees_stays es1 (es1 ++ told more) l.kind (continued l (exchange (time_came now) link put)) same (time_next l.kind es l link put now keeps none at of come.0), t.0),
      subst (λ z. SessionsOver z over) all t.1,
    )
times_taken devices now ls0 put0 after0 over0 (is_over l ls after link put more over cause got_it keeps some rest) es at apart come =
    let of = (kept_puts l (exchange (time_came now) link put) keeps).of in
    let es1 = es ++ told put in
    let f = left es put (of_later l.number put of) in
    let t = times_taken devices now ls more after over rest es1 (f.time_is ∙ at) apart.1 (others_come l.number es put ls (by_time now) of apart.0 come.1) in
    let same = taken_session devices (time_came now) ls more after over rest l.number apart.0 es1 in
    let all : es1 ++ told more ≡ es ++ told (put ++ more) = append_assoc es (told put) (told more) ∙ ap (λ z. es ++ z) (sym (map-append puts put more)) in (
      subst (λ z. SessionsAgree z after) all t.0,
      subst (λ z. SessionsOver z (record { live = continued l (exchange (time_came now) link put); cause = cause } ∷ over)) all
          (says_stays es1 (es1 ++ told more) l.kind (continued l (exchange (time_came now) link put)) same (time_over l.kind es l link put now of come.0), t.1),
    )

-- Why a drive's session ends: each cause stands in what came to it, and none is Ok.
use Rattle.std.proofs.Common.{◌≡◌, ℕ, Bool, true, false, cond, List, [], ◌∷◌, ◌++◌, Option, Some, None, refl, sym, ◌∙◌, ap, subst}
use Rattle.std.specs.List.{flat_map}
use Rattle.std.specs.Option.{is_some}
use Rattle.std.proofs.lemmas.Option.{same_Some}
use Rattle.nb_terms.specs.declared.cause.Cause.{Cause}
use Rattle.nb_defs.specs.Causes.{is_ok_cause}
use Rattle.nb_stack.specs.Client.{Client}
use Rattle.nb_retry.specs.declared.retry.Due.TheVariants.{Over}
use Rattle.nb_streams.specs.Segments.{Arrival}
use Rattle.nb_streams.specs.Flows.{TcpCall, segment_came, time_came, conn_phase}
use Rattle.nb_streams.specs.Sending.{syn}
use Rattle.nb_streams.specs.Trying.{TryTimer, TryMark, timer_after, due_tries, due_fired, fired, PlanIsOver, comes_in, mark_calls, HasTriedAll}
use Rattle.nb_streams.specs.Endings.{end_cause, plan_tries, segment_end, due_end, ConnEnds}
use Rattle.nb_talks.specs.Talking.{Came, by_segment, Talk, receives, talks_on}
use Rattle.nb_talks.specs.TalkPromises.{Sends, Put, talker_end, earlier}
use Rattle.nb_streams.specs.Streams.{front, has_ended}
use Rattle.nb_talks.specs.Talking.{talk_held}
use Rattle.nb_streams.proofs.EndLaws.{end_by_segment}
use Rattle.nb_iscsipdu.specs.Answers.{AnswerParts, answer_read}
use Rattle.nb_login.specs.declared.info.LoginInfo.{LoginInfo}
use Rattle.nb_login.specs.LoginHistory.{LoginEntry, login_ended, LoginMeets}
use Rattle.nb_login.specs.LoginStands.{session_opened}
use Rattle.nb_login.specs.LoginEndings.{LoginEnding}
use Rattle.nb_login.proofs.HistoryLaws.{history_meets}
use Rattle.nb_login.proofs.LoginEndedLaws.{unopened_fails}
use Rattle.nb_disk.specs.DiskEndings as disk_ends
use Rattle.nb_disk.specs.DiskEndings.{DiskEnding}
use Rattle.nb_disk.specs.Histories.{DiskReading, SessionNumbers}
use Rattle.nb_sans.specs.Sessions.{ReadTask, pdus_came, login_so_far, session_come, session_talker}
use Rattle.nb_sans.specs.SessionLaws.{SessionEnding, by_login_answer, by_drive_pdu, by_stream_end}
use Rattle.nb_sans.proofs.EndCauses.{ending}
use Rattle.nb_machine.specs.CommandRecords.{no_route}
use Rattle.nb_machine.specs.Drives.{session_of}
use Rattle.nb_machine.specs.Findings.{first_word}
use Rattle.nb_machine.specs.Lives.{iscsi, Live}
use Rattle.nb_machine.specs.Connections.{connection_of, loses_way, talk_end}
use Rattle.nb_laws.specs.Drives.{SessionOpening, session_by, session_so_far, came_to_session, session_marks}
use Rattle.nb_laws.specs.Endings.{fate_to, by_session, by_drive_connection, by_drive_silence, HadWay}
use Rattle.nb_laws.specs.Events.{Event}
use Rattle.nb_laws.specs.Lists.{hardware, time, Opening}
use Rattle.nb_laws.proofs.DriveEvents.{talk_same}
use Rattle.nb_openlaws.specs.OpenEndings.{by_itself, by_lost_way}
use Rattle.nb_openlaws.specs.Sessions.{TriesStand, session_of_live}
use Rattle.nb_openlaws.proofs.KindFacts.{opening_as, no_way_as}
use Rattle.nb_openlaws.proofs.WebTries.{timer_more, time_tries}
use Rattle.nb_openlaws.proofs.WebEnds.{broken_not_ok, any_lost}
use Rattle.nb_openlaws.proofs.ExchangeReasons.{EndStands}
use Rattle.nb_openlaws.proofs.SessionMarks.{marks_calls}
use Rattle.nb_openlaws.proofs.SessionTalks.{end_then, ends_alike}
use Rattle.nb_openlaws.proofs.SessionSendings.{SessionAt}
use Rattle.nb_openlaws.proofs.SessionsDue.{SessionComes}
use Rattle.nb_openlaws.proofs.SessionStands.{sizes, unsized_talk, sized_as}

-- NO SESSION ENDS WELL

not_ok_disk : (o : SessionNumbers) (r : DiskReading) (rec : ℕ) (a : AnswerParts) (cause : Cause) → DiskEnding o r rec a cause → is_ok_cause cause ≡ false
not_ok_disk o r rec a cause (disk_ends.by_login l is c) = ap is_ok_cause c
not_ok_disk o r rec a cause (disk_ends.by_other is c) = ap is_ok_cause c
not_ok_disk o r rec a cause (disk_ends.by_idle_response s is none c) = ap is_ok_cause c
not_ok_disk o r rec a cause (disk_ends.by_idle_data d is none c) = ap is_ok_cause c
not_ok_disk o r rec a cause (disk_ends.by_tag_of_response s is other c) = ap is_ok_cause c
not_ok_disk o r rec a cause (disk_ends.by_failed_response s is some c) = ap is_ok_cause c
not_ok_disk o r rec a cause (disk_ends.by_tag_of_data d is other c) = ap is_ok_cause c
not_ok_disk o r rec a cause (disk_ends.by_offset d is other c) = ap is_ok_cause c
not_ok_disk o r rec a cause (disk_ends.by_excess d command is work more c) = ap is_ok_cause c
not_ok_disk o r rec a cause (disk_ends.by_unsound command bytes s work ends good un c) = ap is_ok_cause c
not_ok_disk o r rec a cause (disk_ends.by_status command bytes s work ends bad impatient c) = ap is_ok_cause c

not_ok_login : (rec : ℕ) (i : LoginInfo) (stream : List ℕ) (before : List LoginEntry) (e : LoginEntry) (cause : Cause) → session_come rec i stream ≡ None → login_so_far rec i stream ≡ before ++ e ∷ [] → LoginEnding i before e cause → is_ok_cause cause ≡ false
not_ok_login rec i stream before e cause none all is =
    unopened_fails i before e cause (subst (LoginMeets i) all (history_meets i (pdus_came rec stream))) is (sym (ap (λ h. cond (login_ended h) (session_opened i h) None) all) ∙ none)

not_ok : (rec : ℕ) (i : LoginInfo) (stream : List ℕ) (ended : Bool) (tasks : List (ReadTask × ℕ)) (cause : Cause) → SessionEnding rec i stream ended tasks cause → is_ok_cause cause ≡ false
not_ok rec i stream ended tasks cause (by_login_answer before e none all is) = not_ok_login rec i stream before e cause none all is
not_ok rec i stream ended tasks cause (by_drive_pdu s before p opens all is) = not_ok_disk _ _ rec (answer_read p) cause is
not_ok rec i stream ended tasks cause (by_stream_end short c) = ap is_ok_cause c

pub session_not_ok : (i : LoginInfo) (isn rec : ℕ) (d : Talk ReadTask) (cause : Cause) → talker_end (session_talker i) isn rec d ≡ Some cause → is_ok_cause cause ≡ false
session_not_ok i isn rec d cause is =
    let h = talk_held isn d in
    not_ok rec i (front h) (has_ended h) d.tasks cause (ending rec i (front h) (has_ended h) d.tasks cause is)

-- WHY IT ENDS

-- the history after what it put beside its end
pub record SessionEnd (es : List Event) (l : Live) (link : Client) (i : LoginInfo) (isn : ℕ) (s : SessionOpening) (all : List TcpCall) : Type 0 where
  pub stands : SessionAt es (opening_as (iscsi isn i) l) link (connection_of isn l) s all
  pub had_way : HadWay l.number es (opening_as (iscsi isn i) l)
  pub word : isn ≡ first_word (hardware es).identity l.number

-- from what came on it has put records alone
pub record SinceThen (k : ℕ) (a b : List Event) : Type 0 where
  pub hardware_is : hardware b ≡ hardware a
  pub time_is : time b ≡ time a
  pub came_is : came_to_session k b ≡ came_to_session k a

-- one that its talk ends isn't asked for a block then
ended_unsized : (es : List Event) (l : Live) (i : LoginInfo) (isn rec : ℕ) (c : Came ReadTask) (boots : Bool) (why : Cause) → isn ≡ first_word (hardware es).identity l.number →
    talker_end (session_talker i) isn rec (talks_on (session_talker i) isn (session_of isn i l) c) ≡ Some why → sizes es l isn i boots c ≡ false
ended_unsized es l i isn rec c boots why word over = by (sizes es l isn i boots c) refl
  where
    by : (b : Bool) → sizes es l isn i boots c ≡ b → sizes es l isn i boots c ≡ false
    by false e = e
    by true e =
        let so = sized_as es l isn i boots c word e in
        let d2 = talks_on (session_talker i) isn (session_of isn i l) c in
        absurd (let no : true ≡ false = sym (ap is_some over) ∙ ends_alike l.server i isn rec d2 so.2 ∙ so.3 in cc)

pub drive_segment_stands : (es0 es : List Event) (l : Live) (link : Client) (i : LoginInfo) (isn : ℕ) (m : Arrival) (now : ℕ) (why : Cause) (all : List TcpCall) (from : SessionComes es0 l isn i (by_segment m now)) → SinceThen l.number es0 es →
    SessionEnd es l link i isn (session_of_live l i from.boots) all →
    earlier (talker_end (session_talker i) isn m.rec (receives isn (session_of isn i l) (by_segment m now))) (segment_end isn (conn_phase isn (session_of isn i l).calls) m) ≡ Some why → EndStands l.number es (opening_as (iscsi isn i) l) why
drive_segment_stands es0 es l link i isn m now why all from since w over = by ends (segment_end isn (conn_phase isn d.calls) m) refl refl over
  where
    k : ℕ
    k = l.number

    o : Opening
    o = opening_as (iscsi isn i) l

    d : Talk ReadTask
    d = session_of isn i l

    s : SessionOpening
    s = session_of_live l i from.boots

    ends : Option Cause
    ends = talker_end (session_talker i) isn m.rec (receives isn d (by_segment m now))

    -- its talk before
    before : session_by (hardware es) k s from.before ≡ d
    before = ap (λ h. session_by h k s from.before) since.hardware_is ∙ from.by_before

    by : (a b : Option Cause) → ends ≡ a → segment_end isn (conn_phase isn d.calls) m ≡ b → earlier a b ≡ Some why → EndStands k es o why
    by (Some one) b e f g =
        let over_then = end_then i isn m.rec d (by_segment m now) ∙ e ∙ g in (
          by_itself (by_session o (record { opening = w.stands.opening; kind_is = refl }) (record {
            session = s;
            is = w.stands.session;
            before = from.before;
            last = m;
            now = now;
            all = since.came_is ∙ from.all;
            earlier = from.rec;
            undecided = ap (λ z. talker_end (session_talker i) z from.rec (session_by (hardware es) k s from.before)) (sym w.word) ∙ ap (talker_end (session_talker i) isn from.rec) before ∙ from.undecided;
            ends = ap (λ z. talker_end (session_talker i) z m.rec (session_so_far k s es)) (sym w.word)
                ∙ ap (talker_end (session_talker i) isn m.rec)
                (talk_same k s es es0 since.hardware_is since.came_is ∙ unsized_talk es0 l isn i (by_segment m now) from (ended_unsized es0 l i isn m.rec (by_segment m now) from.boots why from.word over_then)) ∙ over_then;
          })),
          session_not_ok i isn m.rec (receives isn d (by_segment m now)) why (e ∙ g),
        )
    by None (Some one) e f g =
        let conn_ends : ConnEnds isn l.since d.calls (segment_came m now) why = end_by_segment isn l.since d.calls (conn_phase isn d.calls) m now why refl (f ∙ g) in (
          by_itself (by_drive_connection o (record { opening = w.stands.opening; kind_is = refl }) (record {
            session = s;
            is = w.stands.session;
            before = from.before;
            last = m;
            now = now;
            all = since.came_is ∙ from.all;
            ends = subst (λ z. ConnEnds z l.since (session_by (hardware es) k s from.before).calls (segment_came m now) why) w.word (subst (λ (z : Talk ReadTask). ConnEnds isn l.since z.calls (segment_came m now) why) (sym before) conn_ends);
          })),
          broken_not_ok isn l.since d.calls (segment_came m now) why conn_ends,
        )
    by None None e f g = absurd (cc)

-- the plan is over at a time
pub drive_time_stands : (es : List Event) (l : Live) (link : Client) (i : LoginInfo) (isn now : ℕ) (why : Cause) (s : SessionOpening) (all : List TcpCall) (marks : List TryMark) → SessionEnd es l link i isn s all → s.opening.since ≡ l.since →
    time es ≡ now →
    session_marks l.number s es ≡ marks ++ comes_in (time_came now) ∷ [] → (session_so_far l.number s es).calls ≡ (session_of isn i l).calls ++ time_came now ∷ [] → TriesStand isn l.since (session_of isn i l).calls marks →
    fired (timer_after isn l.since ((session_of isn i l).calls ++ time_came now ∷ [])) ≡ fired (timer_after isn l.since (session_of isn i l).calls) ++ due_fired now Over →
    due_end (timer_after isn l.since (session_of isn i l).calls).plan Over ≡ Some why → EndStands l.number es (opening_as (iscsi isn i) l) why
drive_time_stands es l link i isn now why s all marks w same_since at marked called stood fires over =
    let k = l.number in
    let o = opening_as (iscsi isn i) l in
    let before = (session_of isn i l).calls in
    let then = before ++ time_came now ∷ [] in
    let t = time_tries isn l.since before marks now Over fires stood in
    let calls_are : flat_map mark_calls (session_marks k s es) ≡ then = marks_calls k s es ∙ called in
    let timer_is : timer_after isn l.since (flat_map mark_calls (session_marks k s es)) ≡ timer_after isn l.since then = ap (timer_after isn l.since) calls_are in
    let is : end_cause 2 (plan_tries (timer_after isn l.since before).plan) 0 ≡ why = same_Some _ why over in
    let tried : HasTriedAll isn l.since now (session_marks k s es) = record {
      earlier = t.earlier;
      rest = t.rest;
      all = marked ∙ t.all;
      tried = t.tried ∙ ap due_tries (sym timer_is);
      over = subst (λ z. PlanIsOver z now) (sym timer_is) (record { earlier = fired (timer_after isn l.since before); last = fires });
    } in
    let plan : (timer_after isn l.since before).plan ≡ (timer_after (first_word (hardware es).identity k) s.opening.since (flat_map mark_calls (session_marks k s es))).plan =
    sym (ap (λ (x : TryTimer). x.plan) (timer_more isn l.since before (time_came now))) ∙ ap (λ (x : TryTimer). x.plan) (sym timer_is) ∙ ap (λ z. (timer_after z l.since (flat_map mark_calls (session_marks k s es))).plan) w.word
    ∙ ap (λ z. (timer_after (first_word (hardware es).identity k) z (flat_map mark_calls (session_marks k s es))).plan) (sym same_since) in (
      by_itself (by_drive_silence o (record { opening = w.stands.opening; kind_is = refl }) (record {
        session = s;
        is = w.stands.session;
        tried = subst (λ z. HasTriedAll (first_word (hardware es).identity k) z (time es) (session_marks k s es)) (sym same_since)
            (subst (λ z. HasTriedAll z l.since (time es) (session_marks k s es)) w.word (subst (λ z. HasTriedAll isn l.since z (session_marks k s es)) (sym at) tried));
        count = sym is ∙ ap (λ p. end_cause 2 (plan_tries p) 0) plan;
      })),
      ap is_ok_cause (sym is),
    )

-- by itself, or because a segment found no route
drive_lost_stands : (es : List Event) (l : Live) (link : Client) (i : LoginInfo) (isn : ℕ) (s : SessionOpening) (all : List TcpCall) (sends : Sends) (why : Cause) → SessionEnd es l link i isn s all →
    loses_way (connection_of isn l) link sends ≡ true → why ≡ no_route l.server →
    EndStands l.number es (opening_as (iscsi isn i) l) why
drive_lost_stands es l link i isn s all sends why w lost is =
    let o = opening_as (iscsi isn i) l in (
      by_lost_way o w.stands.opening is (ap (λ (z : Client). fate_to z o) w.stands.client_is ∙ no_way_as (iscsi isn i) (hardware es) l link w.word (any_lost (connection_of isn l) link (syn isn) sends lost)) w.had_way,
      ap is_ok_cause is,
    )

pub drive_end_stands : (es : List Event) (l : Live) (link : Client) (i : LoginInfo) (isn : ℕ) (s : SessionOpening) (all : List TcpCall) (p : Put) (why : Cause) → SessionEnd es l link i isn s all →
    ((one : Cause) → p.over ≡ Some one → EndStands l.number es (opening_as (iscsi isn i) l) one) → talk_end (connection_of isn l) link p ≡ Some why → EndStands l.number es (opening_as (iscsi isn i) l) why
drive_end_stands es l link i isn s all p why w own over = by p.over (loses_way (connection_of isn l) link p.sends) refl refl over
  where
    by : (a : Option Cause) (b : Bool) → p.over ≡ a → loses_way (connection_of isn l) link p.sends ≡ b → earlier a (cond b (Some (no_route l.server)) None) ≡ Some why → EndStands l.number es (opening_as (iscsi isn i) l) why
    by (Some one) b e f g = own why (e ∙ g)
    by None true e f g = let is : no_route l.server ≡ why = cc in drive_lost_stands es l link i isn s all p.sends why w f (sym is)
    by None false e f g = absurd (cc)

-- An exchange of a drive's session: all its records have their reasons.
use Rattle.std.proofs.Common.{◌≡◌, ℕ, ◌==◌, ◌<◌, Bool, true, false, List, [], ◌∷◌, ◌++◌, Some, None, refl, sym, ◌∙◌, ap, subst, append_assoc, append-nil}
use Rattle.std.specs.Prelude.{unwrap_or}
use Rattle.std.specs.List.{list_any, flat_map, AllByRecursion}
use Rattle.std.proofs.lemmas.List.Concat.{flat_map-append}
use Rattle.nb_terms.specs.declared.cause.Cause.{Cause}
use Rattle.nb_defs.specs.Records.{Out}
use Rattle.nb_retry.specs.declared.retry.Due.{Due}
use Rattle.nb_retry.specs.declared.retry.Due.TheVariants.{Not, Again, Over}
use Rattle.nb_streams.specs.Segments.{Arrival}
use Rattle.nb_streams.specs.Streams.{next}
use Rattle.nb_streams.specs.Flows.{TcpCall, conn_phase, held_after}
use Rattle.nb_streams.specs.Trying.{timer_after, fired, due_fired}
use Rattle.nb_streams.specs.Endings.{due_end}
use Rattle.nb_talks.specs.Talking.{Came, by_segment, by_time, by_task, Talk, time_of, talk_held, text_calls, text_to_send, texts_for, receives, talks_on}
use Rattle.nb_talks.specs.TalkPromises.{Put, PutsSo, due_sends}
use Rattle.nb_talks.proofs.TalkLaws.{held_with_texts}
use Rattle.nb_login.specs.declared.info.LoginInfo.{LoginInfo}
use Rattle.nb_sans.specs.Sessions.{ReadTask, session_talker}
use Rattle.nb_command.specs.SettingAddresses.{host}
use Rattle.nb_machine.specs.Sendings.{advance_records}
use Rattle.nb_machine.specs.Transfers.{end_records}
use Rattle.nb_machine.specs.Findings.{first_word}
use Rattle.nb_machine.specs.Lives.{iscsi, OpenInput, message, tcp_segment, time as time_came_to, task, close, Exchange, Live, continued}
use Rattle.nb_machine.specs.Kinds.{KeepsBy}
use Rattle.nb_machine.specs.Connections.{Connection, connection_of, arrived_segment, segment_records, talk_end, put_records, PutsAt, KeepsAt}
use Rattle.nb_machine.specs.Drives.{input_to_session, session_talking, session_of, first_block_read}
use Rattle.nb_machine.specs.Takings.{end_among}
use Rattle.nb_laws.specs.Drives.{SessionOpening, sessions, session_so_far, session_marks}
use Rattle.nb_laws.specs.Events.{Event}
use Rattle.nb_laws.specs.Frames.{IsDue}
use Rattle.nb_laws.specs.Histories.{client}
use Rattle.nb_laws.specs.Lists.{hardware, time, opens_file, Opening, openings, open_has_ended, last_place}
use Rattle.nb_laws.specs.Progress.{file_place, IsFurther, IsAdvanced}
use Rattle.nb_laws.proofs.DriveEvents.{came_told, told_nothing}
use Rattle.nb_laws.proofs.DriveTalks.{IsNoCommand, held_asked}
use Rattle.nb_laws.proofs.Tellings.{told, Kept, kept}
use Rattle.nb_laws.specs.Endings.{HadWay}
use Rattle.nb_openlaws.specs.OpenReasons.{OpenReasons}
use Rattle.nb_openlaws.specs.Sessions.{session_of_live}
use Rattle.nb_openlaws.proofs.Takings.{due_told, way_stays, grown as grown_by}
use Rattle.nb_openlaws.proofs.OpenRecords.{last_exchange, are_no_command, of_segments, of_advance}
use Rattle.nb_openlaws.proofs.Sendings.{reasons_then, client_advance, aside_advance, advance_reasons}
use Rattle.nb_openlaws.proofs.KindFacts.{opening_as}
use Rattle.nb_openlaws.proofs.StreamPlaces.{session_so}
use Rattle.nb_openlaws.proofs.WebPuts.{grown_unwrap, grown_some}
use Rattle.nb_openlaws.proofs.WebStands.{aside_segments, end_of_put}
use Rattle.nb_openlaws.proofs.WebEnds.{end_reasons}
use Rattle.nb_openlaws.proofs.ExchangeReasons.{ComeAs, EndStands, ExchangeSo, IsTaken}
use Rattle.nb_openlaws.proofs.SegmentReasons.{client_segments}
use Rattle.nb_openlaws.proofs.SessionTalks.{said_at, time_calls}
use Rattle.nb_openlaws.proofs.SessionPuts.{SessionWell, session_well}
use Rattle.nb_openlaws.proofs.SessionSendings.{SessionAt, session_on, session_reasons}
use Rattle.nb_openlaws.proofs.SessionsDue.{SessionComes, SessionDue, SessionPlaced}
use Rattle.nb_openlaws.proofs.SessionStands.{sizes, unsized_talk, sized_talk, unsized_marks, time_unsized}
use Rattle.nb_openlaws.proofs.SessionEnds.{SessionEnd, SinceThen, drive_segment_stands, drive_time_stands, drive_end_stands}

-- an exchange, in a history that has what came then, and may have said more
record SessionCome (es : List Event) (l : Live) (x : Exchange) (i : LoginInfo) (isn : ℕ) (boots : Bool) (c : Came ReadTask) (p : Put) : Type 0 where
  client_is : client es ≡ x.link
  word : isn ≡ first_word (hardware es).identity l.number
  opening : openings l.number es ≡ opening_as (iscsi isn i) l ∷ []
  lives : open_has_ended l.number es ≡ false
  session : sessions l.number es ≡ session_of_live l i boots ∷ []
  texts : List (List ℕ)
  said_then : (session_so_far l.number (session_of_live l i boots) es).calls ≡ (talks_on (session_talker i) isn (session_of isn i l) c).calls ++ text_calls texts (time_of c)
  due : IsDue l.number es
  had_way : HadWay l.number es (opening_as (iscsi isn i) l)
  placed : last_place l.number es ≡ next (talk_held isn (session_of isn i l))
  others : (j : ℕ) → (l.number == j) ≡ false → last_place j es ≡ file_place j es
  puts_so : PutsSo (session_talker i) isn l.since (session_of isn i l) c p
  records : x.put ≡ put_records (connection_of isn l) x.link p

-- what its connection has then, and after what is said
abbrev heard_calls : LoginInfo → ℕ → Live → Came ReadTask → List TcpCall
heard_calls i isn l c = (receives isn (session_of isn i l) c).calls

abbrev all_calls : LoginInfo → ℕ → Live → Came ReadTask → List TcpCall
all_calls i isn l c = (talks_on (session_talker i) isn (session_of isn i l) c).calls

at_come : (es : List Event) (l : Live) (x : Exchange) (i : LoginInfo) (isn : ℕ) (boots : Bool) (c : Came ReadTask) (p : Put) (calls : List TcpCall) (texts : List (List ℕ)) → SessionCome es l x i isn boots c p →
    (session_so_far l.number (session_of_live l i boots) es).calls ≡ calls ++ text_calls texts (time_of c) → SessionAt es (opening_as (iscsi isn i) l) x.link (connection_of isn l) (session_of_live l i boots) calls
at_come es l x i isn boots c p calls texts w is = record {
  client_is = w.client_is;
  opening = w.opening;
  lives = w.lives;
  kind_is = refl;
  session = w.session;
  link_is = ap (λ z. record { own_port = l.own; peer = host l.server; peer_port = l.port; isn = z }) (sym w.word);
  texts = texts;
  now = time_of c;
  calls_are = is;
}

both_texts : (a b : List (List ℕ)) (now : ℕ) → text_calls a now ++ text_calls b now ≡ text_calls (a ++ b) now
both_texts [] b now = refl
both_texts (x ∷ xs) b now = append_assoc (text_to_send x now) (text_calls xs now) (text_calls b now) ∙ ap (λ z. text_to_send x now ++ z) (both_texts xs b now)

comes_so : (es : List Event) (l : Live) (x : Exchange) (i : LoginInfo) (isn : ℕ) (boots : Bool) (c : Came ReadTask) (p : Put) → SessionCome es l x i isn boots c p →
    ((es2 : List Event) → SessionEnd es2 l x.link i isn (session_of_live l i boots) (all_calls i isn l c) → SinceThen l.number es es2 → (p.sends ≡ [] → p.advance ≡ None → es2 ≡ es) →
    (one : Cause) → p.over ≡ Some one → EndStands l.number es2 (opening_as (iscsi isn i) l) one) → ExchangeSo (iscsi isn i) es l x
comes_so es l x i isn boots c p w own = record {
  reasons = subst (λ z. OpenReasons es z) (sym (append_assoc first second third) ∙ sym w.records) (reasons_then es first (second ++ third) place (reasons_then es1 second third sends (end_reasons es2 k o (talk_end conn x.link p) stands at2.opening at2.lives sends.after)));
  answers = λ why over. (stands why (sym (end_of_put conn x.link p) ∙ ap (end_among k) (sym w.records) ∙ over)).1;
}
  where
    k : ℕ
    k = l.number

    o : Opening
    o = opening_as (iscsi isn i) l

    s : SessionOpening
    s = session_of_live l i boots

    conn : Connection
    conn = connection_of isn l

    d : Talk ReadTask
    d = session_of isn i l

    before : List TcpCall
    before = d.calls

    heard : List TcpCall
    heard = heard_calls i isn l c

    all : List TcpCall
    all = all_calls i isn l c

    well : SessionWell isn before heard all p
    well = session_well i isn l.since (flat_map (λ (y : Exchange). input_to_session y.came) l.exchanges) c p w.puts_so

    at_heard : SessionAt es o x.link conn s heard
    at_heard = at_come es l x i isn boots c p heard (said_at i isn d c ++ w.texts) w
        (w.said_then ∙ append_assoc heard (text_calls (said_at i isn d c) (time_of c)) (text_calls w.texts (time_of c)) ∙ ap (λ z. heard ++ z) (both_texts (said_at i isn d c) w.texts (time_of c)))

    at : SessionAt es o x.link conn s all
    at = at_come es l x i isn boots c p all w.texts w w.said_then

    first : List Out
    first = advance_records k p.advance

    second : List Out
    second = segment_records conn x.link p.sends

    third : List Out
    third = end_records k (talk_end conn x.link p)

    es1 : List Event
    es1 = es ++ told first

    es2 : List Event
    es2 = es1 ++ told second

    plain1 : AllByRecursion IsNoCommand first
    plain1 = are_no_command k first (of_advance k p.advance)

    plain2 : AllByRecursion IsNoCommand second
    plain2 = are_no_command k second (of_segments conn x.link p.sends)

    now_at : file_place k es ≡ next (held_after isn all)
    now_at = session_so k es o s w.opening refl w.session ∙ ap (λ z. next (held_after z (session_so_far k s es).calls)) (sym w.word) ∙ ap (λ z. next (held_after isn z)) w.said_then
        ∙ ap next (held_with_texts isn all w.texts (time_of c))

    further : (n : ℕ) → p.advance ≡ Some n → IsFurther k es n
    further n is = record {
      grown = subst (λ z. z < n) (sym w.placed) (grown_some (next (held_after isn before)) (next (held_after isn all)) n well.further (sym well.place ∙ is));
      next_block = λ file. absurd (let no : true ≡ false = sym file ∙ ap (list_any opens_file) w.opening in cc);
    }

    place : OpenReasons es first
    place = advance_reasons es k (next (held_after isn before)) p.advance w.placed
        (ap (λ z. unwrap_or z (next (held_after isn before))) well.place ∙ grown_unwrap (next (held_after isn before)) (next (held_after isn all)) ∙ sym now_at) further w.others

    left1 : Kept es first
    left1 = kept es first (aside_advance k p.advance)

    left2 : Kept es1 second
    left2 = kept es1 second (aside_segments conn x.link p.sends)

    at1_heard : SessionAt es1 o x.link conn s heard
    at1_heard = session_on es first o x.link conn s heard (aside_advance k p.advance) plain1 (client_advance es k p.advance) at_heard

    at1 : SessionAt es1 o x.link conn s all
    at1 = session_on es first o x.link conn s all (aside_advance k p.advance) plain1 (client_advance es k p.advance) at

    at2 : SessionAt es2 o x.link conn s all
    at2 = session_on es1 second o x.link conn s all (aside_segments conn x.link p.sends) plain2 (client_segments es1 conn x.link p.sends) at1

    -- what came calls for, and then what is said, and what closes it
    due1 : IsDue k es1
    due1 = due_told k es first w.due

    called : OpenReasons es1 (segment_records conn x.link well.first)
    called = session_reasons es1 o x.link conn s heard well.first place.after due1 at1_heard well.first_may well.first_tried

    es_called : List Event
    es_called = es1 ++ told (segment_records conn x.link well.first)

    said : OpenReasons es_called (segment_records conn x.link well.second)
    said = session_reasons es_called o x.link conn s all well.second called.after (due_told k es1 (segment_records conn x.link well.first) due1)
        (session_on es1 (segment_records conn x.link well.first) o x.link conn s all (aside_segments conn x.link well.first) (are_no_command k (segment_records conn x.link well.first) (of_segments conn x.link well.first)) (client_segments es1 conn x.link well.first) at1)
        well.second_may well.second_tried

    both : segment_records conn x.link p.sends ≡ segment_records conn x.link well.first ++ segment_records conn x.link well.second
    both = ap (segment_records conn x.link) well.all ∙ flat_map-append _ well.first well.second

    sends : OpenReasons es1 second
    sends = subst (OpenReasons es1) (sym both) (reasons_then es1 (segment_records conn x.link well.first) (segment_records conn x.link well.second) called said)

    end : SessionEnd es2 l x.link i isn s all
    end = record {
      stands = at2;
      had_way = way_stays k es1 es2 o (grown_by es1 (told second)) (way_stays k es es1 o (grown_by es (told first)) w.had_way);
      word = w.word ∙ ap (λ h. first_word h.identity k) (sym (left2.hardware_is ∙ left1.hardware_is));
    }

    since : SinceThen k es es2
    since = record {
      hardware_is = left2.hardware_is ∙ left1.hardware_is;
      time_is = left2.time_is ∙ left1.time_is;
      came_is = came_told k es1 second (told_nothing es1 second plain2) ∙ came_told k es first (told_nothing es first plain1);
    }

    untold : p.sends ≡ [] → p.advance ≡ None → es2 ≡ es
    untold none still =
        ap (λ z. es1 ++ told (segment_records conn x.link z)) none ∙ append-nil es1
        ∙ ap (λ z. es ++ told (advance_records k z)) still ∙ append-nil es

    stands : (why : Cause) → talk_end conn x.link p ≡ Some why → EndStands k es2 o why
    stands why over = drive_end_stands es2 l x.link i isn s all p why end (λ one is. own es2 end since untold one is) over

-- a segment comes
segment_so : (es : List Event) (l : Live) (x : Exchange) (i : LoginInfo) (isn : ℕ) (m : Arrival) (now : ℕ) (p : Put) (from : SessionComes es l isn i (by_segment m now)) → SessionCome es l x i isn from.boots (by_segment m now) p →
    ExchangeSo (iscsi isn i) es l x
segment_so es l x i isn m now p from w =
    comes_so es l x i isn from.boots (by_segment m now) p w
    (λ es2 end since untold one so. drive_segment_stands es es2 l x.link i isn m now one (all_calls i isn l (by_segment m now)) from since end (sym (ap (λ (z : Put). z.over) w.puts_so) ∙ so))

-- a time comes
time_so : (es : List Event) (l : Live) (x : Exchange) (i : LoginInfo) (isn now : ℕ) (p : Put) → time es ≡ now → (from : SessionComes es l isn i (by_time now)) → SessionCome es l x i isn from.boots (by_time now) p → ExchangeSo (iscsi isn i) es l x
time_so es l x i isn now p at from w = by w.puts_so.due refl
  where
    d : Talk ReadTask
    d = session_of isn i l

    s : SessionOpening
    s = session_of_live l i from.boots

    over : p.over ≡ due_end (timer_after isn l.since d.calls).plan w.puts_so.due
    over = ap (λ (z : Put). z.over) w.puts_so.is

    unsized : sizes es l isn i from.boots (by_time now) ≡ false
    unsized = time_unsized es l isn i from.boots now from.word

    ends_by : (due : Due) → w.puts_so.due ≡ due → (es2 : List Event) → SessionEnd es2 l x.link i isn s (all_calls i isn l (by_time now)) → SinceThen l.number es es2 → (p.sends ≡ [] → p.advance ≡ None → es2 ≡ es) → (one : Cause) → p.over ≡ Some one →
        EndStands l.number es2 (opening_as (iscsi isn i) l) one
    ends_by Not is es2 end since untold one so = absurd (let no : None ≡ Some one = sym (over ∙ ap (due_end (timer_after isn l.since d.calls).plan) is) ∙ so in cc)
    ends_by (Again n) is es2 end since untold one so = absurd (let no : None ≡ Some one = sym (over ∙ ap (due_end (timer_after isn l.since d.calls).plan) is) ∙ so in cc)
    ends_by Over is es2 end since untold one so =
        let same = untold (ap (λ (z : Put). z.sends) w.puts_so.is ∙ ap (λ z. due_sends isn (conn_phase isn d.calls) z) is) (ap (λ (z : Put). z.advance) w.puts_so.is) in
        drive_time_stands es2 l x.link i isn now one s (all_calls i isn l (by_time now)) from.marks_before end refl (since.time_is ∙ at)
        (ap (session_marks l.number s) same ∙ unsized_marks es l isn i (by_time now) from unsized)
        (ap (λ z. (session_so_far l.number s z).calls) same ∙ ap (λ (z : Talk ReadTask). z.calls) (unsized_talk es l isn i (by_time now) from unsized) ∙ time_calls i isn d now)
        from.tries
        (w.puts_so.fires ∙ ap (λ z. fired (timer_after isn l.since d.calls) ++ due_fired now z) is) (sym (over ∙ ap (due_end (timer_after isn l.since d.calls).plan) is) ∙ so)

    by : (due : Due) → w.puts_so.due ≡ due → ExchangeSo (iscsi isn i) es l x
    by due is = comes_so es l x i isn from.boots (by_time now) p w (ends_by due is)

-- WHAT A RECORD BRINGS

-- the texts that are said beyond those of what came: those of a task that is asked then
more_texts : (es : List Event) (l : Live) (i : LoginInfo) (isn : ℕ) (c : Came ReadTask) (w : SessionComes es l isn i c) →
    (texts : List (List ℕ)) × ((session_so_far l.number (session_of_live l i w.boots) es).calls ≡ (talks_on (session_talker i) isn (session_of isn i l) c).calls ++ text_calls texts (time_of c))
more_texts es l i isn c w = by (sizes es l isn i w.boots c) refl
  where
    d2 : Talk ReadTask
    d2 = talks_on (session_talker i) isn (session_of isn i l) c

    by : (b : Bool) → sizes es l isn i w.boots c ≡ b → (texts : List (List ℕ)) × ((session_so_far l.number (session_of_live l i w.boots) es).calls ≡ d2.calls ++ text_calls texts (time_of c))
    by false e = ([], ap (λ (z : Talk ReadTask). z.calls) (unsized_talk es l isn i c w e) ∙ sym (append-nil d2.calls))
    by true e = (texts_for (session_talker i) isn d2 (by_task first_block_read (time_of c)), ap (λ (z : Talk ReadTask). z.calls) (sized_talk es l isn i c w e))

pub drive_so : (es : List Event) (l : Live) (x : Exchange) (isn : ℕ) (i : LoginInfo) → IsTaken x.came → ComeAs (iscsi isn i) es x.came l x.link → KeepsBy (iscsi isn i) (continued l x) → ExchangeSo (iscsi isn i) es l x
drive_so es l x isn i taken come keeps = by x.came taken come kept_so.puts
  where
    kept_so : KeepsAt (session_talking i) (connection_of isn l) l.exchanges x
    kept_so = last_exchange (KeepsAt (session_talking i) (connection_of isn l)) [] l.exchanges x keeps

    comes : (input : OpenInput) (c : Came ReadTask) (from : SessionPlaced es l isn i c) → ComeAs (iscsi isn i) es input l x.link → IsDue l.number es → PutsSo (session_talker i) isn l.since (session_of isn i l) c kept_so.put →
        SessionCome es l x i isn from.comes.boots c kept_so.put
    comes input c from at due puts_so =
        let more = more_texts es l i isn c from.comes in
        record {
          client_is = at.client_is;
          word = from.comes.word;
          opening = at.opening;
          lives = at.lives;
          session = from.comes.is;
          texts = more.0;
          said_then = more.1;
          due = due;
          had_way = at.had_way;
          placed = from.placed;
          others = at.others;
          puts_so = puts_so;
          records = kept_so.records;
        }

    by : (input : OpenInput) → IsTaken input → ComeAs (iscsi isn i) es input l x.link → PutsAt (session_talking i) (connection_of isn l) (session_of isn i l) input kept_so.put → ExchangeSo (iscsi isn i) es l x
    by (message rec port body now) t at puts_so = absurd puts_so
    by (task z now) t at puts_so = absurd t
    by (close why) t at puts_so = absurd t
    by (tcp_segment rec g now) t at puts_so =
        let from = at.session_to isn i refl in segment_so es l x i isn (arrived_segment rec g) now kept_so.put from.comes (comes (tcp_segment rec g now) (by_segment (arrived_segment rec g) now) from at at.due puts_so)
    by (time_came_to now) t at puts_so =
        let from = at.session_to isn i refl in time_so es l x i isn now kept_so.put at.now from.comes (comes (time_came_to now) (by_time now) from at at.due puts_so)

-- WHAT A COMMAND ASKS

-- it is asked for its first block, and takes the task
pub drive_asked_so : (es : List Event) (l : Live) (x : Exchange) (isn : ℕ) (i : LoginInfo) (now : ℕ) → x.came ≡ task first_block_read now → SessionDue es l isn i now → client es ≡ x.link → openings l.number es ≡ opening_as (iscsi isn i) l ∷ [] →
    open_has_ended l.number es ≡ false → IsDue l.number es → HadWay l.number es (opening_as (iscsi isn i) l) → IsAdvanced es → KeepsBy (iscsi isn i) (continued l x) → ExchangeSo (iscsi isn i) es l x
drive_asked_so es l x isn i now is from same opening lives due way a keeps =
    comes_so es l x i isn from.boots (by_task first_block_read now) kept_so.put (record {
      client_is = same;
      word = from.word;
      opening = opening;
      lives = lives;
      session = from.is;
      texts = [];
      said_then = ap (λ (z : Talk ReadTask). z.calls) from.talk ∙ sym (append-nil (all_calls i isn l (by_task first_block_read now)));
      due = due;
      had_way = way;
      placed = a l.number ∙ session_so l.number es (opening_as (iscsi isn i) l) (session_of_live l i from.boots) opening refl from.is
          ∙ ap (λ z. next (talk_held z (session_so_far l.number (session_of_live l i from.boots) es))) (sym from.word) ∙ ap (λ z. next (talk_held isn z)) from.talk
          ∙ ap next (held_asked (session_talker i) isn (session_of isn i l) first_block_read now);
      others = λ j other. a j;
      puts_so = puts_so;
      records = kept_so.records;
    }) (λ es2 end since untold one over. absurd (let no : None ≡ Some one = sym (ap (λ (p : Put). p.over) puts_so) ∙ over in cc))
  where
    kept_so : KeepsAt (session_talking i) (connection_of isn l) l.exchanges x
    kept_so = last_exchange (KeepsAt (session_talking i) (connection_of isn l)) [] l.exchanges x keeps

    puts_so : PutsSo (session_talker i) isn l.since (session_of isn i l) (by_task first_block_read now) kept_so.put
    puts_so = subst (λ z. PutsAt (session_talking i) (connection_of isn l) (session_of isn i l) z kept_so.put) is kept_so.puts

-- A drive's session that goes on: nothing that came has ended it, its talk is that of the history, and its tries are those that are due.
use Rattle.std.proofs.Common.{◌≡◌, ℕ, ◌&&◌, not, Bool, true, false, cond, List, [], ◌∷◌, ◌++◌, map, Option, Some, None, refl, sym, ◌∙◌, ap, subst, append_assoc, append-nil}
use Rattle.std.specs.List.{flat_map, fold}
use Rattle.std.specs.Option.{is_some}
use Rattle.std.proofs.lemmas.List.{map-append}
use Rattle.nb_terms.specs.declared.cause.Cause.{Cause}
use Rattle.nb_streams.specs.Flows.{segment_came, time_came, conn_phase, held_in}
use Rattle.nb_streams.specs.Sending.{calls_for}
use Rattle.nb_streams.specs.Trying.{comes_in, mark_tries}
use Rattle.nb_streams.specs.Endings.{segment_end}
use Rattle.nb_streams.specs.Streams.{HeldBytes, front, has_ended, next}
use Rattle.nb_streams.proofs.OtherSendLaws.{phase_append}
use Rattle.nb_talks.specs.Talking.{Came, by_segment, by_time, by_task, time_of, Talk, talk_held, text_to_send, text_calls, texts_for, unsaid, receives, talks_on}
use Rattle.nb_talks.specs.TalkPromises.{Sends, Put, said_sends, texts_sent, segment_put, unless_ended, closes_by, talker_end, due_sends}
use Rattle.nb_login.specs.declared.info.LoginInfo.{LoginInfo}
use Rattle.nb_sans.specs.Sessions.{ReadTask, session_end, session_talker}
use Rattle.nb_machine.specs.Connections.{Connection, connection_of, arrived_segment, loses_way, PutsAt, KeepsAt}
use Rattle.nb_machine.specs.Drives.{input_to_session, session_talking, session_of, session_answered, first_block_read}
use Rattle.nb_machine.specs.Findings.{first_word}
use Rattle.nb_machine.specs.Lives.{iscsi, tcp_segment, time as time_input, task, Exchange, Live, continued}
use Rattle.nb_machine.specs.Takings.{end_among}
use Rattle.nb_laws.specs.Drives.{SessionOpening, is_sized_by, comes_with, talk_with, session_by, session_so_far, calls_with, all_calls, session_marks}
use Rattle.nb_laws.specs.Events.{Event}
use Rattle.nb_laws.specs.Lists.{hardware, openings, time}
use Rattle.nb_laws.proofs.DriveTalks.{session_one}
use Rattle.nb_laws.proofs.Tellings.{told, try_marks_by}
use Rattle.nb_openlaws.specs.Sessions.{TriesStand, session_of_live, SessionAgrees}
use Rattle.nb_openlaws.proofs.OpenEntries.{NoEnd}
use Rattle.nb_openlaws.proofs.WebTries.{sends_marks, marks_of_two, TriesStandIn, from_came, they_stand, segment_in, text_in, texts_in, texts_tries, time_tries}
use Rattle.nb_openlaws.proofs.WebStands.{end_of_put, went_well, put_marks, no_end}
use Rattle.nb_laws.specs.Progress.{file_place}
use Rattle.nb_laws.proofs.DriveTalks.{held_waited}
use Rattle.nb_openlaws.proofs.KindFacts.{opening_as}
use Rattle.nb_openlaws.proofs.StreamPlaces.{session_so}
use Rattle.nb_openlaws.proofs.SessionTalks.{session_one_more, session_asked, said_at, time_calls, end_then, answer_by, time_answer, task_answer, task_undecided, ends_alike}
use Rattle.nb_openlaws.proofs.SessionMarks.{marks_put, talk_put}
use Rattle.nb_openlaws.proofs.SessionsDue.{SessionComes, SessionDue, Quiet}

-- WHETHER IT IS ASKED FOR ITS FIRST BLOCK THEN

abbrev pub sizes : List Event → Live → ℕ → LoginInfo → Bool → Came ReadTask → Bool
sizes es l isn i boots c =
    let h = hardware es in
    let d = session_of isn i l in
    is_sized_by h l.number (session_of_live l i boots) d (talks_on (session_talker i) (first_word h.identity l.number) d c)

unsized_comes : (es : List Event) (l : Live) (isn : ℕ) (i : LoginInfo) (boots : Bool) (c : Came ReadTask) → sizes es l isn i boots c ≡ false → comes_with (hardware es) l.number (session_of_live l i boots) (session_of isn i l) c ≡ c ∷ []
unsized_comes es l isn i boots c e = ap (λ b. c ∷ cond b (by_task first_block_read (time_of c) ∷ []) []) e

sized_comes : (es : List Event) (l : Live) (isn : ℕ) (i : LoginInfo) (boots : Bool) (c : Came ReadTask) → sizes es l isn i boots c ≡ true →
    comes_with (hardware es) l.number (session_of_live l i boots) (session_of isn i l) c ≡ c ∷ by_task first_block_read (time_of c) ∷ []
sized_comes es l isn i boots c e = ap (λ b. c ∷ cond b (by_task first_block_read (time_of c) ∷ []) []) e

-- its talk then
pub comes_talk : (es : List Event) (l : Live) (isn : ℕ) (i : LoginInfo) (c : Came ReadTask) (w : SessionComes es l isn i c) →
    session_so_far l.number (session_of_live l i w.boots) es ≡ fold (talks_on (session_talker i) isn) (session_of isn i l) (comes_with (hardware es) l.number (session_of_live l i w.boots) (session_of isn i l) c)
comes_talk es l isn i c w =
    let h = hardware es in
    let k = l.number in
    let s = session_of_live l i w.boots in
    ap (session_by h k s) w.all ∙ session_one h k s w.before c ∙ ap (λ z. talk_with h k s z c) w.by_before
    ∙ ap (λ v. fold (talks_on (session_talker i) v) (session_of isn i l) (comes_with h k s (session_of isn i l) c)) (sym w.word)

-- of one that goes on alone
pub unsized_talk : (es : List Event) (l : Live) (isn : ℕ) (i : LoginInfo) (c : Came ReadTask) (w : SessionComes es l isn i c) → sizes es l isn i w.boots c ≡ false →
    session_so_far l.number (session_of_live l i w.boots) es ≡ talks_on (session_talker i) isn (session_of isn i l) c
unsized_talk es l isn i c w e = comes_talk es l isn i c w ∙ ap (fold (talks_on (session_talker i) isn) (session_of isn i l)) (unsized_comes es l isn i w.boots c e)

pub sized_talk : (es : List Event) (l : Live) (isn : ℕ) (i : LoginInfo) (c : Came ReadTask) (w : SessionComes es l isn i c) → sizes es l isn i w.boots c ≡ true →
    session_so_far l.number (session_of_live l i w.boots) es ≡ talks_on (session_talker i) isn (talks_on (session_talker i) isn (session_of isn i l) c) (by_task first_block_read (time_of c))
sized_talk es l isn i c w e = comes_talk es l isn i c w ∙ ap (fold (talks_on (session_talker i) isn) (session_of isn i l)) (sized_comes es l isn i w.boots c e)

pub unsized_marks : (es : List Event) (l : Live) (isn : ℕ) (i : LoginInfo) (c : Came ReadTask) (w : SessionComes es l isn i c) → sizes es l isn i w.boots c ≡ false →
    session_marks l.number (session_of_live l i w.boots) es ≡ w.marks_before ++ map comes_in (calls_with (session_talker i) isn (session_of isn i l) c)
unsized_marks es l isn i c w e =
    w.marks ∙ ap (λ z. w.marks_before ++ map comes_in (all_calls (session_talker i) isn (session_of isn i l) z)) (unsized_comes es l isn i w.boots c e)
    ∙ ap (λ z. w.marks_before ++ map comes_in z) (append-nil (calls_with (session_talker i) isn (session_of isn i l) c))

sized_marks : (es : List Event) (l : Live) (isn : ℕ) (i : LoginInfo) (c : Came ReadTask) (w : SessionComes es l isn i c) → sizes es l isn i w.boots c ≡ true →
    session_marks l.number (session_of_live l i w.boots) es ≡ (w.marks_before ++ map comes_in (calls_with (session_talker i) isn (session_of isn i l) c))
    ++ map comes_in (text_calls (texts_for (session_talker i) isn (talks_on (session_talker i) isn (session_of isn i l) c) (by_task first_block_read (time_of c))) (time_of c))
sized_marks es l isn i c w e =
    let t = session_talker i in
    let d = session_of isn i l in
    let first = calls_with t isn d c in
    let then = text_calls (texts_for t isn (talks_on t isn d c) (by_task first_block_read (time_of c))) (time_of c) in
    w.marks ∙ ap (λ z. w.marks_before ++ map comes_in (all_calls t isn d z)) (sized_comes es l isn i w.boots c e)
    ∙ ap (λ z. w.marks_before ++ map comes_in (first ++ z)) (append-nil then)
    ∙ ap (λ z. w.marks_before ++ z) (map-append comes_in first then) ∙ sym (append_assoc w.marks_before (map comes_in first) (map comes_in then))

never : (b a z : Bool) → (b && not a && a && z) ≡ false
never true true z = refl
never true false z = refl
never false a z = refl

-- what leaves its capacity known or not asks nothing
unsized_by : (es : List Event) (l : Live) (isn : ℕ) (i : LoginInfo) (boots : Bool) (c : Came ReadTask) → isn ≡ first_word (hardware es).identity l.number →
    is_some (answer_by l.server i isn (talks_on (session_talker i) isn (session_of isn i l) c)) ≡ is_some (answer_by l.server i isn (session_of isn i l)) → sizes es l isn i boots c ≡ false
unsized_by es l isn i boots c word same =
    let t = session_talker i in
    let d = session_of isn i l in
    ap (λ w. boots && not (is_some (answer_by l.server i w d)) && is_some (answer_by l.server i w (talks_on t w d c)) && not (is_some (talker_end t w 0 (talks_on t w d c)))) (sym word)
    ∙ ap (λ z. boots && not (is_some (answer_by l.server i isn d)) && z && not (is_some (talker_end t isn 0 (talks_on t isn d c)))) same
    ∙ never boots (is_some (answer_by l.server i isn d)) (not (is_some (talker_end t isn 0 (talks_on t isn d c))))

pub time_unsized : (es : List Event) (l : Live) (isn : ℕ) (i : LoginInfo) (boots : Bool) (now : ℕ) → isn ≡ first_word (hardware es).identity l.number → sizes es l isn i boots (by_time now) ≡ false
time_unsized es l isn i boots now word = unsized_by es l isn i boots (by_time now) word (ap is_some (time_answer l.server i isn (session_of isn i l) now))

pub task_unsized : (es : List Event) (l : Live) (isn : ℕ) (i : LoginInfo) (boots : Bool) (t : ReadTask) (now : ℕ) → isn ≡ first_word (hardware es).identity l.number → sizes es l isn i boots (by_task t now) ≡ false
task_unsized es l isn i boots t now word = unsized_by es l isn i boots (by_task t now) word (task_answer l.server i isn (session_of isn i l) t now (session_asked isn i l))

sized_parts : (b a z e : Bool) → (b && not a && z && not e) ≡ true → (b ≡ true) × (a ≡ false) × (z ≡ true) × (e ≡ false)
sized_parts true false true false is = (refl, refl, refl, refl)
sized_parts true false true true is = absurd (cc)
sized_parts true false false e is = absurd (cc)
sized_parts true true z e is = absurd (cc)
sized_parts false a z e is = absurd (cc)

-- where it is: it boots, and has become known by this
pub sized_as : (es : List Event) (l : Live) (isn : ℕ) (i : LoginInfo) (boots : Bool) (c : Came ReadTask) → isn ≡ first_word (hardware es).identity l.number → sizes es l isn i boots c ≡ true →
    (boots ≡ true) × (is_some (session_answered isn i l) ≡ false) × (is_some (answer_by l.server i isn (talks_on (session_talker i) isn (session_of isn i l) c)) ≡ true)
    × (is_some (talker_end (session_talker i) isn 0 (talks_on (session_talker i) isn (session_of isn i l) c)) ≡ false)
sized_as es l isn i boots c word e =
    let t = session_talker i in
    let d = session_of isn i l in
    sized_parts boots (is_some (answer_by l.server i isn d)) (is_some (answer_by l.server i isn (talks_on t isn d c))) (is_some (talker_end t isn 0 (talks_on t isn d c)))
    (ap (λ w. boots && not (is_some (answer_by l.server i w d)) && is_some (answer_by l.server i w (talks_on t w d c)) && not (is_some (talker_end t w 0 (talks_on t w d c)))) word ∙ e)

-- one that has answered then, and goes on, is
sized_if : (es : List Event) (l : Live) (isn : ℕ) (i : LoginInfo) (boots : Bool) (c : Came ReadTask) (rec : ℕ) → isn ≡ first_word (hardware es).identity l.number → boots ≡ true → is_some (session_answered isn i l) ≡ false →
    is_some (answer_by l.server i isn (talks_on (session_talker i) isn (session_of isn i l) c)) ≡ true → talker_end (session_talker i) isn rec (talks_on (session_talker i) isn (session_of isn i l) c) ≡ None → sizes es l isn i boots c ≡ true
sized_if es l isn i boots c rec word booting before after none =
    let t = session_talker i in
    let d = session_of isn i l in
    let d2 = talks_on t isn d c in
    let goes : is_some (talker_end t isn 0 d2) ≡ false = sym (ends_alike l.server i isn rec d2 after) ∙ ap is_some none in
    ap (λ w. boots && not (is_some (answer_by l.server i w d)) && is_some (answer_by l.server i w (talks_on t w d c)) && not (is_some (talker_end t w 0 (talks_on t w d c)))) (sym word)
    ∙ ap (λ z. z && not (is_some (answer_by l.server i isn d)) && is_some (answer_by l.server i isn d2) && not (is_some (talker_end t isn 0 d2))) booting
    ∙ ap (λ z. true && not z && is_some (answer_by l.server i isn d2) && not (is_some (talker_end t isn 0 d2))) before
    ∙ ap (λ z. true && true && z && not (is_some (talker_end t isn 0 d2))) after
    ∙ ap (λ z. true && true && true && not z) goes

-- AN EXCHANGE AFTER WHICH IT GOES ON

closes_nothing : (ends other : Option Cause) (isn : ℕ) (p : _) → ends ≡ None → closes_by ends other isn p ≡ []
closes_nothing None other isn p e = refl
closes_nothing (Some one) other isn p e = absurd (cc)

-- what it puts then, where it goes on
record PutsOn (l : Live) (isn : ℕ) (x : Exchange) (p : Put) : Type 0 where
  none : p.over ≡ None
  told_by : (now : ℕ) → try_marks_by l.number now x.put ≡ sends_marks now p.sends

puts_on : (l : Live) (isn : ℕ) (i : LoginInfo) (x : Exchange) (kept : KeepsAt (session_talking i) (connection_of isn l) l.exchanges x) → end_among l.number x.put ≡ None → PutsOn l isn x kept.put
puts_on l isn i x kept none =
    let c : Connection = connection_of isn l in
    let went : NoEnd kept.put.over (loses_way c x.link kept.put.sends) = went_well c x.link kept.put (sym (end_of_put c x.link kept.put) ∙ ap (end_among l.number) (sym kept.records) ∙ none) in
    record { none = went.none; told_by = λ now. ap (try_marks_by l.number now) kept.records ∙ put_marks c x.link now kept.put went.routed }

-- it goes on alone, or is asked for its first block
pub data SessionNext (es : List Event) (l : Live) (x : Exchange) (isn : ℕ) (i : LoginInfo) (now : ℕ) : Type 0 where
  stays : SessionAgrees es (continued l x) isn i → SessionNext es l x isn i now
  asks : (d : SessionDue es (continued l x) isn i now) → d.boots ≡ true → is_some (session_answered isn i l) ≡ false → is_some (session_answered isn i (continued l x)) ≡ true → SessionNext es l x isn i now

none_or : {A : Type 0} (o : Option A) → (is_some o ≡ true → ⊥) → o ≡ None
none_or None never_so = refl
none_or (Some a) never_so = absurd (never_so refl)

-- a segment comes
pub segment_goes : (es : List Event) (l : Live) (isn : ℕ) (i : LoginInfo) (x : Exchange) (rec : ℕ) (g : _) (now : ℕ) → KeepsAt (session_talking i) (connection_of isn l) l.exchanges x → end_among l.number x.put ≡ None →
    x.came ≡ tcp_segment rec g now → time es ≡ now →
    Quiet l.number es x.put → SessionComes es l isn i (by_segment (arrived_segment rec g) now) → SessionNext (es ++ told x.put) l x isn i now
segment_goes es l isn i x rec g now kept none is at quiet w = by (sizes es l isn i w.boots c) refl
  where
    c : Came ReadTask
    c = by_segment (arrived_segment rec g) now

    on : PutsOn l isn x kept.put
    on = puts_on l isn i x kept none

    d : Talk ReadTask
    d = session_of isn i l

    heard : Talk ReadTask
    heard = receives isn d c

    d2 : Talk ReadTask
    d2 = talks_on (session_talker i) isn d c

    one : session_of isn i (continued l x) ≡ d2
    one = session_one_more isn i l x c (ap input_to_session is)

    puts_so : kept.put ≡ segment_put (session_talker i) isn d (arrived_segment rec g) now
    puts_so = subst (λ z. PutsAt (session_talking i) (connection_of isn l) d z kept.put) is kept.puts

    none_both : (talker_end (session_talker i) isn rec heard ≡ None) × (segment_end isn (conn_phase isn d.calls) (arrived_segment rec g) ≡ None)
    none_both = no_end (talker_end (session_talker i) isn rec heard) (segment_end isn (conn_phase isn d.calls) (arrived_segment rec g)) (sym (ap (λ (p : Put). p.over) puts_so) ∙ on.none)

    texts : List (List ℕ)
    texts = said_at i isn d c

    called : Sends
    called = calls_for isn (conn_phase isn d.calls) (arrived_segment rec g).segment

    said : Sends
    said = texts_sent isn heard.calls texts now

    sends : kept.put.sends ≡ called ++ said
    sends =
        let after = conn_phase isn (heard.calls ++ text_calls texts now) in
        let other = segment_end isn (conn_phase isn d.calls) (arrived_segment rec g) in
        let ends = talker_end (session_talker i) isn rec heard in
        ap (λ (p : Put). p.sends) puts_so ∙ ap (λ z. (called ++ unless_ended z said) ++ closes_by ends other isn after) none_both.1 ∙ ap (λ z. (called ++ said) ++ z) (closes_nothing ends other isn after none_both.0) ∙ append-nil (called ++ said)

    s : SessionOpening
    s = session_of_live l i w.boots

    es2 : List Event
    es2 = es ++ told x.put

    marked : session_marks l.number s es2 ≡ session_marks l.number s es ++ sends_marks now (called ++ said)
    marked =
        marks_put l.number s es x.put quiet.hardware_is quiet.nothing ∙ ap (λ n. session_marks l.number s es ++ try_marks_by l.number n x.put) at
        ∙ ap (λ z. session_marks l.number s es ++ z) (on.told_by now ∙ ap (sends_marks now) sends)

    undecided : talker_end (session_talker i) isn rec (session_of isn i (continued l x)) ≡ None
    undecided = ap (talker_end (session_talker i) isn rec) one ∙ end_then i isn rec d c ∙ none_both.0

    word : isn ≡ first_word (hardware es2).identity l.number
    word = w.word ∙ ap (λ h. first_word h.identity l.number) (sym quiet.hardware_is)

    -- one that boots and wasn't asked has answered nothing
    unanswered : sizes es l isn i w.boots c ≡ false → w.boots ≡ true → (session_of isn i (continued l x)).tasks ≡ [] → session_answered isn i (continued l x) ≡ None
    unanswered e booting untasked = none_or (session_answered isn i (continued l x)) (λ some.
        let tasks : d.tasks ≡ [] = sym (ap (λ (z : Talk ReadTask). z.tasks) one) ∙ untasked in
        let so : sizes es l isn i w.boots c ≡ true = sized_if es l isn i w.boots c rec w.word booting (ap is_some (w.sized booting tasks)) (sym (ap (λ z. is_some (answer_by l.server i isn z)) one) ∙ some) (end_then i isn rec d c ∙ none_both.0) in
        absurd (let no : true ≡ false = sym so ∙ e in cc))

    by : (b : Bool) → sizes es l isn i w.boots c ≡ b → SessionNext es2 l x isn i now
    by false e = stays (record {
      boots = w.boots;
      word = word;
      is = quiet.sessions_is ∙ w.is;
      talk = talk_put l.number s es x.put quiet.hardware_is quiet.nothing ∙ unsized_talk es l isn i c w e ∙ sym one;
      rec = rec;
      undecided = undecided;
      tries = subst (λ z. TriesStand isn l.since z.calls (session_marks l.number s es2)) (sym one)
          (subst (TriesStand isn l.since d2.calls)
          (sym (marked ∙ ap (λ z. z ++ sends_marks now (called ++ said)) (unsized_marks es l isn i c w e) ∙ append_assoc w.marks_before (map comes_in (calls_with (session_talker i) isn d c)) (sends_marks now (called ++ said))))
          (texts_tries isn l.since d.calls w.marks_before (arrived_segment rec g) now texts none_both.1 w.tries));
      sized = unanswered e;
    })
    by true e =
        let so = sized_as es l isn i w.boots c w.word e in
        let m = arrived_segment rec g in
        let seg = comes_in (segment_came m now) in
        let first = (w.marks_before ++ seg ∷ []) ++ map comes_in (text_calls texts now) in
        let asked = λ (z : Talk ReadTask). map comes_in (text_calls (texts_for (session_talker i) isn z (by_task first_block_read now)) now) in
        asks (record {
          boots = w.boots;
          word = word;
          is = quiet.sessions_is ∙ w.is;
          talk = talk_put l.number s es x.put quiet.hardware_is quiet.nothing ∙ sized_talk es l isn i c w e ∙ ap (λ z. talks_on (session_talker i) isn z (by_task first_block_read now)) (sym one);
          rec = rec;
          undecided = undecided;
          came = first;
          put = sends_marks now called ++ sends_marks now said;
          tries = subst (λ z. TriesStandIn isn l.since z.calls first (sends_marks now called ++ sends_marks now said)) (sym one)
              (texts_in isn l.since heard.calls (w.marks_before ++ seg ∷ []) (sends_marks now called) texts now (segment_in isn l.since d.calls w.marks_before m now none_both.1 w.tries));
          marks = marked ∙ ap (λ z. z ++ sends_marks now (called ++ said)) (sized_marks es l isn i c w e)
              ∙ ap (λ z. (z ++ asked d2) ++ sends_marks now (called ++ said)) (sym (append_assoc w.marks_before (seg ∷ []) (map comes_in (text_calls texts now))))
              ∙ ap (λ z. (first ++ asked d2) ++ z) (marks_of_two now called said)
              ∙ ap (λ z. (first ++ asked z) ++ (sends_marks now called ++ sends_marks now said)) (sym one);
        }) so.0 so.1 (ap (λ z. is_some (answer_by l.server i isn z)) one ∙ so.2)

-- a time comes
still_undecided : (i : LoginInfo) (isn rec : ℕ) (d : Talk ReadTask) (now : ℕ) → talker_end (session_talker i) isn rec (receives isn d (by_time now)) ≡ talker_end (session_talker i) isn rec d
still_undecided i isn rec d now = ap (λ (h : HeldBytes). session_end rec i (front h) (has_ended h) d.tasks) (ap held_in (phase_append isn d.calls (time_came now)))

pub time_goes : (es : List Event) (l : Live) (isn : ℕ) (i : LoginInfo) (x : Exchange) (now : ℕ) → KeepsAt (session_talking i) (connection_of isn l) l.exchanges x → end_among l.number x.put ≡ None → x.came ≡ time_input now → time es ≡ now →
    Quiet l.number es x.put → SessionComes es l isn i (by_time now) → SessionAgrees (es ++ told x.put) (continued l x) isn i
time_goes es l isn i x now kept none is at quiet w =
    let k = l.number in
    let t = session_talker i in
    let c : Came ReadTask = by_time now in
    let d = session_of isn i l in
    let s = session_of_live l i w.boots in
    let es2 = es ++ told x.put in
    let on = puts_on l isn i x kept none in
    let e = time_unsized es l isn i w.boots now w.word in
    let one : session_of isn i (continued l x) ≡ talks_on t isn d c = session_one_more isn i l x c (ap input_to_session is) in
    let p = subst (λ z. PutsAt (session_talking i) (connection_of isn l) d z kept.put) is kept.puts in
    let due = due_sends isn (conn_phase isn d.calls) p.due in
    let sends : kept.put.sends ≡ due = ap (λ (z : Put). z.sends) p.is in
    let marked : session_marks k s es2 ≡ w.marks_before ++ comes_in (time_came now) ∷ sends_marks now due =
    marks_put k s es x.put quiet.hardware_is quiet.nothing ∙ ap (λ n. session_marks k s es ++ try_marks_by k n x.put) at ∙ ap (λ z. session_marks k s es ++ z) (on.told_by now ∙ ap (sends_marks now) sends)
    ∙ ap (λ z. z ++ sends_marks now due) (unsized_marks es l isn i c w e) ∙ append_assoc w.marks_before (comes_in (time_came now) ∷ []) (sends_marks now due) in
    record {
      boots = w.boots;
      word = w.word ∙ ap (λ h. first_word h.identity k) (sym quiet.hardware_is);
      is = quiet.sessions_is ∙ w.is;
      talk = talk_put k s es x.put quiet.hardware_is quiet.nothing ∙ unsized_talk es l isn i c w e ∙ sym one;
      rec = w.rec;
      undecided = ap (talker_end t isn w.rec) one ∙ end_then i isn w.rec d c ∙ still_undecided i isn w.rec d now ∙ w.undecided;
      tries = subst (λ z. TriesStand isn l.since z.calls (session_marks k s es2)) (sym one)
          (subst (λ cs. TriesStand isn l.since cs (session_marks k s es2)) (sym (time_calls i isn d now))
          (subst (TriesStand isn l.since (d.calls ++ time_came now ∷ [])) (sym marked) (time_tries isn l.since d.calls w.marks_before now p.due p.fires w.tries)));
      sized = λ booting untasked. ap (answer_by l.server i isn) one ∙ time_answer l.server i isn d now ∙ w.sized booting (sym (ap (λ (z : Talk ReadTask). z.tasks) one) ∙ untasked);
    }

some_tasks : (tasks : List (ReadTask × ℕ)) (t : ReadTask × ℕ) → tasks ++ t ∷ [] ≡ [] → ⊥
some_tasks [] t is = cc
some_tasks (x ∷ xs) t is = cc

-- its open takes the task
pub task_goes : (es : List Event) (l : Live) (isn : ℕ) (i : LoginInfo) (x : Exchange) (now : ℕ) → KeepsAt (session_talking i) (connection_of isn l) l.exchanges x → end_among l.number x.put ≡ None → x.came ≡ task first_block_read now → time es ≡ now →
    Quiet l.number es x.put → SessionDue es l isn i now → SessionAgrees (es ++ told x.put) (continued l x) isn i
task_goes es l isn i x now kept none is at quiet w =
    let k = l.number in
    let t = session_talker i in
    let c : Came ReadTask = by_task first_block_read now in
    let d = session_of isn i l in
    let s = session_of_live l i w.boots in
    let es2 = es ++ told x.put in
    let on = puts_on l isn i x kept none in
    let one : session_of isn i (continued l x) ≡ talks_on t isn d c = session_one_more isn i l x c (ap input_to_session is) in
    let p = subst (λ z. PutsAt (session_talking i) (connection_of isn l) d z kept.put) is kept.puts in
    let text = unsaid t isn (receives isn d c) in
    let said = said_sends (conn_phase isn d.calls) text in
    let words = map comes_in (text_to_send text now) in
    let sends : kept.put.sends ≡ said = ap (λ (z : Put). z.sends) p in
    let one_text : text_calls (text ∷ []) now ≡ text_to_send text now = append-nil (text_to_send text now) in
    let marked : session_marks k s es2 ≡ (w.came ++ words) ++ (w.put ++ sends_marks now said) =
    marks_put k s es x.put quiet.hardware_is quiet.nothing ∙ ap (λ n. session_marks k s es ++ try_marks_by k n x.put) at ∙ ap (λ z. session_marks k s es ++ z) (on.told_by now ∙ ap (sends_marks now) sends)
    ∙ ap (λ z. z ++ sends_marks now said) (w.marks ∙ ap (λ z. (w.came ++ map comes_in z) ++ w.put) one_text) ∙ append_assoc (w.came ++ words) w.put (sends_marks now said) in
    record {
      boots = w.boots;
      word = w.word ∙ ap (λ h. first_word h.identity k) (sym quiet.hardware_is);
      is = quiet.sessions_is ∙ w.is;
      talk = talk_put k s es x.put quiet.hardware_is quiet.nothing ∙ w.talk ∙ sym one;
      rec = w.rec;
      undecided = ap (talker_end t isn w.rec) one ∙ task_undecided i isn w.rec d first_block_read now (session_asked isn i l) ∙ w.undecided;
      tries = subst (λ z. TriesStand isn l.since z.calls (session_marks k s es2)) (sym one)
          (subst (λ cs. TriesStand isn l.since (d.calls ++ cs) (session_marks k s es2)) (sym one_text)
          (subst (TriesStand isn l.since (d.calls ++ text_to_send text now)) (sym marked)
          (they_stand isn l.since (d.calls ++ text_to_send text now) (w.came ++ words) (w.put ++ sends_marks now said) (text_in isn l.since d.calls w.came w.put text now w.tries))));
      sized = λ booting untasked. absurd (some_tasks d.tasks _ (sym (ap (λ (z : Talk ReadTask). z.tasks) one) ∙ untasked));
    }

-- A COMMAND ASKS

-- the history is ahead by the task that a command asks
pub command_due : (es : List Event) (l : Live) (isn : ℕ) (i : LoginInfo) (now : ℕ) → SessionComes es l isn i (by_task first_block_read now) → SessionDue es l isn i now
command_due es l isn i now w =
    let t = session_talker i in
    let c : Came ReadTask = by_task first_block_read now in
    let d = session_of isn i l in
    let e = task_unsized es l isn i w.boots first_block_read now w.word in
    let words = map comes_in (text_calls (texts_for t isn d c) now) in
    record {
      boots = w.boots;
      word = w.word;
      is = w.is;
      talk = unsized_talk es l isn i c w e;
      rec = w.rec;
      undecided = w.undecided;
      came = w.marks_before;
      put = [];
      tries = from_came w.tries.earlier w.tries.rest w.tries.all (append-nil (flat_map mark_tries w.tries.rest) ∙ w.tries.tried);
      marks = unsized_marks es l isn i c w e ∙ sym (append-nil (w.marks_before ++ words));
    }

-- WHERE ITS STREAM HAS COME

-- that of its talk, where nothing is outstanding
pub session_place_is : (es : List Event) (l : Live) (isn : ℕ) (i : LoginInfo) (w : SessionAgrees es l isn i) → openings l.number es ≡ opening_as (iscsi isn i) l ∷ [] → file_place l.number es ≡ next (talk_held isn (session_of isn i l))
session_place_is es l isn i w opening =
    session_so l.number es (opening_as (iscsi isn i) l) (session_of_live l i w.boots) opening refl w.is
    ∙ ap (λ z. next (talk_held z (session_so_far l.number (session_of_live l i w.boots) es))) (sym w.word) ∙ ap (λ z. next (talk_held isn z)) w.talk

-- a time that comes leaves it
pub time_place : (es : List Event) (l : Live) (isn : ℕ) (i : LoginInfo) (now : ℕ) (w : SessionComes es l isn i (by_time now)) → openings l.number es ≡ opening_as (iscsi isn i) l ∷ [] →
    file_place l.number es ≡ next (talk_held isn (session_of isn i l))
time_place es l isn i now w opening =
    session_so l.number es (opening_as (iscsi isn i) l) (session_of_live l i w.boots) opening refl w.is
    ∙ ap (λ z. next (talk_held z (session_so_far l.number (session_of_live l i w.boots) es))) (sym w.word)
    ∙ ap (λ z. next (talk_held isn z)) (unsized_talk es l isn i (by_time now) w (time_unsized es l isn i w.boots now w.word))
    ∙ ap next (held_waited (session_talker i) isn (session_of isn i l) now)

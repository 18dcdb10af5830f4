-- A drive's session that begins: nothing has come to an open that isn't made yet, and nothing was asked of it; and it is up to date then.
use Rattle.std.proofs.Common.{◌≡◌, ℕ, ◌+◌, ◌==◌, Bool, true, false, cond, List, [], ◌∷◌, ◌++◌, map, filter, Option, Some, None, refl, sym, ◌∙◌, ap, subst, append-nil, append_assoc, add-zero, arith}
use Rattle.std.specs.Prelude.{find}
use Rattle.std.specs.List.{flat_map}
use Rattle.std.specs.Option.{option_and_then}
use Rattle.std.proofs.lemmas.Bool.{eqb-true}
use Rattle.nb_defs.specs.Records.{Out, step, command, tried}
use Rattle.nb_drivecmd.specs.declared.drive.Drive.{Drive}
use Rattle.nb_drivecmd.specs.HookedDrives.{is_drive, drive_numbered}
use Rattle.nb_login.specs.declared.info.LoginInfo.{LoginInfo}
use Rattle.nb_sans.specs.Sessions.{ReadTask, session_end, session_talker}
use Rattle.nb_streams.specs.Flows.{conn_phase, held_after}
use Rattle.nb_streams.specs.Streams.{HeldBytes, front, has_ended}
use Rattle.nb_streams.specs.Trying.{timer_after, due_tries, comes_in, tries_at, mark_tries}
use Rattle.nb_talks.specs.TalkPromises.{talker_end}
use Rattle.nb_talks.specs.Talking.{by_time, by_task, Talk, text_to_send, unsaid, begun_talk}
use Rattle.nb_machine.specs.Drives.{first_block_read, session_of, session_answer}
use Rattle.nb_machine.specs.Findings.{first_word}
use Rattle.nb_machine.specs.Lives.{iscsi, kind_number, Live, open_record}
use Rattle.nb_machine.specs.Scripts.{net0_mac}
use Rattle.nb_machine.specs.States.{State}
use Rattle.nb_laws.specs.CommandsSoFar.{so_far, so_far_by, has_opening, drive_lives, booted_so_far, booted_drive}
use Rattle.nb_laws.specs.Drives.{to_session, asked_of, asked_by, came_to_session_at, came_to_session, session_by, comes_so, tries_so, told_session_mark, session_mark_at, session_marks_of, session_marks}
use Rattle.nb_laws.specs.Events.{Event, starts, hears, waits, stops, puts}
use Rattle.nb_laws.specs.Lists.{hardware, gathered, opening_at, openings, Opening, live, time}
use Rattle.nb_laws.specs.Webs.{segment_in, told_try_mark, try_mark_at, try_marks_of}
use Rattle.nb_laws.proofs.Histories.{hardware_more, time_more}
use Rattle.nb_laws.proofs.Tellings.{told, try_marks_by, came_session_more, session_marks_more, openings_more}
use Rattle.nb_openlaws.specs.Standings.{IsKindBy, HasLogin, live_opening, AgreesState}
use Rattle.nb_openlaws.specs.Sessions.{session_of_live, SessionAgrees}
use Rattle.nb_openlaws.proofs.OpenRecords.{AreOf}
use Rattle.nb_openlaws.proofs.OpenStates.{IsNext, SaysSettings, hardware_now, opens_login}
use Rattle.nb_openlaws.proofs.SessionMarks.{marks_by, marks_put, talk_put}
use Rattle.nb_openlaws.proofs.SessionTalks.{answer_by}
use Rattle.nb_openlaws.proofs.SessionsDue.{quiet_of}
use Rattle.nb_openlaws.proofs.StreamPlaces.{held_text}
use Rattle.nb_openlaws.proofs.UsedEvents.{live_none}

-- NOTHING IS ASKED OF WHAT ISN'T OPEN

found_lives : (es : List Event) (number : ℕ) (drives : List Drive) (d : Drive) → find (is_drive number) (filter (drive_lives es) drives) ≡ Some d → drive_lives es d ≡ true
found_lives es number [] d is = absurd (cc)
found_lives es number (x ∷ xs) d is = by (drive_lives es x) refl (λ e. found_lives es number xs d e) is
  where
    rest : List Drive
    rest = filter (drive_lives es) xs

    here : (b : Bool) → drive_lives es x ≡ true → (find (is_drive number) rest ≡ Some d → drive_lives es d ≡ true) → cond b (Some x) (find (is_drive number) rest) ≡ Some d → drive_lives es d ≡ true
    here true lives later e = let same : x ≡ d = cc in subst (λ z. drive_lives es z ≡ true) same lives
    here false lives later e = later e

    by : (b : Bool) → drive_lives es x ≡ b → (find (is_drive number) rest ≡ Some d → drive_lives es d ≡ true) → find (is_drive number) (cond b (x ∷ rest) rest) ≡ Some d → drive_lives es d ≡ true
    by true lives later e = here (is_drive number x) lives later e
    by false gone later e = later e

-- the drive that a command boots lives
booted_lives : (es : List Event) (drives : List Drive) (number : Option ℕ) (d : Drive) → option_and_then (λ n. drive_numbered n (filter (drive_lives es) drives)) number ≡ Some d → drive_lives es d ≡ true
booted_lives es drives None d is = absurd (cc)
booted_lives es drives (Some n) d is = found_lives es n drives d is

asks_dead : (k now : ℕ) (es : List Event) (o : Option Drive) → ((d : Drive) → o ≡ Some d → drive_lives es d ≡ true) → live k es ≡ [] → asked_of k now o ≡ []
asks_dead k now es None lives none = refl
asks_dead k now es (Some d) lives none = by (d.open_number == k) refl
  where
    by : (b : Bool) → (d.open_number == k) ≡ b → asked_of k now (Some d) ≡ []
    by true e = absurd (let never : false ≡ true = sym (ap has_opening (ap (λ z. live z es) (eqb-true d.open_number k e) ∙ none)) ∙ lives d refl in cc)
    by false e = ap (λ b. cond b (by_task first_block_read now ∷ []) []) e

put_dead : (k : ℕ) (es : List Event) (o : Out) → live k es ≡ [] → asked_by k es o ≡ []
put_dead k es (command depth line place expanded words) none =
    let m = so_far_by es (so_far es) (puts (command depth line place expanded words)) in
    asks_dead k (time es) es (booted_drive m) (λ d is. booted_lives es (so_far es).hooked (booted_so_far m) d is) none
put_dead k es (step number) none = refl
put_dead k es _ none = refl

-- no event brings anything to an open that doesn't live
comes_dead : (k : ℕ) (es : List Event) (e : Event) → live k es ≡ [] → came_to_session_at k es e ≡ []
comes_dead k es (puts o) none = put_dead k es o none
comes_dead k es (hears n bytes m) none = ap (λ os. map to_session (flat_map (segment_in n (time es) m) os)) none
comes_dead k es (waits n ms) none = ap (λ (os : List Opening). map to_session (flat_map (λ o. by_time (time es + ms) ∷ []) os)) none
comes_dead k es (starts n s) none = refl
comes_dead k es (stops n) none = refl

both_none : {A : Type 0} (xs ys : List A) → xs ++ ys ≡ [] → (xs ≡ []) × (ys ≡ [])
both_none [] ys none = (refl, none)
both_none (x ∷ xs) ys none = absurd cc

came_unopened : (k : ℕ) (before es : List Event) → openings k before ≡ [] → gathered (opening_at k) before es ≡ [] → gathered (came_to_session_at k) before es ≡ []
unfolding gathered
came_unopened k before [] shut none = refl
came_unopened k before (e ∷ es) shut none =
    let both = both_none (opening_at k before e) (gathered (opening_at k) (before ++ e ∷ []) es) none in
    ap (λ z. z ++ gathered (came_to_session_at k) (before ++ e ∷ []) es) (comes_dead k before e (live_none k before shut))
    ∙ came_unopened k (before ++ e ∷ []) es (openings_more k before e ∙ ap (λ z. z ++ opening_at k before e) shut ∙ both.0) both.1

unopened_first : (k : ℕ) → openings k [] ≡ []
unfolding openings gathered
unopened_first k = refl

-- nothing has come to the session of an open that wasn't made
pub unopened_came : (k : ℕ) (es : List Event) → openings k es ≡ [] → came_to_session k es ≡ []
unfolding openings came_to_session
unopened_came k es none = came_unopened k [] es (unopened_first k) none

told_alike : (k now : ℕ) (o : Out) → told_try_mark k now o ≡ [] → told_session_mark k now o ≡ []
told_alike k now (tried number count) none = by (number == k) none
  where
    by : (b : Bool) → cond b (tries_at count now ∷ []) [] ≡ [] → cond b (tries_so count now ∷ []) [] ≡ []
    by true e = absurd cc
    by false e = refl
told_alike k now (step number) none = refl
told_alike k now _ none = refl

mark_dead : (k : ℕ) (es : List Event) (e : Event) → live k es ≡ [] → try_mark_at k es e ≡ [] → session_mark_at k es e ≡ []
mark_dead k es (puts o) none untold = ap (λ z. map comes_so z ++ told_session_mark k (time es) o) (comes_dead k es (puts o) none) ∙ told_alike k (time es) o untold
mark_dead k es (hears n bytes m) none untold = ap (map comes_so) (comes_dead k es (hears n bytes m) none)
mark_dead k es (waits n ms) none untold = ap (map comes_so) (comes_dead k es (waits n ms) none)
mark_dead k es (starts n s) none untold = refl
mark_dead k es (stops n) none untold = refl

marks_unopened : (k : ℕ) (before es : List Event) → openings k before ≡ [] → gathered (opening_at k) before es ≡ [] → gathered (try_mark_at k) before es ≡ [] → gathered (session_mark_at k) before es ≡ []
unfolding gathered
marks_unopened k before [] shut none untold = refl
marks_unopened k before (e ∷ es) shut none untold =
    let both = both_none (opening_at k before e) (gathered (opening_at k) (before ++ e ∷ []) es) none in
    let tries = both_none (try_mark_at k before e) (gathered (try_mark_at k) (before ++ e ∷ []) es) untold in
    ap (λ z. z ++ gathered (session_mark_at k) (before ++ e ∷ []) es) (mark_dead k before e (live_none k before shut) tries.0)
    ∙ marks_unopened k (before ++ e ∷ []) es (openings_more k before e ∙ ap (λ z. z ++ opening_at k before e) shut ∙ both.0) both.1 tries.1

unopened_marks : (k : ℕ) (es : List Event) → openings k es ≡ [] → try_marks_of k es ≡ [] → session_marks_of k es ≡ []
unfolding openings session_marks_of try_marks_of
unopened_marks k es none untold = marks_unopened k [] es (unopened_first k) none untold

-- IT BEGINS

nothing_held_then : (isn start : ℕ) (text : List ℕ) → held_after isn ([] ++ text_to_send text start) ≡ record { pairs = []; stop = None }
unfolding conn_phase
nothing_held_then isn start text = held_text isn [] text start

first_tried : (isn start : ℕ) (text : List ℕ) → flat_map mark_tries (tries_at 1 start ∷ []) ≡ due_tries (timer_after isn start ([] ++ text_to_send text start))
unfolding timer_after
first_tried isn start [] = refl
first_tried isn start (b ∷ bytes) = refl

-- a drive's open that was made, with the records that it begins with
pub begun_session : (es : List Event) (s : State) (l : Live) (put : List Out) (isn : ℕ) (i : LoginInfo) → l.kind ≡ iscsi isn i → IsNext s l → SaysSettings es s l.kind → AreOf l.number put →
    ((now : ℕ) → try_marks_by l.number now put ≡ tries_at 1 now ∷ []) → AgreesState es s →
    SessionAgrees (es ++ told (open_record l ∷ put)) l isn i
begun_session es s l put isn i is next settings of first a =
    let k = l.number in
    let e = puts (open_record l) in
    let es1 = es ++ e ∷ [] in
    let es2 = es1 ++ told put in
    let t = session_talker i in
    let made = a.unopened k (omega (arith, next.number_is, a.opens)) in
    let untold = (a.unstreamed k (omega (arith, next.number_is, a.opens))).1 in
    let login = subst (λ z. HasLogin k es1 z (record { kind = kind_number z; server = l.server; port = l.port; own = l.own; target = l.target; since = l.since })) is (opens_login es s l next settings a) in
    let o = session_of_live l i login.0 in
    let quiet = quiet_of k k es1 put of in
    let h = hardware es1 in
    let word : isn ≡ first_word h.identity k =
    subst (λ z. IsKindBy (record { mac = net0_mac s.devices; identity = s.machine }) k z (live_opening l)) is next.kind_is ∙ ap (λ x. first_word x.identity k) (hardware_now es s a ∙ sym (hardware_more es e)) in
    let now : time es1 ≡ l.since = time_more es e ∙ add-zero (time es) ∙ a.time ∙ sym next.since_is in
    let text = unsaid t isn (record { calls = []; tasks = [] }) in
    let begun : session_of isn i l ≡ begun_talk t isn l.since = ap (λ xs. session_of isn i (record l { exchanges = xs })) next.bare in
    let came : came_to_session k es1 ≡ [] = came_session_more k es e ∙ append-nil (came_to_session k es) ∙ unopened_came k es made in
    let marks : session_marks_of k es1 ≡ [] = session_marks_more k es e ∙ append-nil (session_marks_of k es) ∙ unopened_marks k es made untold in
    let marked : session_marks k o es2 ≡ map comes_in ([] ++ text_to_send text l.since) ++ tries_at 1 l.since ∷ [] =
    marks_put k o es1 put quiet.hardware_is quiet.nothing ∙ ap (λ z. z ++ try_marks_by k (time es1) put) (ap (marks_by h k o) marks ∙ append-nil (map comes_in (begun_talk t (first_word h.identity k) l.since).calls) ∙ ap (λ w. map comes_in (begun_talk t w l.since).calls) (sym word))
    ∙ ap (λ z. map comes_in (begun_talk t isn l.since).calls ++ z) (first (time es1) ∙ ap (λ z. tries_at 1 z ∷ []) now) in
    subst (λ z. SessionAgrees z l isn i) (append_assoc es (e ∷ []) (told put)) (record {
      boots = login.0;
      word = word ∙ ap (λ x. first_word x.identity k) (sym quiet.hardware_is);
      is = quiet.sessions_is ∙ login.1;
      talk = talk_put k o es1 put quiet.hardware_is quiet.nothing ∙ ap (session_by h k o) came ∙ ap (λ w. begun_talk t w l.since) (sym word) ∙ sym begun;
      rec = 0;
      undecided = ap (λ (d : Talk ReadTask). talker_end t isn 0 d) begun ∙ ap (λ (x : HeldBytes). session_end 0 i (front x) (has_ended x) []) (nothing_held_then isn l.since text);
      tries = record {
        earlier = map comes_in ([] ++ text_to_send text l.since);
        rest = tries_at 1 l.since ∷ [];
        all = marked;
        tried = first_tried isn l.since text ∙ ap (λ (d : Talk ReadTask). due_tries (timer_after isn l.since d.calls)) (sym begun);
      };
      sized = λ booting untasked. ap (λ (d : Talk ReadTask). answer_by l.server i isn d) begun ∙ ap (λ (x : HeldBytes). session_answer l.server i (front x) []) (nothing_held_then isn l.since text);
    })

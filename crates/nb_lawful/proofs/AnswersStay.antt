-- A drive that has answered has done so whatever comes to it further.
use Rattle.std.proofs.Common.{◌≡◌, ℕ, List, [], ◌∷◌, ◌++◌, length, fold, Option, Some, None, IsSome, refl, sym, ◌∙◌, ap, subst, arith, append_assoc, append-nil, false, true}
use Rattle.std.specs.List.{flat_map}
use Rattle.std.specs.Option.{is_some}
use Rattle.std.proofs.lemmas.List.Concat.{flat_map-append}
use Rattle.std.proofs.lemmas.List.Sums.{fold-append}
use Rattle.nb_login.specs.declared.info.LoginInfo.{LoginInfo}
use Rattle.nb_streams.specs.Flows.{TcpCall, segment_came, time_came}
use Rattle.nb_streams.specs.Streams.{front, IsPrefixOf}
use Rattle.nb_streams.proofs.FlowLaws.{front_grows}
use Rattle.nb_talks.specs.Talking.{Came, by_segment, by_time, by_task, Talk, talk_held, texts_for, text_calls, talks_on, begun_talk}
use Rattle.nb_sans.specs.Sessions.{ReadTask, session_talker, session_chap, session_capacity, task_answers, tasks_taken}
use Rattle.nb_sans.specs.SessionLaws.{AreAskedAfter}
use Rattle.nb_sans.proofs.AnswerGrowth.{readings_stay}
use Rattle.nb_machine.specs.Drives.{input_to_session, drive_answer, last_answer, session_answer}
use Rattle.nb_machine.specs.Kinds.{answered, answered_by}
use Rattle.nb_machine.specs.Lives.{iscsi, Exchange, Live}

-- a stream and tasks that go on
stays : (server : ℕ) (i : LoginInfo) (come later : List ℕ) (tasks more : List (ReadTask × ℕ)) → AreAskedAfter come more → IsSome (session_answer server i come tasks) → IsSome (session_answer server i (come ++ later) (tasks ++ more))
stays server i come later tasks more after some = by (session_chap i come) refl (session_capacity i come tasks) refl some
  where
    by : (chap : Option ℕ) → session_chap i come ≡ chap → (capacity : Option ℕ) → session_capacity i come tasks ≡ capacity →
        IsSome (drive_answer server chap capacity (last_answer (tasks_taken i come tasks) (task_answers i come tasks))) → IsSome (session_answer server i (come ++ later) (tasks ++ more))
    by None is capacity at known = absurd (let no : false ≡ true = known in cc no)
    by (Some chap) is None at known = absurd (let no : false ≡ true = known in cc no)
    by (Some chap) is (Some capacity) at known =
        ap (λ c. is_some (drive_answer server c (session_capacity i (come ++ later) (tasks ++ more)) (last_answer (tasks_taken i (come ++ later) (tasks ++ more)) (task_answers i (come ++ later) (tasks ++ more))))) (readings_stay.chap i come later chap is)
        ∙ ap (λ c. is_some (drive_answer server (Some chap) c (last_answer (tasks_taken i (come ++ later) (tasks ++ more)) (task_answers i (come ++ later) (tasks ++ more))))) (readings_stay.capacity i come later tasks more capacity after at)

stays_from : (server : ℕ) (i : LoginInfo) (come longer : List ℕ) (tasks more : List (ReadTask × ℕ)) → IsPrefixOf come longer → AreAskedAfter come more → IsSome (session_answer server i come tasks) → IsSome (session_answer server i longer (tasks ++ more))
stays_from server i come longer tasks more (rest, is) after some = subst (λ z. IsSome (session_answer server i z (tasks ++ more))) (sym is) (stays server i come rest tasks more after some)

-- what a talk's calls become
abbrev more_calls : LoginInfo → ℕ → Talk ReadTask → Came ReadTask → List TcpCall
more_calls i isn d (by_segment m now) = segment_came m now ∷ text_calls (texts_for (session_talker i) isn d (by_segment m now)) now
more_calls i isn d (by_time now) = time_came now ∷ text_calls (texts_for (session_talker i) isn d (by_time now)) now
more_calls i isn d (by_task t now) = text_calls (texts_for (session_talker i) isn d (by_task t now)) now

calls_are : (i : LoginInfo) (isn : ℕ) (d : Talk ReadTask) (c : Came ReadTask) → (talks_on (session_talker i) isn d c).calls ≡ d.calls ++ more_calls i isn d c
calls_are i isn d (by_segment m now) = append_assoc d.calls (segment_came m now ∷ []) (text_calls (texts_for (session_talker i) isn d (by_segment m now)) now)
calls_are i isn d (by_time now) = append_assoc d.calls (time_came now ∷ []) (text_calls (texts_for (session_talker i) isn d (by_time now)) now)
calls_are i isn d (by_task t now) = refl

abbrev more_tasks : ℕ → Talk ReadTask → Came ReadTask → List (ReadTask × ℕ)
more_tasks isn d (by_segment m now) = []
more_tasks isn d (by_time now) = []
more_tasks isn d (by_task t now) = (t, length (front (talk_held isn d))) ∷ []

tasks_are : (i : LoginInfo) (isn : ℕ) (d : Talk ReadTask) (c : Came ReadTask) → (talks_on (session_talker i) isn d c).tasks ≡ d.tasks ++ more_tasks isn d c
tasks_are i isn d (by_segment m now) = sym (append-nil d.tasks)
tasks_are i isn d (by_time now) = sym (append-nil d.tasks)
tasks_are i isn d (by_task t now) = refl

asked_after : (isn : ℕ) (d : Talk ReadTask) (c : Came ReadTask) → AreAskedAfter (front (talk_held isn d)) (more_tasks isn d c)
asked_after isn d (by_segment m now) = tt
asked_after isn d (by_time now) = tt
asked_after isn d (by_task t now) = (omega arith, tt)

-- a talk that goes on
talk_stays : (server : ℕ) (i : LoginInfo) (isn : ℕ) (d : Talk ReadTask) (c : Came ReadTask) → IsSome (session_answer server i (front (talk_held isn d)) d.tasks) →
    IsSome (session_answer server i (front (talk_held isn (talks_on (session_talker i) isn d c))) (talks_on (session_talker i) isn d c).tasks)
talk_stays server i isn d c some =
    let e = talks_on (session_talker i) isn d c in
    let longer : IsPrefixOf (front (talk_held isn d)) (front (talk_held isn e)) =
    subst (λ (z : List TcpCall). IsPrefixOf (front (talk_held isn d)) (front (talk_held isn (record d { calls = z })))) (sym (calls_are i isn d c)) (front_grows isn d.calls (more_calls i isn d c)) in
    subst (λ z. IsSome (session_answer server i (front (talk_held isn e)) z)) (sym (tasks_are i isn d c)) (stays_from server i (front (talk_held isn d)) (front (talk_held isn e)) d.tasks (more_tasks isn d c) longer (asked_after isn d c) some)

all_stay : (server : ℕ) (i : LoginInfo) (isn : ℕ) (d : Talk ReadTask) (cs : List (Came ReadTask)) → IsSome (session_answer server i (front (talk_held isn d)) d.tasks) →
    IsSome (session_answer server i (front (talk_held isn (fold (talks_on (session_talker i) isn) d cs))) (fold (talks_on (session_talker i) isn) d cs).tasks)
all_stay server i isn d [] some = some
all_stay server i isn d (c ∷ cs) some = all_stay server i isn (talks_on (session_talker i) isn d c) cs (talk_stays server i isn d c some)

-- after more exchanges, too
pub answered_stays : (l : Live) (isn : ℕ) (i : LoginInfo) (more : List Exchange) → l.kind ≡ iscsi isn i → IsSome (answered l) → IsSome (answered (record l { exchanges = l.exchanges ++ more }))
answered_stays l isn i more kind some =
    let before = flat_map (λ (x : Exchange). input_to_session x.came) l.exchanges in
    let later = flat_map (λ (x : Exchange). input_to_session x.came) more in
    let start = begun_talk (session_talker i) isn l.since in
    let was : IsSome (answered_by (iscsi isn i) l) = subst (λ k. IsSome (answered_by k l)) kind some in
    subst (λ k. IsSome (answered_by k (record l { exchanges = l.exchanges ++ more }))) (sym kind)
    (subst (λ (z : Talk ReadTask). IsSome (session_answer l.server i (front (talk_held isn z)) z.tasks))
    (sym (ap (fold (talks_on (session_talker i) isn) start) (flat_map-append (λ (x : Exchange). input_to_session x.came) l.exchanges more) ∙ fold-append (talks_on (session_talker i) isn) start before later))
    (all_stay l.server i isn (fold (talks_on (session_talker i) isn) start before) later was))

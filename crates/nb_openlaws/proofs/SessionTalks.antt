-- A drive's session as things come to its connection and are asked of it: what it says then, and its talk after that.
use Rattle.std.proofs.Common.{◌≡◌, ℕ, true, List, [], ◌∷◌, ◌++◌, length, Option, Some, None, refl, ◌∙◌, ap, append-nil}
use Rattle.std.specs.List.{flat_map, fold}
use Rattle.std.specs.Option.{is_some, option_map}
use Rattle.std.proofs.lemmas.List.Concat.{flat_map-append}
use Rattle.std.proofs.lemmas.List.Sums.{fold-append}
use Rattle.nb_streams.specs.Flows.{time_came}
use Rattle.nb_streams.specs.Streams.{HeldBytes, front, has_ended}
use Rattle.nb_talks.specs.Talking.{Came, by_time, by_task, time_of, Talker, Talk, talk_held, come_of, receives, texts_for, talks_on, begun_talk, talk_after}
use Rattle.nb_talks.specs.TalkPromises.{talker_end}
use Rattle.nb_talks.proofs.TalkLaws.{held_with_texts}
use Rattle.nb_login.specs.declared.info.LoginInfo.{LoginInfo}
use Rattle.nb_login.specs.declared.session.Session.{Session}
use Rattle.nb_sans.specs.Sessions.{ReadTask, TaskAnswer, session_come, session_chap, session_capacity, session_end, session_talker, task_answers, tasks_taken}
use Rattle.nb_machine.specs.Drives.{DriveAnswer, input_to_session, drive_answer, last_answer, session_answer, session_of}
use Rattle.nb_machine.specs.Lives.{Exchange, Live, continued}
use Rattle.nb_openlaws.proofs.SessionTasks.{task_capacity, task_ends, end_shows, IsAskedInTime, asked_on}
use Rattle.nb_laws.proofs.DriveTalks.{held_asked, held_waited}

-- THE TALK OF EXCHANGES

-- with one exchange more
pub session_goes_on : (isn : ℕ) (i : LoginInfo) (l : Live) (x : Exchange) → session_of isn i (continued l x) ≡ fold (talks_on (session_talker i) isn) (session_of isn i l) (input_to_session x.came)
session_goes_on isn i l x =
    let came : List Exchange → List (Came ReadTask) = flat_map (λ (y : Exchange). input_to_session y.came) in
    ap (talk_after (session_talker i) isn l.since) (flat_map-append (λ (y : Exchange). input_to_session y.came) l.exchanges (x ∷ []) ∙ ap (λ z. came l.exchanges ++ z) (append-nil (input_to_session x.came)))
    ∙ fold-append (talks_on (session_talker i) isn) (begun_talk (session_talker i) isn l.since) (came l.exchanges) (input_to_session x.came)

-- by which one thing came
pub session_one_more : (isn : ℕ) (i : LoginInfo) (l : Live) (x : Exchange) (c : Came ReadTask) → input_to_session x.came ≡ c ∷ [] → session_of isn i (continued l x) ≡ talks_on (session_talker i) isn (session_of isn i l) c
session_one_more isn i l x c one = session_goes_on isn i l x ∙ ap (fold (talks_on (session_talker i) isn) (session_of isn i l)) one

asked_through : (t : Talker ReadTask) (isn : ℕ) (d : Talk ReadTask) (cs : List (Came ReadTask)) → IsAskedInTime isn d → IsAskedInTime isn (fold (talks_on t isn) d cs)
asked_through t isn d [] by = by
asked_through t isn d (c ∷ cs) by = asked_through t isn (talks_on t isn d c) cs (asked_on t isn d c by)

-- its tasks were asked in time
pub session_asked : (isn : ℕ) (i : LoginInfo) (l : Live) → IsAskedInTime isn (session_of isn i l)
session_asked isn i l = asked_through (session_talker i) isn (begun_talk (session_talker i) isn l.since) (flat_map (λ x. input_to_session x.came) l.exchanges) tt

-- WHAT IS SAID THEN

-- the texts that are said as this comes
abbrev pub said_at : LoginInfo → ℕ → Talk ReadTask → Came ReadTask → List (List ℕ)
said_at i isn d c = texts_for (session_talker i) isn d c

-- at a time none is, which is then all that its connection gets
pub time_calls : (i : LoginInfo) (isn : ℕ) (d : Talk ReadTask) (now : ℕ) → (talks_on (session_talker i) isn d (by_time now)).calls ≡ d.calls ++ time_came now ∷ []
time_calls i isn d now = append-nil (d.calls ++ time_came now ∷ [])

-- what is said then brings nothing of its stream
pub end_then : (i : LoginInfo) (isn rec : ℕ) (d : Talk ReadTask) (c : Came ReadTask) → talker_end (session_talker i) isn rec (talks_on (session_talker i) isn d c) ≡ talker_end (session_talker i) isn rec (receives isn d c)
end_then i isn rec d c = ap (λ (h : HeldBytes). session_end rec i (front h) (has_ended h) (receives isn d c).tasks) (held_with_texts isn (receives isn d c).calls (said_at i isn d c) (time_of c))

-- WHAT IT HAS ANSWERED

-- by its talk
abbrev pub answer_by : ℕ → LoginInfo → ℕ → Talk ReadTask → Option DriveAnswer
answer_by server i isn d = session_answer server i (front (talk_held isn d)) d.tasks

-- a time leaves it
pub time_answer : (server : ℕ) (i : LoginInfo) (isn : ℕ) (d : Talk ReadTask) (now : ℕ) → answer_by server i isn (talks_on (session_talker i) isn d (by_time now)) ≡ answer_by server i isn d
time_answer server i isn d now = ap (λ (h : HeldBytes). session_answer server i (front h) d.tasks) (held_waited (session_talker i) isn d now)

known_as : (server : ℕ) (chap capacity : Option ℕ) (last later : Option TaskAnswer) → is_some (drive_answer server chap capacity last) ≡ is_some (drive_answer server chap capacity later)
known_as server None capacity last later = refl
known_as server (Some chap) None last later = refl
known_as server (Some chap) (Some capacity) last later = refl

-- a task leaves its capacity known or not
pub task_answer : (server : ℕ) (i : LoginInfo) (isn : ℕ) (d : Talk ReadTask) (t : ReadTask) (now : ℕ) → IsAskedInTime isn d → is_some (answer_by server i isn (talks_on (session_talker i) isn d (by_task t now))) ≡ is_some (answer_by server i isn d)
task_answer server i isn d t now by =
    let come = come_of isn d in
    let tasks = d.tasks ++ (t, length come) ∷ [] in
    ap (λ (h : HeldBytes). is_some (session_answer server i (front h) tasks)) (held_asked (session_talker i) isn d t now)
    ∙ ap (λ z. is_some (drive_answer server (session_chap i come) z (last_answer (tasks_taken i come tasks) (task_answers i come tasks)))) (task_capacity i come d.tasks t by)
    ∙ known_as server (session_chap i come) (session_capacity i come d.tasks) (last_answer (tasks_taken i come tasks) (task_answers i come tasks)) (last_answer (tasks_taken i come d.tasks) (task_answers i come d.tasks))

-- and doesn't end it
pub task_undecided : (i : LoginInfo) (isn rec : ℕ) (d : Talk ReadTask) (t : ReadTask) (now : ℕ) → IsAskedInTime isn d →
    talker_end (session_talker i) isn rec (talks_on (session_talker i) isn d (by_task t now)) ≡ talker_end (session_talker i) isn rec d
task_undecided i isn rec d t now by = end_then i isn rec d (by_task t now) ∙ task_ends rec i (come_of isn d) (has_ended (talk_held isn d)) d.tasks t by

answered_opens : (server : ℕ) (o : Option Session) (capacity : Option ℕ) (last : Option TaskAnswer) → is_some (drive_answer server (option_map (λ (s : Session). s.chap) o) capacity last) ≡ true → (s : Session) × (o ≡ Some s)
answered_opens server None capacity last is = absurd (cc)
answered_opens server (Some s) capacity last is = (s, refl)

-- of one that has answered, whichever record is at hand
pub ends_alike : (server : ℕ) (i : LoginInfo) (isn rec : ℕ) (d : Talk ReadTask) → is_some (answer_by server i isn d) ≡ true → is_some (talker_end (session_talker i) isn rec d) ≡ is_some (talker_end (session_talker i) isn 0 d)
ends_alike server i isn rec d is =
    let come = come_of isn d in
    let s = answered_opens server (session_come 0 i come) (session_capacity i come d.tasks) (last_answer (tasks_taken i come d.tasks) (task_answers i come d.tasks)) is in
    end_shows rec i come (has_ended (talk_held isn d)) d.tasks s.0 s.1

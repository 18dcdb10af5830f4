-- A drive's session while the history is ahead of its open: something has come to it, or a task is asked of it, that the open hasn't taken yet.
use Rattle.std.proofs.Common.{◌≡◌, ℕ, ◌==◌, ◌||◌, Bool, true, false, cond, List, [], ◌∷◌, ◌++◌, map, None, refl, sym, ◌∙◌, ap, subst, eq-eqb}
use Rattle.std.specs.List.{AllByRecursion}
use Rattle.nb_defs.specs.Records.{Out, step, tried}
use Rattle.nb_streams.specs.Trying.{TryMark, comes_in}
use Rattle.nb_streams.specs.Streams.{next}
use Rattle.nb_talks.specs.Talking.{Came, by_segment, by_time, by_task, talk_held, text_calls, texts_for, talks_on}
use Rattle.nb_talks.specs.TalkPromises.{talker_end}
use Rattle.nb_login.specs.declared.info.LoginInfo.{LoginInfo}
use Rattle.nb_sans.specs.Sessions.{ReadTask, session_talker}
use Rattle.nb_machine.specs.Connections.{arrived_segment}
use Rattle.nb_machine.specs.Drives.{session_of, session_answered, first_block_read}
use Rattle.nb_machine.specs.Findings.{first_word}
use Rattle.nb_machine.specs.Lives.{OpenKind, tftp, http, iscsi, dns, dhcp, ping, OpenInput, message, tcp_segment, time as time_input, task, close, Live}
use Rattle.nb_laws.specs.Drives.{SessionOpening, sessions, came_to_session_at, came_to_session as came_by, comes_with, session_by, session_so_far, comes_so, tries_so, told_session_mark, session_mark_at, session_marks_of, all_calls, session_marks}
use Rattle.nb_laws.specs.Events.{Event, EachEvent}
use Rattle.nb_laws.specs.Lists.{hardware, opening_at, time, last_place}
use Rattle.nb_laws.proofs.DriveEvents.{BringsNothing, came_told, talk_same, marks_told, session_tries_by, told_nothing}
use Rattle.nb_laws.proofs.Tellings.{told, no_more, KeepsHardware, hardware_stays, sessions_stay, came_session_more}
use Rattle.nb_openlaws.specs.Standings.{lives_among}
use Rattle.nb_openlaws.specs.Sessions.{TriesStand, session_of_live, SessionAgrees, AgreesBy, SessionsAgree}
use Rattle.nb_openlaws.proofs.OpenRecords.{IsOf, AreOf, left, of_later, are_no_command}
use Rattle.nb_openlaws.proofs.Takings.{or_first, or_second, flip_other}
use Rattle.nb_openlaws.proofs.WebTries.{TriesStandIn}
use Rattle.nb_openlaws.proofs.SessionMarks.{marks_by, marks_comes}

-- THE HISTORY AHEAD

-- this has come to a session, or is asked of it, and its open hasn't taken it yet
pub record SessionComes (es : List Event) (l : Live) (isn : ℕ) (i : LoginInfo) (c : Came ReadTask) : Type 0 where
  pub boots : Bool
  pub word : isn ≡ first_word (hardware es).identity l.number
  pub is : sessions l.number es ≡ session_of_live l i boots ∷ []
  pub before : List (Came ReadTask)
  pub all : came_by l.number es ≡ before ++ c ∷ []
  pub by_before : session_by (hardware es) l.number (session_of_live l i boots) before ≡ session_of isn i l
  pub rec : ℕ
  pub undecided : talker_end (session_talker i) isn rec (session_of isn i l) ≡ None
  pub marks_before : List TryMark
  pub tries : TriesStand isn l.since (session_of isn i l).calls marks_before
  pub marks : session_marks l.number (session_of_live l i boots) es
      ≡ marks_before ++ map comes_in (all_calls (session_talker i) isn (session_of isn i l) (comes_with (hardware es) l.number (session_of_live l i boots) (session_of isn i l) c))
  pub sized : boots ≡ true → (session_of isn i l).tasks ≡ [] → session_answered isn i l ≡ None

-- the first block is asked of it then, and its open hasn't taken the task yet
pub record SessionDue (es : List Event) (l : Live) (isn : ℕ) (i : LoginInfo) (now : ℕ) : Type 0 where
  pub boots : Bool
  pub word : isn ≡ first_word (hardware es).identity l.number
  pub is : sessions l.number es ≡ session_of_live l i boots ∷ []
  pub talk : session_so_far l.number (session_of_live l i boots) es ≡ talks_on (session_talker i) isn (session_of isn i l) (by_task first_block_read now)
  pub rec : ℕ
  pub undecided : talker_end (session_talker i) isn rec (session_of isn i l) ≡ None
  pub came : List TryMark
  pub put : List TryMark
  pub tries : TriesStandIn isn l.since (session_of isn i l).calls came put
  pub marks : session_marks l.number (session_of_live l i boots) es
      ≡ (came ++ map comes_in (text_calls (texts_for (session_talker i) isn (session_of isn i l) (by_task first_block_read now)) now)) ++ put

-- it has come to one whose last ADVANCE has the place to which its stream had come before
pub record SessionPlaced (es : List Event) (l : Live) (isn : ℕ) (i : LoginInfo) (c : Came ReadTask) : Type 0 where
  pub comes : SessionComes es l isn i c
  pub placed : last_place l.number es ≡ next (talk_held isn (session_of isn i l))

-- what a record brings; a datagram comes to none
abbrev pub SessionBrought : List Event → OpenInput → Live → ℕ → LoginInfo → Type 0
SessionBrought es (message rec port body now) l isn i = Unit {0}
SessionBrought es (tcp_segment rec g now) l isn i = SessionPlaced es l isn i (by_segment (arrived_segment rec g) now)
SessionBrought es (time_input now) l isn i = SessionPlaced es l isn i (by_time now)
SessionBrought es (task t now) l isn i = Unit {0}
SessionBrought es (close cause) l isn i = Unit {0}

-- the same beside its place
abbrev pub SessionCame : List Event → OpenInput → Live → ℕ → LoginInfo → Type 0
SessionCame es (message rec port body now) l isn i = Unit {0}
SessionCame es (tcp_segment rec g now) l isn i = SessionComes es l isn i (by_segment (arrived_segment rec g) now)
SessionCame es (time_input now) l isn i = SessionComes es l isn i (by_time now)
SessionCame es (task t now) l isn i = Unit {0}
SessionCame es (close cause) l isn i = Unit {0}

pub brought_so : (es : List Event) (input : OpenInput) (l : Live) (isn : ℕ) (i : LoginInfo) → last_place l.number es ≡ next (talk_held isn (session_of isn i l)) → SessionCame es input l isn i → SessionBrought es input l isn i
brought_so es (message rec port body now) l isn i placed came = tt
brought_so es (tcp_segment rec g now) l isn i placed came = record { comes = came; placed = placed }
brought_so es (time_input now) l isn i placed came = record { comes = came; placed = placed }
brought_so es (task t now) l isn i placed came = tt
brought_so es (close cause) l isn i placed came = tt

-- this comes to each that is a drive's
abbrev pub ComesBy : List Event → OpenKind → Live → Came ReadTask → Type 0
ComesBy es tftp l c = Unit {0}
ComesBy es (http isn) l c = Unit {0}
ComesBy es (iscsi isn i) l c = SessionComes es l isn i c
ComesBy es (dns id) l c = Unit {0}
ComesBy es (dhcp a) l c = Unit {0}
ComesBy es ping l c = Unit {0}

abbrev pub AllSessionsCome : List Event → Came ReadTask → List Live → Type 0
AllSessionsCome es c ls = AllByRecursion (λ l. ComesBy es l.kind l c) ls

-- a history that says the same of an open's session
pub record SameSession (k : ℕ) (a b : List Event) : Type 0 where
  pub hardware_is : hardware b ≡ hardware a
  pub sessions_is : sessions k b ≡ sessions k a
  pub came_is : came_by k b ≡ came_by k a
  pub marks_is : session_marks_of k b ≡ session_marks_of k a

marks_same : (k : ℕ) (s : SessionOpening) (a b : List Event) → SameSession k a b → session_marks k s b ≡ session_marks k s a
marks_same k s a b q = ap (λ h. marks_by h k s (session_marks_of k b)) q.hardware_is ∙ ap (marks_by (hardware a) k s) q.marks_is

pub agrees_on : (a b : List Event) (l : Live) (isn : ℕ) (i : LoginInfo) → SameSession l.number a b → SessionAgrees a l isn i → SessionAgrees b l isn i
agrees_on a b l isn i q w = record {
  boots = w.boots;
  word = w.word ∙ ap (λ h. first_word h.identity l.number) (sym q.hardware_is);
  is = q.sessions_is ∙ w.is;
  talk = talk_same l.number (session_of_live l i w.boots) b a q.hardware_is q.came_is ∙ w.talk;
  rec = w.rec;
  undecided = w.undecided;
  tries = subst (TriesStand isn l.since (session_of isn i l).calls) (sym (marks_same l.number (session_of_live l i w.boots) a b q)) w.tries;
  sized = w.sized;
}

pub comes_on : (a b : List Event) (l : Live) (isn : ℕ) (i : LoginInfo) (c : Came ReadTask) → SameSession l.number a b → SessionComes a l isn i c → SessionComes b l isn i c
comes_on a b l isn i c q w =
    let k = l.number in
    let s = session_of_live l i w.boots in
    let d = session_of isn i l in
    record {
      boots = w.boots;
      word = w.word ∙ ap (λ h. first_word h.identity k) (sym q.hardware_is);
      is = q.sessions_is ∙ w.is;
      before = w.before;
      all = q.came_is ∙ w.all;
      by_before = ap (λ h. session_by h k s w.before) q.hardware_is ∙ w.by_before;
      rec = w.rec;
      undecided = w.undecided;
      marks_before = w.marks_before;
      tries = w.tries;
      marks = marks_same k s a b q ∙ w.marks ∙ ap (λ h. w.marks_before ++ map comes_in (all_calls (session_talker i) isn d (comes_with h k s d c))) (sym q.hardware_is);
      sized = w.sized;
    }

pub due_stays : (a b : List Event) (l : Live) (isn : ℕ) (i : LoginInfo) (now : ℕ) → SameSession l.number a b → SessionDue a l isn i now → SessionDue b l isn i now
due_stays a b l isn i now q w = record {
  boots = w.boots;
  word = w.word ∙ ap (λ h. first_word h.identity l.number) (sym q.hardware_is);
  is = q.sessions_is ∙ w.is;
  talk = talk_same l.number (session_of_live l i w.boots) b a q.hardware_is q.came_is ∙ w.talk;
  rec = w.rec;
  undecided = w.undecided;
  came = w.came;
  put = w.put;
  tries = w.tries;
  marks = marks_same l.number (session_of_live l i w.boots) a b q ∙ w.marks;
}

-- so are the records of another open
other_told : (k j now : ℕ) (o : Out) → IsOf k o → (k == j) ≡ false → told_session_mark j now o ≡ []
other_told k j now (tried number count) h e = ap (λ z. cond (z == j) (tries_so count now ∷ []) []) h ∙ ap (λ b. cond b (tries_so count now ∷ []) []) e
other_told k j now (step number) h e = refl
other_told k j now _ h e = refl

others_told : (k j now : ℕ) (outs : List Out) → AreOf k outs → (k == j) ≡ false → session_tries_by j now outs ≡ []
others_told k j now [] h e = refl
others_told k j now (o ∷ outs) h e = ap (λ z. z ++ session_tries_by j now outs) (other_told k j now o h.0 e) ∙ others_told k j now outs h.1 e

pub other_session : (k j : ℕ) (es : List Event) (put : List Out) → AreOf k put → (k == j) ≡ false → SameSession j es (es ++ told put)
other_session k j es put of other =
    let f = left es put (of_later k put of) in
    let none = told_nothing es put (are_no_command k put of) in
    record {
      hardware_is = f.hardware_is;
      sessions_is = f.sessions_is j;
      came_is = came_told j es put none;
      marks_is = marks_told j es put none ∙ no_more (session_marks_of j es) (session_tries_by j (time es) put) (others_told k j (time es) put of other);
    }

-- each of these
agrees_by : (a b : List Event) (kind : OpenKind) (l : Live) → SameSession l.number a b → AgreesBy a kind l → AgreesBy b kind l
agrees_by a b tftp l q w = tt
agrees_by a b (http isn) l q w = tt
agrees_by a b (iscsi isn i) l q w = agrees_on a b l isn i q w
agrees_by a b (dns id) l q w = tt
agrees_by a b (dhcp x) l q w = tt
agrees_by a b ping l q w = tt

pub sessions_on : (a b : List Event) (ls : List Live) → ((j : ℕ) → lives_among j ls ≡ true → SameSession j a b) → SessionsAgree a ls → SessionsAgree b ls
sessions_on a b [] same w = tt
sessions_on a b (l ∷ ls) same w = (
  agrees_by a b l.kind l (same l.number (ap (λ z. z || lives_among l.number ls) (eq-eqb l.number l.number refl))) w.0,
  sessions_on a b ls (λ j some. same j (or_right (l.number == j) (lives_among j ls) some)) w.1,
)
  where
    or_right : (x y : Bool) → y ≡ true → (x || y) ≡ true
    or_right true y e = refl
    or_right false y e = e

comes_by : (a b : List Event) (kind : OpenKind) (l : Live) (c : Came ReadTask) → SameSession l.number a b → ComesBy a kind l c → ComesBy b kind l c
comes_by a b tftp l c q w = tt
comes_by a b (http isn) l c q w = tt
comes_by a b (iscsi isn i) l c q w = comes_on a b l isn i c q w
comes_by a b (dns id) l c q w = tt
comes_by a b (dhcp x) l c q w = tt
comes_by a b ping l c q w = tt

pub others_come : (k : ℕ) (es : List Event) (put : List Out) (ls : List Live) (c : Came ReadTask) → AreOf k put → lives_among k ls ≡ false → AllSessionsCome es c ls → AllSessionsCome (es ++ told put) c ls
others_come k es put [] c of apart w = tt
others_come k es put (l ∷ ls) c of apart w = (
  comes_by es (es ++ told put) l.kind l c (other_session k l.number es put of (flip_other l.number k (or_first (l.number == k) (lives_among k ls) apart))) w.0,
  others_come k es put ls c of (or_second (l.number == k) (lives_among k ls) apart) w.1,
)

-- SOMETHING COMES

pub comes_now : (es : List Event) (e : Event) (l : Live) (isn : ℕ) (i : LoginInfo) (c : Came ReadTask) → KeepsHardware e → opening_at l.number es e ≡ [] → came_to_session_at l.number es e ≡ c ∷ [] → session_mark_at l.number es e ≡ comes_so c ∷ [] →
    SessionAgrees es l isn i → SessionComes (es ++ e ∷ []) l isn i c
comes_now es e l isn i c keeps unopened here marked a =
    let k = l.number in
    let s = session_of_live l i a.boots in
    let t = session_talker i in
    let d = session_of isn i l in
    let hw = hardware_stays es e keeps in
    record {
      boots = a.boots;
      word = a.word ∙ ap (λ h. first_word h.identity k) (sym hw);
      is = sessions_stay k es e unopened ∙ a.is;
      before = came_by k es;
      all = came_session_more k es e ∙ ap (λ z. came_by k es ++ z) here;
      by_before = ap (λ h. session_by h k s (came_by k es)) hw ∙ a.talk;
      rec = a.rec;
      undecided = a.undecided;
      marks_before = session_marks k s es;
      tries = a.tries;
      marks = marks_comes k s es e c keeps marked
          ∙ ap (λ w. session_marks k s es ++ map comes_in (all_calls t w (session_so_far k s es) (comes_with (hardware es) k s (session_so_far k s es) c))) (sym a.word)
          ∙ ap (λ z. session_marks k s es ++ map comes_in (all_calls t isn z (comes_with (hardware es) k s z c))) a.talk
          ∙ ap (λ h. session_marks k s es ++ map comes_in (all_calls t isn d (comes_with h k s d c))) (sym hw);
      sized = a.sized;
    }

-- RECORDS OF AN OPEN

-- what they leave of a session
pub record Quiet (k : ℕ) (es : List Event) (put : List Out) : Type 0 where
  pub hardware_is : hardware (es ++ told put) ≡ hardware es
  pub sessions_is : sessions k (es ++ told put) ≡ sessions k es
  pub nothing : EachEvent BringsNothing es (told put)

pub quiet_of : (k j : ℕ) (es : List Event) (put : List Out) → AreOf j put → Quiet k es put
quiet_of k j es put of =
    let f = left es put (of_later j put of) in
    record { hardware_is = f.hardware_is; sessions_is = f.sessions_is k; nothing = told_nothing es put (are_no_command j put of) }

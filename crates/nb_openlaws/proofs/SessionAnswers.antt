-- What a drive has answered and read, by the history: what its open has, where nothing is outstanding; and before any task is answered nothing is read.
use Rattle.std.proofs.Common.{◌≡◌, ℕ, ◌||◌, Bool, true, false, List, [], ◌∷◌, ◌++◌, length, Option, Some, None, refl, sym, ◌∙◌, ap}
use Rattle.std.specs.List.{flat_map, fold, list_any, AllByRecursion}
use Rattle.std.specs.Option.{is_some, option_and_then}
use Rattle.std.proofs.lemmas.List.Sums.{fold-append}
use Rattle.nb_login.specs.declared.info.LoginInfo.{LoginInfo}
use Rattle.nb_sans.specs.Sessions.{ReadTask, session_chap, session_capacity, session_talker}
use Rattle.nb_streams.specs.Streams.{HeldBytes, front}
use Rattle.nb_talks.specs.Talking.{by_task, Talk, come_of, talks_on, begun_talk}
use Rattle.nb_machine.specs.Drives.{input_to_session, drive_answer, session_answer, session_of, session_answered, first_block_read, last_read}
use Rattle.nb_machine.specs.Findings.{first_word}
use Rattle.nb_machine.specs.Kinds.{answered, answered_by, read_last}
use Rattle.nb_machine.specs.Lives.{OpenKind, tftp, http, iscsi, dns, dhcp, ping, OpenInput, message, tcp_segment, time, task, close, Exchange, Live, continued}
use Rattle.nb_machine.specs.Takings.{Over}
use Rattle.nb_laws.specs.Drives.{sessions, session_so_far, answered_so_far}
use Rattle.nb_laws.specs.Events.{Event}
use Rattle.nb_laws.specs.Hookings.{HasRead}
use Rattle.nb_laws.specs.Lists.{hardware}
use Rattle.nb_laws.proofs.DriveTalks.{held_asked}
use Rattle.nb_openlaws.specs.Sessions.{session_of_live, SessionAgrees, is_task, IsUnaskedByCommands}
use Rattle.nb_openlaws.proofs.SessionTalks.{session_one_more, session_asked, answer_by, task_answer}
use Rattle.nb_openlaws.proofs.SessionTasks.{none_read, first_unread}
use Rattle.nb_openlaws.proofs.SessionsDue.{SessionDue}

-- WHAT THE HISTORY SAYS OF IT

-- its talk is that of its exchanges, or one task ahead, where it boots and has become known by the last of them: also of one that has ended
pub data TalksSo (es : List Event) (l : Live) (isn : ℕ) (i : LoginInfo) (boots : Bool) : Type 0 where
  talks_alike : session_so_far l.number (session_of_live l i boots) es ≡ session_of isn i l → TalksSo es l isn i boots
  talks_ahead : (now : ℕ) → boots ≡ true → (earlier : List Exchange) (last : Exchange) → l.exchanges ≡ earlier ++ last ∷ [] → is_some (session_answered isn i (record l { exchanges = earlier })) ≡ false →
      session_so_far l.number (session_of_live l i boots) es ≡ talks_on (session_talker i) isn (session_of isn i l) (by_task first_block_read now) → TalksSo es l isn i boots

pub record SessionSays (es : List Event) (l : Live) (isn : ℕ) (i : LoginInfo) : Type 0 where
  pub boots : Bool
  pub word : isn ≡ first_word (hardware es).identity l.number
  pub is : sessions l.number es ≡ session_of_live l i boots ∷ []
  pub talk : TalksSo es l isn i boots

abbrev pub SaysBy : List Event → OpenKind → Live → Type 0
SaysBy es tftp l = Unit {0}
SaysBy es (http isn) l = Unit {0}
SaysBy es (iscsi isn i) l = SessionSays es l isn i
SaysBy es (dns id) l = Unit {0}
SaysBy es (dhcp a) l = Unit {0}
SaysBy es ping l = Unit {0}

-- of those that have ended
abbrev pub SessionsOver : List Event → List Over → Type 0
SessionsOver es over = AllByRecursion (λ o. SaysBy es o.live.kind o.live) over

pub says_agrees : (es : List Event) (l : Live) (isn : ℕ) (i : LoginInfo) → SessionAgrees es l isn i → SessionSays es l isn i
says_agrees es l isn i w = record { boots = w.boots; word = w.word; is = w.is; talk = talks_alike w.talk }

pub says_due : (es : List Event) (l : Live) (isn : ℕ) (i : LoginInfo) (now : ℕ) (w : SessionDue es l isn i now) → w.boots ≡ true → (earlier : List Exchange) (last : Exchange) → l.exchanges ≡ earlier ++ last ∷ [] →
    is_some (session_answered isn i (record l { exchanges = earlier })) ≡ false →
    SessionSays es l isn i
says_due es l isn i now w booting earlier last is before = record { boots = w.boots; word = w.word; is = w.is; talk = talks_ahead now booting earlier last is before w.talk }

-- WHAT IT HAS ANSWERED

-- as its open has, where nothing is outstanding
pub session_answers : (es : List Event) (l : Live) (isn : ℕ) (i : LoginInfo) (w : SessionAgrees es l isn i) → l.kind ≡ iscsi isn i → answered_so_far l.number (session_of_live l i w.boots) es ≡ answered l
session_answers es l isn i w kind =
    ap (λ v. answer_by l.server i v (session_so_far l.number (session_of_live l i w.boots) es)) (sym w.word) ∙ ap (answer_by l.server i isn) w.talk ∙ sym (ap (λ k. answered_by k l) kind)

-- it has answered where its open has
pub says_answered : (es : List Event) (l : Live) (isn : ℕ) (i : LoginInfo) (w : SessionSays es l isn i) → l.kind ≡ iscsi isn i → is_some (answered_so_far l.number (session_of_live l i w.boots) es) ≡ is_some (answered l)
says_answered es l isn i w kind =
    ap (λ v. is_some (answer_by l.server i v (session_so_far l.number (session_of_live l i w.boots) es))) (sym w.word) ∙ by w.talk ∙ sym (ap (λ k. is_some (answered_by k l)) kind)
  where
    by : TalksSo es l isn i w.boots → is_some (answer_by l.server i isn (session_so_far l.number (session_of_live l i w.boots) es)) ≡ is_some (session_answered isn i l)
    by (talks_alike same) = ap (λ z. is_some (answer_by l.server i isn z)) same
    by (talks_ahead now booting earlier last is before same) = ap (λ z. is_some (answer_by l.server i isn z)) same ∙ task_answer l.server i isn (session_of isn i l) first_block_read now (session_asked isn i l)

-- WHAT IT HAS READ

pub has_read : (es : List Event) (l : Live) (isn : ℕ) (i : LoginInfo) (bytes : List ℕ) → SessionAgrees es l isn i → l.kind ≡ iscsi isn i → read_last l ≡ Some bytes → HasRead l.number es bytes
has_read es l isn i bytes w kind is = record { session = session_of_live l i w.boots; is = w.is; read = ap (option_and_then last_read) (session_answers es l isn i w kind) ∙ is }

pub reads_last : (es : List Event) (l : Live) (isn : ℕ) (i : LoginInfo) (bytes : List ℕ) → SessionAgrees es l isn i → l.kind ≡ iscsi isn i → HasRead l.number es bytes → read_last l ≡ Some bytes
reads_last es l isn i bytes w kind h =
    let both : h.session ∷ [] ≡ session_of_live l i w.boots ∷ [] = sym h.is ∙ w.is in
    let same : h.session ≡ session_of_live l i w.boots = cc in
    sym (ap (option_and_then last_read) (ap (λ s. answered_so_far l.number s es) same ∙ session_answers es l isn i w kind)) ∙ h.read

-- BEFORE ANY TASK IS ANSWERED

or_both : (a b : Bool) → (a || b) ≡ false → (a ≡ false) × (b ≡ false)
or_both true b e = absurd (cc)
or_both false b e = (refl, e)

-- what isn't a task leaves the tasks
one_unasked : (i : LoginInfo) (isn : ℕ) (d : Talk ReadTask) (input : OpenInput) → is_task input ≡ false → (fold (talks_on (session_talker i) isn) d (input_to_session input)).tasks ≡ d.tasks
one_unasked i isn d (message rec port body now) e = refl
one_unasked i isn d (tcp_segment rec g now) e = refl
one_unasked i isn d (time now) e = refl
one_unasked i isn d (task t now) e = absurd (cc)
one_unasked i isn d (close cause) e = refl

all_unasked : (i : LoginInfo) (isn : ℕ) (d : Talk ReadTask) (xs : List Exchange) → IsUnaskedByCommands xs → (fold (talks_on (session_talker i) isn) d (flat_map (λ x. input_to_session x.came) xs)).tasks ≡ d.tasks
all_unasked i isn d [] e = refl
all_unasked i isn d (x ∷ xs) e =
    let both = or_both (is_task x.came) (list_any (λ y. is_task y.came) xs) e in
    ap (λ (z : Talk ReadTask). z.tasks) (fold-append (talks_on (session_talker i) isn) d (input_to_session x.came) (flat_map (λ (y : Exchange). input_to_session y.came) xs))
    ∙ all_unasked i isn (fold (talks_on (session_talker i) isn) d (input_to_session x.came)) xs both.1 ∙ one_unasked i isn d x.came both.0

pub unasked_tasks : (l : Live) (isn : ℕ) (i : LoginInfo) → IsUnaskedByCommands l.exchanges → (session_of isn i l).tasks ≡ []
unasked_tasks l isn i e = all_unasked i isn (begun_talk (session_talker i) isn l.since) l.exchanges e

none_last : (server : ℕ) (chap capacity : Option ℕ) → option_and_then last_read (drive_answer server chap capacity None) ≡ None
none_last server None capacity = refl
none_last server (Some chap) None = refl
none_last server (Some chap) (Some capacity) = refl

-- of a talk without tasks
none_read_by : (server : ℕ) (i : LoginInfo) (isn : ℕ) (d : Talk ReadTask) → d.tasks ≡ [] → option_and_then last_read (answer_by server i isn d) ≡ None
none_read_by server i isn d untasked =
    let come = come_of isn d in
    ap (λ z. option_and_then last_read (session_answer server i come z)) untasked
    ∙ ap (λ z. option_and_then last_read (drive_answer server (session_chap i come) (session_capacity i come []) z)) (none_read i come)
    ∙ none_last server (session_chap i come) (session_capacity i come [])

-- of one with the first task
first_read_by : (server : ℕ) (i : LoginInfo) (isn : ℕ) (d : Talk ReadTask) (now : ℕ) → d.tasks ≡ [] → option_and_then last_read (answer_by server i isn (talks_on (session_talker i) isn d (by_task first_block_read now))) ≡ None
first_read_by server i isn d now untasked =
    let come = come_of isn d in
    let one : List (ReadTask × ℕ) = (first_block_read, length come) ∷ [] in
    ap (λ (h : HeldBytes). option_and_then last_read (session_answer server i (front h) (d.tasks ++ (first_block_read, length come) ∷ []))) (held_asked (session_talker i) isn d first_block_read now)
    ∙ ap (λ z. option_and_then last_read (session_answer server i come (z ++ (first_block_read, length come) ∷ []))) untasked
    ∙ ap (λ z. option_and_then last_read (drive_answer server (session_chap i come) (session_capacity i come one) z)) (first_unread i come first_block_read)
    ∙ none_last server (session_chap i come) (session_capacity i come one)

-- an open that was asked nothing has read nothing
pub unread_unasked : (l : Live) (isn : ℕ) (i : LoginInfo) → l.kind ≡ iscsi isn i → IsUnaskedByCommands l.exchanges → read_last l ≡ None
unread_unasked l isn i kind e = ap (λ k. option_and_then last_read (answered_by k l)) kind ∙ none_read_by l.server i isn (session_of isn i l) (unasked_tasks l isn i e)

-- nor has it as it is asked for the first time, whether it takes the task or not
pub unread_asked : (l : Live) (isn : ℕ) (i : LoginInfo) (x : Exchange) (now : ℕ) → l.kind ≡ iscsi isn i → IsUnaskedByCommands l.exchanges → x.came ≡ task first_block_read now → read_last (continued l x) ≡ None
unread_asked l isn i x now kind e is =
    ap (λ k. option_and_then last_read (answered_by k (continued l x))) kind
    ∙ ap (λ z. option_and_then last_read (answer_by l.server i isn z)) (session_one_more isn i l x (by_task first_block_read now) (ap input_to_session is))
    ∙ first_read_by l.server i isn (session_of isn i l) now (unasked_tasks l isn i e)

-- and the history says no read of it, though it may be a task ahead
pub says_unread : (es : List Event) (l : Live) (isn : ℕ) (i : LoginInfo) (w : SessionSays es l isn i) → IsUnaskedByCommands l.exchanges → option_and_then last_read (answered_so_far l.number (session_of_live l i w.boots) es) ≡ None
says_unread es l isn i w e =
    ap (λ v. option_and_then last_read (answer_by l.server i v (session_so_far l.number (session_of_live l i w.boots) es))) (sym w.word) ∙ by w.talk
  where
    by : TalksSo es l isn i w.boots → option_and_then last_read (answer_by l.server i isn (session_so_far l.number (session_of_live l i w.boots) es)) ≡ None
    by (talks_alike same) = ap (λ z. option_and_then last_read (answer_by l.server i isn z)) same ∙ none_read_by l.server i isn (session_of isn i l) (unasked_tasks l isn i e)
    by (talks_ahead now booting earlier last is before same) = ap (λ z. option_and_then last_read (answer_by l.server i isn z)) same ∙ first_read_by l.server i isn (session_of isn i l) now (unasked_tasks l isn i e)

-- What the history of a course's records says of the drives' sessions that live: what came to each and was asked of it, with the texts that it has
-- said, is what its exchanges have; its tries are those that are due.
use Rattle.std.specs.Prelude.{◌≡◌, ℕ, Bool, true, false, List, [], ◌∷◌, ◌++◌, None}
use Rattle.std.specs.List.{flat_map, list_any, AllByRecursion}
use Rattle.nb_login.specs.declared.info.LoginInfo.{LoginInfo}
use Rattle.nb_sans.specs.Sessions.{session_talker}
use Rattle.nb_streams.specs.Flows.{TcpCall}
use Rattle.nb_streams.specs.Trying.{timer_after, due_tries, TryMark, mark_tries}
use Rattle.nb_talks.specs.TalkPromises.{talker_end}
use Rattle.nb_machine.specs.Courses as course
use Rattle.nb_machine.specs.Courses.{Standing}
use Rattle.nb_machine.specs.Drives.{session_of, session_answered}
use Rattle.nb_machine.specs.Findings.{first_word}
use Rattle.nb_machine.specs.Lives.{OpenKind, tftp, http, iscsi, dns, dhcp, ping, OpenInput, message, tcp_segment, time, task, close, Exchange, Live}
use Rattle.nb_laws.specs.Drives.{SessionOpening, sessions, session_so_far, session_marks}
use Rattle.nb_laws.specs.Events.{Event}
use Rattle.nb_laws.specs.Lists.{hardware}

-- the marks since the timer was started have its tries
pub record TriesStand (isn start : ℕ) (calls : List TcpCall) (marks : List TryMark) : Type 0 where
  pub earlier : List TryMark
  pub rest : List TryMark
  pub all : marks ≡ earlier ++ rest
  pub tried : flat_map mark_tries rest ≡ due_tries (timer_after isn start calls)

-- what a drive's session was begun with, as its open tells it, and whether its command boots the disk that it hooks
abbrev pub session_of_live : Live → LoginInfo → Bool → SessionOpening
session_of_live l i boots = record {
  opening = record { kind = 3; server = l.server; port = l.port; own = l.own; target = l.target; since = l.since };
  login = i;
  boots = boots;
}

-- Of one that lives: its talk is that of its exchanges, and goes on, and its tries stand. One that boots was asked for its first block, if its
-- capacity is known.
pub record SessionAgrees (es : List Event) (l : Live) (isn : ℕ) (i : LoginInfo) : Type 0 where
  pub boots : Bool
  pub word : isn ≡ first_word (hardware es).identity l.number
  pub is : sessions l.number es ≡ session_of_live l i boots ∷ []
  pub talk : session_so_far l.number (session_of_live l i boots) es ≡ session_of isn i l
  -- it was decided by no record; which one shows in causes alone
  pub rec : ℕ
  pub undecided : talker_end (session_talker i) isn rec (session_of isn i l) ≡ None
  pub tries : TriesStand isn l.since (session_of isn i l).calls (session_marks l.number (session_of_live l i boots) es)
  pub sized : boots ≡ true → (session_of isn i l).tasks ≡ [] → session_answered isn i l ≡ None

-- the same by the kind of the open
abbrev pub AgreesBy : List Event → OpenKind → Live → Type 0
AgreesBy es tftp l = Unit {0}
AgreesBy es (http isn) l = Unit {0}
AgreesBy es (iscsi isn i) l = SessionAgrees es l isn i
AgreesBy es (dns id) l = Unit {0}
AgreesBy es (dhcp a) l = Unit {0}
AgreesBy es ping l = Unit {0}

abbrev pub AgreesSession : List Event → Live → Type 0
AgreesSession es l = AgreesBy es l.kind l

abbrev pub SessionsAgree : List Event → List Live → Type 0
SessionsAgree es ls = AllByRecursion (AgreesSession es) ls

-- of where a course stands
abbrev pub SessionsStand : List Event → Standing → Type 0
SessionsStand es course.ready = Unit {0}
SessionsStand es (course.running s inner outer) = SessionsAgree es s.live
SessionsStand es (course.waiting s w) = SessionsAgree es s.live
SessionsStand es (course.reaching s inner outer next) = SessionsAgree es s.live
SessionsStand es (course.yielded s inner outer) = SessionsAgree es s.live
SessionsStand es (course.handing s rest) = SessionsAgree es s.live
SessionsStand es (course.left s outer cause) = SessionsAgree es s.live
SessionsStand es (course.handed_off s) = SessionsAgree es s.live
SessionsStand es (course.stopped s) = SessionsAgree es s.live

-- what comes is a task
abbrev pub is_task : OpenInput → Bool
is_task (message rec port body now) = false
is_task (tcp_segment rec g now) = false
is_task (time now) = false
is_task (task t now) = true
is_task (close cause) = false

-- the open was asked nothing by a command
abbrev pub IsUnaskedByCommands : List Exchange → Type 0
IsUnaskedByCommands xs = list_any (λ x. is_task x.came) xs ≡ false

-- RFC 7143 over RFC 9293: what came to an open that is a drive's session (3), as its connection has it, by the history alone; and what of it
-- has come, may be sent, was tried, and ends it.
use Rattle.std.specs.Prelude.{◌≡◌, ℕ, ◌-◌, ◌==◌, ◌&&◌, not, Bool, true, false, List, [], ◌∷◌, ◌++◌, length, take, drop, map, fold, Option, None, Some, if◌then◌else◌}
use Rattle.std.specs.List.{flat_map, sum_by}
use Rattle.std.specs.Option.{is_some}
use Rattle.nb_terms.specs.declared.acts.SendTo.{SendTo}
use Rattle.nb_terms.specs.declared.cause.Cause.{Cause}
use Rattle.nb_defs.specs.Records.{Out, step, command, tried}
use Rattle.nb_drivecmd.specs.declared.disk_names.NamedDisk.{NamedDisk}
use Rattle.nb_drivecmd.specs.declared.drive.Drive.{Drive}
use Rattle.nb_drivecmd.specs.declared.outcome.AfterHook.{AfterHook}
use Rattle.nb_drivecmd.specs.declared.outcome.AfterHook.TheVariants.{Keep, Boot}
use Rattle.nb_drivecmd.specs.declared.outcome.Hooking.{Hooking}
use Rattle.nb_drivelogin.specs.DriveLogins.{login_by}
use Rattle.nb_login.specs.declared.info.LoginInfo.{LoginInfo}
use Rattle.nb_settings.specs.Tables.{TableLists}
use Rattle.nb_streams.specs.Segments.{Arrival}
use Rattle.nb_streams.specs.Streams.{front, next}
use Rattle.nb_streams.specs.Flows.{TcpCall, segment_came, time_came, conn_phase}
use Rattle.nb_streams.specs.Sending.{tried_again, closing_segment}
use Rattle.nb_talks.specs.Talking.{Came, by_segment, by_time, by_task, time_of, Talker, Talk, talk_held, texts_for, text_calls, talks_on, begun_talk}
use Rattle.nb_talks.specs.TalkPromises.{talker_end}
use Rattle.nb_streams.specs.Trying.{timer_after, TryMark, comes_in, tries_at, mark_calls, HasTriedAll}
use Rattle.nb_streams.specs.Endings.{end_cause, plan_tries, ConnEnds}
use Rattle.nb_sans.specs.Sessions.{ReadTask, session_talker}
use Rattle.nb_webs.specs.Webs.{NoTask}
use Rattle.nb_tcp.specs.Messages.{outgoing_message}
use Rattle.nb_tcp.specs.MayBeSent.{MayBeSent}
use Rattle.nb_machine.specs.Drives.{DriveAnswer, session_answer, first_block_read}
use Rattle.nb_machine.specs.Findings.{first_word, open_words}
use Rattle.nb_laws.specs.CommandsSoFar.{so_far, so_far_by, hooking_so_far, booted_drive}
use Rattle.nb_laws.specs.Events.{Event, starts, hears, waits, stops, puts}
use Rattle.nb_laws.specs.Lists.{Hardware, hardware, Opening, opening_at, time, gathered}
use Rattle.nb_laws.specs.Webs.{opens_session, came_at, connection_link}

-- THE LOGIN

-- the disk of an open's target, which is the disk's name, a zero byte, and the eight bytes of its unit; of its host a login says nothing
abbrev pub disk_at : (port : ℕ) → (target : List ℕ) → NamedDisk
disk_at port target = record { host = []; port = port; lun = drop (length target - 8) target; name = take (length target - 9) target }

-- what the login of open k is begun with: its disk, the settings at its hook, and the open's words
abbrev pub login_at : Hardware → ℕ → TableLists → Opening → LoginInfo
login_at h k table o = login_by (disk_at o.port o.target) (open_words h.identity k) table

-- the disk that a command hooks is booted then
abbrev pub is_booted_then : AfterHook → Bool
is_booted_then Keep = false
is_booted_then (Boot keep) = true

abbrev pub hooks_to_boot : Option Hooking → Bool
hooks_to_boot None = false
hooks_to_boot (Some hooking) = is_booted_then hooking.after

-- a drive's open, what its login is begun with, and whether its command boots the disk that it hooks
pub record SessionOpening : Type 0 where
  pub opening : Opening
  pub login : LoginInfo
  pub boots : Bool

abbrev pub session_with : ℕ → List Event → Opening → SessionOpening
session_with k before o =
    record { opening = o; login = login_at (hardware before) k (so_far before).table o; boots = hooks_to_boot (hooking_so_far (so_far before)) }

abbrev pub session_opening : ℕ → List Event → Opening → List SessionOpening
session_opening k before o = if opens_session o then session_with k before o ∷ [] else []

abbrev pub session_at : ℕ → List Event → Event → List SessionOpening
session_at k before e = flat_map (session_opening k before) (opening_at k before e)

-- open k, if it is a drive's: at most one
unfoldable pub sessions : ℕ → List Event → List SessionOpening
sessions k es = gathered (session_at k) [] es

-- WHAT CAME TO IT

-- of a connection of which nothing is asked, as a session has it
abbrev pub to_session : Came NoTask → Came ReadTask
to_session (by_segment m now) = by_segment m now
to_session (by_time now) = by_time now
to_session (by_task task now) = by_time now

-- the read of its first block, where a command boots the drive that is hooked on open k
abbrev pub asked_of : ℕ → ℕ → Option Drive → List (Came ReadTask)
asked_of k now None = []
asked_of k now (Some d) = if d.open_number == k then by_task first_block_read now ∷ [] else []

abbrev pub asked_by : ℕ → List Event → Out → List (Came ReadTask)
asked_by k before (command depth line place expanded words) =
    asked_of k (time before) (booted_drive (so_far_by before (so_far before) (puts (command depth line place expanded words))))
asked_by k before (step number) = []
asked_by k before _ = []

abbrev pub came_to_session_at : ℕ → List Event → Event → List (Came ReadTask)
came_to_session_at k before (puts o) = asked_by k before o
came_to_session_at k before (hears n bytes m) = map to_session (came_at k before (hears n bytes m))
came_to_session_at k before (waits n ms) = map to_session (came_at k before (waits n ms))
came_to_session_at k before (starts n s) = []
came_to_session_at k before (stops n) = []

-- the segments and times that came to open k while it was live, and what commands ask of it as they begin
unfoldable pub came_to_session : ℕ → List Event → List (Came ReadTask)
came_to_session k es = gathered (came_to_session_at k) [] es

-- what it has answered by a talk, once its capacity is known
abbrev pub session_answered_by : Hardware → ℕ → SessionOpening → Talk ReadTask → Option DriveAnswer
session_answered_by h k s d = session_answer s.opening.server s.login (front (talk_held (first_word h.identity k) d)) d.tasks

-- By this its capacity has become known, and its session goes on: a disk that is to be booted is asked for its first block then.
abbrev pub is_sized_by : Hardware → ℕ → SessionOpening → Talk ReadTask → Talk ReadTask → Bool
is_sized_by h k s d heard =
    s.boots && not (is_some (session_answered_by h k s d)) && is_some (session_answered_by h k s heard)
    && not (is_some (talker_end (session_talker s.login) (first_word h.identity k) 0 heard))

abbrev pub first_asked : Hardware → ℕ → SessionOpening → Talk ReadTask → Came ReadTask → List (Came ReadTask)
first_asked h k s d c =
    if is_sized_by h k s d (talks_on (session_talker s.login) (first_word h.identity k) d c) then by_task first_block_read (time_of c) ∷ [] else []

-- what comes to a session with that, and its talk then
abbrev pub comes_with : Hardware → ℕ → SessionOpening → Talk ReadTask → Came ReadTask → List (Came ReadTask)
comes_with h k s d c = c ∷ first_asked h k s d c

abbrev pub talk_with : Hardware → ℕ → SessionOpening → Talk ReadTask → Came ReadTask → Talk ReadTask
talk_with h k s d c = fold (talks_on (session_talker s.login) (first_word h.identity k)) d (comes_with h k s d c)

-- what is said in it and has come to it, after all this
abbrev pub session_by : Hardware → ℕ → SessionOpening → List (Came ReadTask) → Talk ReadTask
session_by h k s came = fold (talk_with h k s) (begun_talk (session_talker s.login) (first_word h.identity k) s.opening.since) came

abbrev pub session_so_far : ℕ → SessionOpening → List Event → Talk ReadTask
session_so_far k s es = session_by (hardware es) k s (came_to_session k es)

-- how far its stream has come
abbrev pub session_place_by : Hardware → ℕ → List (Came ReadTask) → SessionOpening → ℕ
session_place_by h k came s = next (talk_held (first_word h.identity k) (session_by h k s came))

abbrev pub session_place : ℕ → List Event → ℕ
session_place k es = sum_by (session_place_by (hardware es) k (came_to_session k es)) (sessions k es)

-- what it has answered, once its capacity is known
abbrev pub answered_so_far : ℕ → SessionOpening → List Event → Option DriveAnswer
answered_so_far k s es = session_answered_by (hardware es) k s (session_so_far k s es)

-- WHAT IT MAY SEND

-- what has come to its connection and was given to it to send, with the texts that were said last or without some of them
pub record AreItsCalls (k : ℕ) (es : List Event) (s : SessionOpening) (calls : List TcpCall) : Type 0 where
  pub is : sessions k es ≡ s ∷ []
  pub texts : List (List ℕ)
  pub now : ℕ
  pub all : (session_so_far k s es).calls ≡ calls ++ text_calls texts now

-- a segment that its connection may send after this, of what is said in it
pub record MaySendInSession (k : ℕ) (es : List Event) (send : SendTo) : Type 0 where
  pub session : SessionOpening
  pub calls : List TcpCall
  pub its : AreItsCalls k es session calls
  pub may : MayBeSent (connection_link (hardware es) k session.opening) calls send

-- what a timer covers then: the SYN, the segment that isn't acknowledged, or a probe
pub record IsTriedInSession (k : ℕ) (es : List Event) (send : SendTo) : Type 0 where
  pub session : SessionOpening
  pub calls : List TcpCall
  pub its : AreItsCalls k es session calls
  pub tried : send ≡ outgoing_message (connection_link (hardware es) k session.opening) (tried_again (first_word (hardware es).identity k) (conn_phase (first_word (hardware es).identity k) calls))

-- what closes it from above
abbrev pub closing_in_session : Hardware → ℕ → SessionOpening → Talk ReadTask → SendTo
closing_in_session h k s d = outgoing_message (connection_link h k s.opening) (closing_segment (first_word h.identity k) (conn_phase (first_word h.identity k) d.calls))

pub record ClosesSession (k : ℕ) (es : List Event) (send : SendTo) : Type 0 where
  pub session : SessionOpening
  pub is : sessions k es ≡ session ∷ []
  pub closes : send ≡ closing_in_session (hardware es) k session (session_so_far k session es)

-- WHY IT ENDS

-- what concerns its tries: what came to it, and a TRY with its time
pub data SessionMark : Type 0 where
  comes_so : Came ReadTask → SessionMark
  tries_so : (count now : ℕ) → SessionMark

abbrev pub told_session_mark : (k now : ℕ) → Out → List SessionMark
told_session_mark k now (tried number count) = if number == k then tries_so count now ∷ [] else []
told_session_mark k now (step number) = []
told_session_mark k now _ = []

abbrev pub session_mark_at : ℕ → List Event → Event → List SessionMark
session_mark_at k before (puts o) = map comes_so (came_to_session_at k before (puts o)) ++ told_session_mark k (time before) o
session_mark_at k before (hears n bytes m) = map comes_so (came_to_session_at k before (hears n bytes m))
session_mark_at k before (waits n ms) = map comes_so (came_to_session_at k before (waits n ms))
session_mark_at k before (starts n s) = []
session_mark_at k before (stops n) = []

unfoldable pub session_marks_of : ℕ → List Event → List SessionMark
session_marks_of k es = gathered (session_mark_at k) [] es

-- what this is to its connection, and the texts that are said then
abbrev pub calls_of : Came ReadTask → List TcpCall
calls_of (by_segment m now) = segment_came m now ∷ []
calls_of (by_time now) = time_came now ∷ []
calls_of (by_task task now) = []

abbrev pub calls_with : Talker ReadTask → ℕ → Talk ReadTask → Came ReadTask → List TcpCall
calls_with t isn d c = calls_of c ++ text_calls (texts_for t isn d c) (time_of c)

-- of several that come one after another
abbrev pub all_calls : Talker ReadTask → ℕ → Talk ReadTask → List (Came ReadTask) → List TcpCall
all_calls t isn d [] = []
all_calls t isn d (c ∷ cs) = calls_with t isn d c ++ all_calls t isn (talks_on t isn d c) cs

-- what concerns the tries of its connection, in order: what came, each with the texts that were said then, and each TRY with its time
abbrev pub said_marks : Hardware → ℕ → SessionOpening → Talk ReadTask → List SessionMark → List TryMark
said_marks h k s d [] = []
said_marks h k s d (comes_so c ∷ marks) =
    map comes_in (all_calls (session_talker s.login) (first_word h.identity k) d (comes_with h k s d c)) ++ said_marks h k s (talk_with h k s d c) marks
said_marks h k s d (tries_so count now ∷ marks) = tries_at count now ∷ said_marks h k s d marks

-- from what it says as it begins on
abbrev pub session_marks : ℕ → SessionOpening → List Event → List TryMark
session_marks k s es =
    let begun = begun_talk (session_talker s.login) (first_word (hardware es).identity k) s.opening.since in
    map comes_in begun.calls ++ said_marks (hardware es) k s begun (session_marks_of k es)

-- All tries of the plan that runs were made, at its times, and the plan is over now: nothing since its start has answered. The cause has how
-- many these are.
pub record SessionHasNoAnswer (k : ℕ) (es : List Event) (cause : Cause) : Type 0 where
  pub session : SessionOpening
  pub is : sessions k es ≡ session ∷ []
  pub tried : HasTriedAll (first_word (hardware es).identity k) session.opening.since (time es) (session_marks k session es)
  pub count : cause ≡ end_cause 2 (plan_tries (timer_after (first_word (hardware es).identity k) session.opening.since (flat_map mark_calls (session_marks k session es))).plan) 0

-- The last segment, and none before it, ends the session by what its stream says then: the login is refused, lacks a secret or is broken, a
-- command is refused, a PDU isn't allowed in its place, or the stream has ended.
pub record DecidesSession (k : ℕ) (es : List Event) (cause : Cause) : Type 0 where
  pub session : SessionOpening
  pub is : sessions k es ≡ session ∷ []
  pub before : List (Came ReadTask)
  pub last : Arrival
  pub now : ℕ
  pub all : came_to_session k es ≡ before ++ by_segment last now ∷ []
  -- that of a record before it; which one shows in causes alone
  pub earlier : ℕ
  pub undecided : talker_end (session_talker session.login) (first_word (hardware es).identity k) earlier (session_by (hardware es) k session before) ≡ None
  pub ends : talker_end (session_talker session.login) (first_word (hardware es).identity k) last.rec (session_so_far k session es) ≡ Some cause

-- The last segment ends the connection: by a reset, by bytes past the longest stream, or by a second FIN at another place.
pub record BreaksSession (k : ℕ) (es : List Event) (cause : Cause) : Type 0 where
  pub session : SessionOpening
  pub is : sessions k es ≡ session ∷ []
  pub before : List (Came ReadTask)
  pub last : Arrival
  pub now : ℕ
  pub all : came_to_session k es ≡ before ++ by_segment last now ∷ []
  pub ends : ConnEnds (first_word (hardware es).identity k) session.opening.since (session_by (hardware es) k session before).calls (segment_came last now) cause

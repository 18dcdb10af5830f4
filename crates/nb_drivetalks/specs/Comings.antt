-- What comes of a begin, a segment, a time and a task: the messages to the network, what is handed up, the end, and what the three stand
-- for then. Our own.
use Rattle.std.specs.Prelude.{◌≡◌, ℕ, false, List, [], ◌∷◌, ◌++◌, length, drop, Option, Some, None}
use Rattle.std.specs.List.{AllByRecursion}
use Rattle.nb_terms.specs.declared.cause.Cause.{Cause}
use Rattle.nb_conns.specs.ConnAsks.{link_of}
use Rattle.nb_conns.specs.ConnEffects.{place_says}
use Rattle.nb_disk.specs.Histories.{DiskCall, SessionNumbers, asked, came, reading, stream_ended}
use Rattle.nb_disk.specs.DiskAnswers.{disk_answer, opened_of}
use Rattle.nb_drivechains.specs.declared.drive_chain.DriveChain.{DriveChain}
use Rattle.nb_drivenodes.specs.DriveAsks.{DriveAskParts}
use Rattle.nb_drivenodes.specs.UnitAnswers.{unit_answered_by}
use Rattle.nb_drivenodes.specs.UnitTalks.{answered_says, blocks_says}
use Rattle.nb_graph.specs.Deeds.{no_memory}
use Rattle.nb_graph.specs.Trace.{Said}
use Rattle.nb_graph.specs.Whole.{Objects}
use Rattle.nb_ledger.specs.Flat.{Notice}
use Rattle.nb_login.specs.declared.info.LoginInfo.{LoginInfo}
use Rattle.nb_login.specs.declared.refusal.LoginRefusal.TheVariants.{ZeroByte}
use Rattle.nb_login.specs.declared.refusal.SentName.{SentName}
use Rattle.nb_login.specs.declared.session.Session.{Session}
use Rattle.nb_login.specs.Refusals.{zero_name, refusal_cause}
use Rattle.nb_nodes.specs.declared.obj.Obj.{Obj}
use Rattle.nb_opens.specs.Notices.{first_close}
use Rattle.nb_retry.specs.declared.retry.Due.{Due}
use Rattle.nb_sans.specs.Sessions.{ReadTask, session_come, drive_calls, session_end, session_talker}
use Rattle.nb_streams.specs.Endings.{due_end, segment_end}
use Rattle.nb_streams.specs.Flows.{TcpCall, conn_phase, time_came}
use Rattle.nb_streams.specs.Segments.{Arrival}
use Rattle.nb_streams.specs.Sending.{calls_for, syn, with_first_try}
use Rattle.nb_talks.specs.Talking.{Talk, begun_talk, by_segment, by_task, by_time, come_of, receives, talks_on, text_to_send, texts_for, unsaid}
use Rattle.nb_talks.specs.TalkPromises.{closes_by, due_sends, phase_of, said_sends, segment_put, talker_end}
use Rattle.nb_streams.specs.Trying.{due_fired, fired, timer_after}
use Rattle.nb_tcp.specs.declared.link.Link.{Link}
use Rattle.nb_webtalks.specs.Comings.{sends_say}
use Rattle.nb_webtalks.specs.Tellings.{messages_of}
use Rattle.nb_drivetalks.specs.SessionStands.{StandsForSession}
use Rattle.nb_drivetalks.specs.Tellings.{told_above, told_below}

-- WHAT GOES DOWN

-- the messages of texts that are given to a connection, one after another
abbrev pub texts_say : Link → ℕ → List TcpCall → List (List ℕ) → ℕ → List Said
texts_say l rec calls [] now = []
texts_say l rec calls (x ∷ xs) now = sends_say l rec (said_sends (conn_phase l.isn calls) x) ++ texts_say l rec (calls ++ text_to_send x now) xs now

-- a connection that a segment ends takes no text any more
abbrev pub say_unless : Option Cause → List Said → List Said
say_unless None says = says
say_unless (Some cause) says = []

-- how far the stream has come, what the segment calls for, what its texts do, and the close of a session that has ended
abbrev pub session_segment_says : DriveAskParts → Talk ReadTask → Arrival → ℕ → List Said
session_segment_says a d m now =
    let t = session_talker a.info in
    let isn = a.conn.isn in
    let heard = receives isn d (by_segment m now) in
    let by_connection = segment_end isn (phase_of isn d) m in
    place_says m.rec (segment_put t isn d m now).advance
    ++ (sends_say (link_of a.conn) m.rec (calls_for isn (phase_of isn d) m.segment)
    ++ (say_unless by_connection (texts_say (link_of a.conn) m.rec heard.calls (texts_for t isn d (by_segment m now)) now)
    ++ sends_say (link_of a.conn) 0 (closes_by (talker_end t isn m.rec heard) by_connection isn (phase_of isn (talks_on t isn d (by_segment m now))))))

-- WHAT GOES UP

-- what a unit hands up at a call, after these: bytes of the blocks that were read, and that its command was answered
abbrev pub unit_says : ℕ → ℕ → SessionNumbers → List DiskCall → DiskCall → List Said
unit_says rec chap o before call = blocks_says rec (disk_answer o (reading o before) call).give ++ answered_says rec chap (unit_answered_by o before call)

abbrev pub units_say : ℕ → ℕ → SessionNumbers → List DiskCall → List DiskCall → List Said
units_say rec chap o before [] = []
units_say rec chap o before (call ∷ calls) = unit_says rec chap o before call ++ units_say rec chap o (before ++ call ∷ []) calls

-- the calls of the drive of a session that is open
abbrev pub calls_by : LoginInfo → List ℕ → List (ReadTask × ℕ) → Option Session → List DiskCall
calls_by i stream tasks None = []
calls_by i stream tasks (Some s) = drive_calls 0 i stream tasks s

abbrev pub session_calls : LoginInfo → List ℕ → List (ReadTask × ℕ) → List DiskCall
session_calls i stream tasks = calls_by i stream tasks (session_come 0 i stream)

-- what is handed up of an open session where the stream comes further, by the calls of the drive that this adds
abbrev pub drive_hands : ℕ → (before after : List DiskCall) → Option Session → List Said
drive_hands rec before after None = []
drive_hands rec before after (Some s) = units_say rec s.chap (opened_of s) before (drop (length before) after)

abbrev pub handed_up : ℕ → LoginInfo → (come later : List ℕ) → List (ReadTask × ℕ) → List Said
handed_up rec i come later tasks = drive_hands rec (session_calls i come tasks) (session_calls i later tasks) (session_come 0 i later)

-- what comes of the stream is a call
abbrev pub IsPart : DiskCall → Type 0
IsPart (came rec p) = Unit {0}
IsPart (asked lba n) = ⊥
IsPart (stream_ended rec) = Unit {0}

-- Where the stream had come to one place its session hadn't ended; an open one stays so, and where the stream comes to another place all
-- calls that this adds are of what came of it.
pub record AddsParts (i : LoginInfo) (come later : List ℕ) (tasks : List (ReadTask × ℕ)) : Type 0 where
  pub lives : session_end 0 i come false tasks ≡ None
  pub stays : (s : Session) → session_come 0 i come ≡ Some s → session_come 0 i later ≡ Some s
  pub new : List DiskCall
  pub grown : session_calls i later tasks ≡ session_calls i come tasks ++ new
  pub each : AllByRecursion IsPart new

-- WHAT COMES OF IT

-- Of a segment: memory ran out; or it puts what its promise says, and hands up what has been answered, and the three go on.
pub data DriveSegmentComes (a : DriveAskParts) (start : ℕ) (d : Talk ReadTask) (c : DriveChain) (h : Objects Obj) (m : Arrival) (now : ℕ) (ns : List Notice) : Type 0 where
  segment_lacks_memory : first_close ns ≡ Some no_memory → DriveSegmentComes a start d c h m now ns
  segment_comes_so : messages_of (told_below c.unit.0 ns) ≡ session_segment_says a d m now
      → told_above c.unit.0 ns ≡ handed_up m.rec a.info (come_of a.conn.isn d) (come_of a.conn.isn (receives a.conn.isn d (by_segment m now))) d.tasks
      → AddsParts a.info (come_of a.conn.isn d) (come_of a.conn.isn (receives a.conn.isn d (by_segment m now))) d.tasks
      → first_close ns ≡ (segment_put (session_talker a.info) a.conn.isn d m now).over
      → (first_close ns ≡ None → StandsForSession a start (talks_on (session_talker a.info) a.conn.isn d (by_segment m now)) c h)
      → DriveSegmentComes a start d c h m now ns

-- Of a time: memory ran out, or what the plan that runs fires is put, and the three go on or have ended.
pub data DriveTimeComes (a : DriveAskParts) (start : ℕ) (d : Talk ReadTask) (c : DriveChain) (h : Objects Obj) (now : ℕ) (ns : List Notice) : Type 0 where
  time_lacks_memory : first_close ns ≡ Some no_memory → DriveTimeComes a start d c h now ns
  time_comes_so : (due : Due) → fired (timer_after a.conn.isn start (d.calls ++ time_came now ∷ [])) ≡ fired (timer_after a.conn.isn start d.calls) ++ due_fired now due
      → messages_of (told_below c.unit.0 ns) ≡ sends_say (link_of a.conn) 0 (due_sends a.conn.isn (phase_of a.conn.isn d) due) → told_above c.unit.0 ns ≡ []
      → first_close ns ≡ due_end (timer_after a.conn.isn start d.calls).plan due
      → (first_close ns ≡ None → StandsForSession a start (talks_on (session_talker a.info) a.conn.isn d (by_time now)) c h) → DriveTimeComes a start d c h now ns

-- Of a task: memory ran out, or what it brings to be said is put, and the three go on.
pub data DriveTaskComes (a : DriveAskParts) (start : ℕ) (d : Talk ReadTask) (c : DriveChain) (h : Objects Obj) (task : ReadTask) (rec now : ℕ) (ns : List Notice) : Type 0 where
  task_lacks_memory : first_close ns ≡ Some no_memory → DriveTaskComes a start d c h task rec now ns
  task_comes_so : (let heard = receives a.conn.isn d (by_task task now) in
      messages_of (told_below c.unit.0 ns) ≡ sends_say (link_of a.conn) rec (said_sends (phase_of a.conn.isn heard) (unsaid (session_talker a.info) a.conn.isn heard)))
      → told_above c.unit.0 ns ≡ [] → first_close ns ≡ None
      → StandsForSession a start (talks_on (session_talker a.info) a.conn.isn d (by_task task now)) c h → DriveTaskComes a start d c h task rec now ns

-- Of a begin: memory ran out; a name that would be sent has a zero byte; or the SYN is sent, and the three stand for a talk that was given
-- its login's first request.
pub data DriveBeginComes (q : DriveAskParts) (c : DriveChain) (h : Objects Obj) (rec now : ℕ) (ns : List Notice) : Type 0 where
  begin_lacks_memory : first_close ns ≡ Some no_memory → DriveBeginComes q c h rec now ns
  begin_is_refused : (name : SentName) → zero_name q.info ≡ Some name → messages_of (told_below c.unit.0 ns) ≡ [] → told_above c.unit.0 ns ≡ []
      → first_close ns ≡ Some (refusal_cause (ZeroByte name)) → DriveBeginComes q c h rec now ns
  begin_comes_so : zero_name q.info ≡ None → messages_of (told_below c.unit.0 ns) ≡ sends_say (link_of q.conn) rec (with_first_try (syn q.conn.isn) ∷ []) → told_above c.unit.0 ns ≡ []
      → first_close ns ≡ None → StandsForSession q now (begun_talk (session_talker q.info) q.conn.isn now) c h → DriveBeginComes q c h rec now ns

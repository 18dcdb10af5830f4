-- What the three objects of a drive have done, against the talk on its connection: the connection has had its calls, the session took all of
-- the stream that has come by them, and the unit had each PDU of an open session, and each task that it takes. Our own.
use Rattle.std.specs.Prelude.{◌≡◌, ℕ, false, List, length, map, Some, None}
use Rattle.nb_conns.specs.Dialogues.{Dialogue, unopened, ConversesTo}
use Rattle.nb_disk.specs.DiskAnswers.{session_has_ended as drive_has_ended, opened_of}
use Rattle.nb_drivechains.specs.declared.drive_chain.DriveChain.{DriveChain}
use Rattle.nb_drivechains.specs.DriveChains.{three_of}
use Rattle.nb_drivenodes.specs.DriveAsks.{DriveAskParts}
use Rattle.nb_drivenodes.specs.SessionTalks.{SessionTalk, session_unasked, logging_in, in_session, session_drained, login_failed, session_cut, SessionTalksTo}
use Rattle.nb_drivenodes.specs.UnitTalks.{UnitTalk, unit_unasked, unit_waits, unit_works, unit_over, unit_cut, UnitTalksTo}
use Rattle.nb_graph.specs.Lived.{ObjectStands}
use Rattle.nb_graph.specs.Trace.{NodeEntry}
use Rattle.nb_graph.specs.Whole.{Objects}
use Rattle.nb_iscsipdu.specs.Streams.{cut, is_refused}
use Rattle.nb_login.specs.declared.session.Session.{Session}
use Rattle.nb_login.specs.LoginHistory.{PduCame, login_ended}
use Rattle.nb_login.specs.Logins.{login_history}
use Rattle.nb_nodes.specs.declared.load.Load.{Load}
use Rattle.nb_nodes.specs.declared.obj.Obj.{Obj}
use Rattle.nb_nodes.specs.Carriers.{conn_carrier, text_carrier}
use Rattle.nb_nodes.specs.Standing.{ObjStands}
use Rattle.nb_sans.specs.Sessions.{ReadTask, session_come, drive_calls}
use Rattle.nb_sans.specs.SessionSteps.{AreAskedBy}
use Rattle.nb_sans.specs.RecordNumbers.{brought_by}
use Rattle.nb_streams.specs.Streams.{has_ended}
use Rattle.nb_talks.specs.Talking.{Talk, come_of, talk_held}
use Rattle.nb_webchains.specs.WebChains.{web_graph}
use Rattle.nb_webtalks.specs.TalkStands.{HasHadCalls}

-- a login that goes on was given the PDUs of this stream, whichever records brought them; or the session is open
abbrev pub SessionHasRead : DriveAskParts → List ℕ → SessionTalk → Type 0
SessionHasRead a stream session_unasked = ⊥
SessionHasRead a stream (logging_in b taken h) =
    (b ≡ a) × (taken ≡ stream) × (login_ended h ≡ false) × ((ms : List PduCame) × (h ≡ login_history a.info ms) × (map (λ (m : PduCame). m.pdu) ms ≡ (cut stream).pdus))
SessionHasRead a stream (in_session b taken h) = (b ≡ a) × (taken ≡ stream) × ((s : Session) × (session_come 0 a.info stream ≡ Some s))
SessionHasRead a stream (session_drained b taken h) = ⊥
SessionHasRead a stream (login_failed b taken h over) = ⊥
SessionHasRead a stream session_cut = ⊥

-- a unit waits for the session, or had each PDU of an open one, and each task that it takes, and goes on
abbrev pub HasWorked : DriveAskParts → List ℕ → List (ReadTask × ℕ) → UnitTalk → Type 0
HasWorked a stream tasks unit_unasked = ⊥
HasWorked a stream tasks unit_waits = session_come 0 a.info stream ≡ None
HasWorked a stream tasks (unit_works o chap calls) =
    (s : Session) × (session_come 0 a.info stream ≡ Some s) × (o ≡ opened_of s) × (chap ≡ s.chap) × (map (brought_by 0) calls ≡ drive_calls 0 a.info stream tasks s) × (drive_has_ended o calls ≡ false)
HasWorked a stream tasks (unit_over o chap calls over) = ⊥
HasWorked a stream tasks unit_cut = ⊥

-- The three, as a graph of their own, go on after this talk on a connection that was asked for so, at a time.
pub record StandsForSession (a : DriveAskParts) (start : ℕ) (d : Talk ReadTask) (c : DriveChain) (g : Objects Obj) : Type 0 where
  pub above : List (NodeEntry Obj Load)
  pub between : List (NodeEntry Obj Load)
  pub below : List (NodeEntry Obj Load)
  pub unit : ObjectStands ObjStands (web_graph (three_of c) g) c.unit.0 above
  pub session : ObjectStands ObjStands (web_graph (three_of c) g) c.session.0 between
  pub conn : ObjectStands ObjStands (web_graph (three_of c) g) c.conn.0 below
  pub worked : (f : UnitTalk) → UnitTalksTo text_carrier unit_unasked above f → HasWorked a (come_of a.conn.isn d) d.tasks f
  pub took : (f : SessionTalk) → SessionTalksTo text_carrier session_unasked between f → SessionHasRead a (come_of a.conn.isn d) f
  pub called : (f : Dialogue) → ConversesTo conn_carrier unopened below f → HasHadCalls a.conn start d.calls f
  pub lun : length a.info.lun ≡ 8
  pub unended : has_ended (talk_held a.conn.isn d) ≡ false
  pub whole : is_refused (cut (come_of a.conn.isn d)).rest ≡ false
  pub asked : AreAskedBy (come_of a.conn.isn d) d.tasks

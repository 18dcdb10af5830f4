-- What each call on a drive does to the talk that its objects stand for. Our own.
use Rattle.std.specs.Prelude.{◌≡◌, ◌<◌, ◌^◌, ℕ, List, [], ◌∷◌, length, Option, Some, None}
use Rattle.nb_terms.specs.declared.cause.Cause.{Cause}
use Rattle.nb_chains.specs.declared.arrival.Arrival.{Arrival}
use Rattle.nb_chains.specs.Chains.{AreChained}
use Rattle.nb_conns.specs.ConnAsks.{link_of}
use Rattle.nb_conns.specs.Dialogues.{arriving}
use Rattle.nb_drivechains.specs.declared.drive_chain.DriveChain.{DriveChain}
use Rattle.nb_drivechains.specs.DriveCalls.{reads_drive}
use Rattle.nb_drivechains.specs.DriveChains.{AreOfDrive, IsReadyDrive, drive_ids, three_of}
use Rattle.nb_drivenodes.specs.DriveAsks.{DriveAskParts, drive_ask_in}
use Rattle.nb_graph.specs.Noded.{AreNoded}
use Rattle.nb_graph.specs.Whole.{Objects}
use Rattle.nb_ledger.specs.declared.event.GraphEvent.{GraphEvent}
use Rattle.nb_ledger.specs.Flat.{Heard, Notice}
use Rattle.nb_nodes.specs.declared.obj.Obj.{Obj}
use Rattle.nb_nodes.specs.Objects.{rank_of_obj}
use Rattle.nb_sans.specs.Sessions.{ReadTask, session_talker}
use Rattle.nb_streams.specs.Sending.{closing_segment, without_try}
use Rattle.nb_talks.specs.Talking.{Talk, said_in_all, to_say}
use Rattle.nb_talks.specs.TalkPromises.{phase_of}
use Rattle.nb_tcpseg.specs.SegmentText.{IsLaidOut, SegmentParts}
use Rattle.nb_webchains.specs.WebCalls.{ClosesFetch, DoesWeb, begins_web, receives_web, ticks_web}
use Rattle.nb_webchains.specs.WebChains.{IsOpenWeb, web_graph}
use Rattle.nb_webtalks.specs.Comings.{sends_say}
use Rattle.nb_webtalks.specs.TalkStands.{AreHosted}
use Rattle.nb_webtalks.specs.Tellings.{messages_of}
use Rattle.nb_drivetalks.specs.Comings.{DriveBeginComes, DriveSegmentComes, DriveTaskComes, DriveTimeComes}
use Rattle.nb_drivetalks.specs.SessionStands.{StandsForSession}
use Rattle.nb_drivetalks.specs.Tellings.{told_above, told_below}

-- A call is made on the three, which are open before it, and are there and what they were after it.
pub record DriveIsCalled (c : DriveChain) (g h : Objects Obj) : Type 0 where
  pub was : AreChained g (drive_ids c)
  pub is : AreChained h (drive_ids c)
  pub hosted : AreHosted (three_of c) g
  pub noded : AreNoded rank_of_obj h
  pub opened : IsOpenWeb (three_of c) g
  pub kinds : AreOfDrive c h

-- Where the three are as they were, they stand for the same talk.
abbrev pub StayAsTheyWere : Type 0
StayAsTheyWere = (a : DriveAskParts) (start : ℕ) (d : Talk ReadTask) (c : DriveChain) (g h : Objects Obj) → web_graph (three_of c) h ≡ web_graph (three_of c) g
    → StandsForSession a start d c g → StandsForSession a start d c h

-- The user begins it.
abbrev pub DriveBeginsCome : Type 0
DriveBeginsCome = (q : DriveAskParts) (c : DriveChain) (g h : Objects Obj) (rec now : ℕ) (bytes : List ℕ) (before after : Heard) (k : DoesWeb (three_of c) now (begins_web (three_of c) rec 0 bytes) None g h before after)
    → DriveIsCalled c g h → IsReadyDrive c g → drive_ask_in bytes ≡ Some q → length bytes < 2 ^ 32 → DriveBeginComes q c h rec now k.ns

-- A segment of the peer comes.
abbrev pub DriveSegmentsCome : Type 0
DriveSegmentsCome = (a : DriveAskParts) (start : ℕ) (d : Talk ReadTask) (c : DriveChain) (g h : Objects Obj) (rec now : ℕ) (came : Arrival) (s : SegmentParts) (entry : Option GraphEvent) (before after : Heard)
    (k : DoesWeb (three_of c) now (receives_web (three_of c) rec came) entry g h before after)
    → DriveIsCalled c g h → StandsForSession a start d c g → came.port ≡ a.conn.peer_port → came.source.0 ≡ a.conn.peer.0 → IsLaidOut came.body.now s → length came.body.now < 2 ^ 32
    → DriveSegmentComes a start d c h (arriving rec s) now k.ns

-- A time comes.
abbrev pub DriveTimesCome : Type 0
DriveTimesCome = (a : DriveAskParts) (start : ℕ) (d : Talk ReadTask) (c : DriveChain) (g h : Objects Obj) (now : ℕ) (entry : Option GraphEvent) (before after : Heard) (k : DoesWeb (three_of c) now (ticks_web (three_of c)) entry g h before after)
    → DriveIsCalled c g h → StandsForSession a start d c g → DriveTimeComes a start d c h now k.ns

-- The user asks for so many blocks, from this one on, once all was said that was to be said.
abbrev pub DriveTasksCome : Type 0
DriveTasksCome = (a : DriveAskParts) (start : ℕ) (d : Talk ReadTask) (c : DriveChain) (g h : Objects Obj) (rec now block count : ℕ) (before after : Heard) (k : DoesWeb (three_of c) now (reads_drive c rec block count) None g h before after)
    → DriveIsCalled c g h → StandsForSession a start d c g → said_in_all d.calls ≡ to_say (session_talker a.info) a.conn.isn d → DriveTaskComes a start d c h (let task : ReadTask = record { lba = block; blocks = count } in task) rec now k.ns

-- The user closes them.
abbrev pub DriveClosesCome : Type 0
DriveClosesCome = (a : DriveAskParts) (start : ℕ) (d : Talk ReadTask) (c : DriveChain) (g h : Objects Obj) (cause : Cause) (ns : List Notice) → ClosesFetch (three_of c) g h cause ns
    → DriveIsCalled c g h → StandsForSession a start d c g
    → (messages_of (told_below c.unit.0 ns) ≡ sends_say (link_of a.conn) 0 (without_try (closing_segment a.conn.isn (phase_of a.conn.isn d)) ∷ [])) × (told_above c.unit.0 ns ≡ [])

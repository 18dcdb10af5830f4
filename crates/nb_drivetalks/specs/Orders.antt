-- In which order the notices of a call on a drive stand: what goes down to the network stands directly after an entry of the connection; what the
-- unit hands up may stand between. Our own.
use Rattle.std.specs.Prelude.{◌≡◌, ℕ, true, false, List, [], ◌∷◌, Option, Some, None}
use Rattle.nb_terms.specs.declared.cause.Cause.{Cause}
use Rattle.nb_drivechains.specs.declared.drive_chain.DriveChain.{DriveChain}
use Rattle.nb_drivechains.specs.DriveChains.{three_of}
use Rattle.nb_graph.specs.Deeds.{Offers, Stage, Ticks}
use Rattle.nb_graph.specs.Trace.{Said}
use Rattle.nb_graph.specs.Whole.{Objects, port_at}
use Rattle.nb_ledger.specs.declared.event.GraphEvent.{GraphEvent}
use Rattle.nb_ledger.specs.declared.event.GraphEvent.TheVariants.{Entered}
use Rattle.nb_ledger.specs.declared.event.Way.TheVariants as way
use Rattle.nb_ledger.specs.Flat.{Heard, Notice}
use Rattle.nb_nodes.specs.declared.load.Load.{Load}
use Rattle.nb_nodes.specs.declared.obj.Obj.{Obj}
use Rattle.nb_opens.specs.Notices.{tells}
use Rattle.nb_webchains.specs.Orders.{AreNoCalls, LeavesOnEntry}
use Rattle.nb_webchains.specs.WebCalls.{AreShort, ClosesFetch, DoesWeb}
use Rattle.nb_drivetalks.specs.Calls.{DriveIsCalled}
use Rattle.nb_drivetalks.specs.Tellings.{told_below}

-- Where the connection, x, is entered so from outside, that is the first notice, and the only such entry. The unit is u.
abbrev pub StandInDriveOrder : (u x : ℕ) → Option GraphEvent → List Notice → Type 0
StandInDriveOrder u x None ns = LeavesOnEntry x false (told_below u ns) × AreNoCalls x ns
StandInDriveOrder u x (Some e) ns = (rest : List Notice) × (ns ≡ tells e ∷ rest) × LeavesOnEntry x true (told_below u rest) × AreNoCalls x rest

-- how the connection is entered from outside by what is asked for
pub data BeginsDrive (c : DriveChain) : Option GraphEvent → List (Stage Obj Load) → Type 0 where
  by_user : (m : Said) → BeginsDrive c None (Offers (port_at c.unit.0 0) m ∷ [])
  by_network : (m : Said) → BeginsDrive c (Some (Entered (port_at c.conn.0 1) way.Up)) (Offers (port_at c.conn.0 1) m ∷ [])
  by_time : BeginsDrive c (Some (Entered (port_at c.conn.0 4) way.Time)) (Ticks c.conn.0 ∷ [])

-- A message of the user, a segment and a time are told so.
abbrev pub StandInOrderEach : Type 0
StandInOrderEach = (c : DriveChain) (g h : Objects Obj) (now : ℕ) (asks : List (Stage Obj Load)) (entry : Option GraphEvent) (before after : Heard) (k : DoesWeb (three_of c) now asks entry g h before after)
    → DriveIsCalled c g h → BeginsDrive c entry asks → AreShort asks → StandInDriveOrder c.unit.0 c.conn.0 entry k.ns

-- So is a close.
abbrev pub CloseInOrder : Type 0
CloseInOrder = (c : DriveChain) (g h : Objects Obj) (cause : Cause) (ns : List Notice) → ClosesFetch (three_of c) g h cause ns → DriveIsCalled c g h → StandInDriveOrder c.unit.0 c.conn.0 None ns

-- In which order what is told of a drive stands: what goes down to the network directly after an entry of its connection, and what goes up is
-- a delivery.
use Rattle.std.proofs.Common.{◌≡◌, inl, inr, ℕ, Bool, true, false, cond, List, [], ◌∷◌, Option, Some, None, ap, subst, sym}
use Rattle.nb_terms.specs.declared.cause.Cause.{Cause}
use Rattle.nb_chains.specs.Chains.{AreChained}
use Rattle.nb_graph.specs.Deeds.{Stage}
use Rattle.nb_graph.specs.Trace.{Said}
use Rattle.nb_graph.specs.Whole.{Objects}
use Rattle.nb_ledger.specs.declared.event.GraphEvent.{GraphEvent}
use Rattle.nb_ledger.specs.declared.port.Port.{Port}
use Rattle.nb_ledger.specs.Flat.{Heard, Notice, event, message}
use Rattle.nb_nodes.specs.declared.load.Load.{Load}
use Rattle.nb_nodes.specs.declared.obj.Obj.{Obj}
use Rattle.nb_sans.specs.Sessions.{ReadTask}
use Rattle.nb_talks.specs.Talking.{Talk}
use Rattle.nb_teller.specs.Tellings.{is_delivery}
use Rattle.nb_drivechains.specs.declared.drive_chain.DriveChain.{DriveChain}
use Rattle.nb_drivechains.specs.DriveChains.{AreOfDrive, drive_ids, three_of}
use Rattle.nb_drivechains.proofs.BesideDrives.{drive_kinds}
use Rattle.nb_drivenodes.specs.DriveAsks.{DriveAskParts}
use Rattle.nb_webchains.specs.Orders.{LeavesOnEntry, enters_object}
use Rattle.nb_webchains.specs.WebCalls.{AreShort, ClosesWeb, DoesWeb}
use Rattle.nb_webchains.specs.WebChains.{IsOpenWeb}
use Rattle.nb_webtalks.specs.TalkStands.{AreHosted}
use Rattle.nb_drivetalks.specs.Calls.{DriveIsCalled}
use Rattle.nb_drivetalks.specs.Orders.{BeginsDrive, StandInDriveOrder}
use Rattle.nb_drivetalks.specs.SessionStands.{StandsForSession}
use Rattle.nb_drivetalks.specs.Tellings.{goes_up, told_above, told_below}
use Rattle.nb_open.specs.declared.objects.OpenObjects.{OpenObjects}
use Rattle.nb_open.specs.declared.objects.OpenObjects.TheVariants as objects
use Rattle.nb_open.proofs.Callings.{AreInOrder, LeavesInOrder}
use Rattle.nb_open.proofs.DriveLaws.{drive_closes, drive_closing_orders, drive_orders}
use Rattle.nb_open.proofs.DrivePuts.{AreHandedUp, IsHandedUp}

-- bytes of blocks and answers alone go up of a drive
abbrev pub HandsUp : OpenObjects → List Notice → Type 0
HandsUp (objects.Chain kind chain) ns = Unit {0}
HandsUp (objects.Web port own chain) ns = Unit {0}
HandsUp (objects.Drive port own chain) ns = AreHandedUp (told_above chain.unit.0 ns)

delivers : (m : Said) → IsHandedUp m → is_delivery m.tag ≡ true
delivers m (inl e) = ap is_delivery e
delivers m (inr e) = ap is_delivery e

module _ (u x : ℕ) where
  -- a message goes up, or down
  one_leaves : (b up : Bool) (from : Port) (tag rec a c : ℕ) (bytes : List ℕ) (ns : List Notice) → (AreHandedUp (told_above u ns) → LeavesOnEntry x b (told_below u ns) → LeavesInOrder x b ns)
      → AreHandedUp (cond up ((record { tag = tag; rec = rec; a = a; b = c; bytes = bytes }) ∷ told_above u ns) (told_above u ns))
      → LeavesOnEntry x b (cond up (told_below u ns) (message from tag rec a c bytes ∷ told_below u ns)) → LeavesInOrder x b (message from tag rec a c bytes ∷ ns)
  one_leaves b true from tag rec a c bytes ns later up h = (inl (delivers (record { tag = tag; rec = rec; a = a; b = c; bytes = bytes }) up.0), later up.1 h)
  one_leaves b false from tag rec a c bytes ns later up h = (inr h.0, later up h.2)

  all_leave : (b : Bool) (ns : List Notice) → AreHandedUp (told_above u ns) → LeavesOnEntry x b (told_below u ns) → LeavesInOrder x b ns
  all_leave b [] up h = tt
  all_leave b (event e ∷ ns) up h = all_leave (enters_object x e) ns up h
  all_leave b (message from tag rec a c bytes ∷ ns) up h = one_leaves b (goes_up u from) from tag rec a c bytes ns (all_leave b ns) up h

  pub stands_so : (entry : Option GraphEvent) (ns : List Notice) → AreHandedUp (told_above u ns) → StandInDriveOrder u x entry ns → AreInOrder x entry ns
  stands_so None ns up h = (all_leave false ns up h.0, h.1)
  stands_so (Some e) ns up (rest, is, leaves, calls) = (rest, is, all_leave true rest (subst (λ z. AreHandedUp (told_above u z)) is up) leaves, calls)

-- The three of a drive go on after some talk.
pub record IsDriveAt (c : DriveChain) (g : Objects Obj) : Type 0 where
  pub kinds : AreOfDrive c g
  pub chained : AreChained g (drive_ids c)
  pub hosted : AreHosted (three_of c) g
  pub ask : DriveAskParts
  pub start : ℕ
  pub talk : Talk ReadTask
  pub stands : StandsForSession ask start talk c g

module _ (c : DriveChain) (g h : Objects Obj) (m n : Heard) where
  -- a call is made on them
  pub is_called : (now : ℕ) (asks : List (Stage Obj Load)) (entry : Option GraphEvent) → IsOpenWeb (three_of c) g → IsDriveAt c g → (k : DoesWeb (three_of c) now asks entry g h m n) → DriveIsCalled c g h
  is_called now asks entry is_open at k = record { was = at.chained; is = k.still; hosted = at.hosted; noded = k.noded; opened = is_open; kinds = drive_kinds c g h k.keeps at.kinds }

  pub drive_order : (now : ℕ) (asks : List (Stage Obj Load)) (entry : Option GraphEvent) → DriveIsCalled c g h → BeginsDrive c entry asks → AreShort asks → (k : DoesWeb (three_of c) now asks entry g h m n)
      → AreHandedUp (told_above c.unit.0 k.ns) → AreInOrder c.conn.0 entry k.ns
  drive_order now asks entry called by short k up = stands_so c.unit.0 c.conn.0 entry k.ns up (drive_orders c g h now asks entry m n k called by short)

  -- the user closes them
  pub drive_closing_order : (cause : Cause) → IsOpenWeb (three_of c) g → IsDriveAt c g → (k : ClosesWeb (three_of c) g h cause m n) → AreInOrder c.conn.0 None k.ns
  drive_closing_order cause is_open at k =
      let called : DriveIsCalled c g h = record { was = at.chained; is = k.still; hosted = at.hosted; noded = k.noded; opened = is_open; kinds = drive_kinds c g h k.keeps at.kinds } in
      let none = (drive_closes at.ask at.start at.talk c g h cause k.ns k.own called at.stands).1 in
      stands_so c.unit.0 c.conn.0 None k.ns (subst AreHandedUp (sym none) tt) (drive_closing_orders c g h cause k.ns k.own called)

-- The objects of an open on the graph: a chain, or the three of an open by HTTP or of a drive; and what each call does to them.
use Rattle.std.specs.Prelude.{◌≡◌, ℕ, false, true, List, Option, Some, None}
use Rattle.nb_terms.specs.declared.cause.Cause.{Cause}
use Rattle.nb_ledger.specs.Flat.{Heard}
use Rattle.nb_ledger.specs.declared.event.GraphEvent.TheVariants.{Entered}
use Rattle.nb_ledger.specs.declared.event.Way.TheVariants as way
use Rattle.nb_ledger.specs.Ledger.{object_lives}
use Rattle.nb_ledger.specs.declared.port.ObjId.{ObjId}
use Rattle.nb_graph.specs.Lived.{ObjectStands}
use Rattle.nb_graph.specs.Trace.{NodeEntry}
use Rattle.nb_graph.specs.Whole.{Objects, port_at}
use Rattle.nb_nodes.specs.declared.load.Load.{Load}
use Rattle.nb_nodes.specs.declared.obj.Obj.{Obj}
use Rattle.nb_nodes.specs.Fetches.{moved_in}
use Rattle.nb_nodes.specs.Standing.{ObjStands}
use Rattle.nb_opens.specs.Pairs.{HasHandedOut}
use Rattle.nb_tftp.specs.History.{came, ticked}
use Rattle.nb_tftp.specs.Received.{received}
use Rattle.nb_chains.specs.declared.arrival.Arrival.{Arrival}
use Rattle.nb_chains.specs.declared.chain.Chain.{Chain}
use Rattle.nb_chains.specs.Calls.{ClosesChain, IsOpenChain, ReceivesChain, ReleasesChain, TicksChain, arrival_said}
use Rattle.nb_chains.specs.Chains.{AreChained, AreStillChained, IsReadyChain, IsShutChain, chain_ids, own_graph}
use Rattle.nb_webchains.specs.declared.web_chain.WebChain.{WebChain}
use Rattle.nb_webchains.specs.WebChains.{AreOfWeb, AreReleased, IsOpenWeb, IsReadyWeb, IsShutWeb, web_ids}
use Rattle.nb_webchains.specs.WebCalls.{ClosesWeb, DoesWeb, ReleasesEach, file_brought, receives_web, ticks_web}
use Rattle.nb_drivechains.specs.DriveCalls.{reads_drive}
use Rattle.nb_drivechains.specs.DriveChains.{IsReadyDrive, drive_ids, three_of}
use Rattle.nb_open.specs.declared.objects.OpenObjects.{OpenObjects}
use Rattle.nb_open.specs.declared.objects.OpenObjects.TheVariants as objects
use Rattle.nb_open.specs.declared.objects.Brought.{Brought}
use Rattle.nb_open.specs.declared.opening.Opening.{Opening}
use Rattle.nb_open.specs.Opening.{address_by, chain_kind, is_drive_opening, is_joined, is_web, port_by}

-- their serials, the top one first
abbrev pub objects_ids : OpenObjects → List ℕ
objects_ids (objects.Chain kind chain) = chain_ids chain
objects_ids (objects.Web port own chain) = web_ids chain
objects_ids (objects.Drive port own chain) = drive_ids chain

abbrev pub AreObjectsChained : Objects Obj → OpenObjects → Type 0
AreObjectsChained g o = AreChained g (objects_ids o)

abbrev pub AreObjectsStill : OpenObjects → Objects Obj → Objects Obj → Type 0
AreObjectsStill o g h = AreStillChained (objects_ids o) g h

-- all ports between the user and the network are open, or all are closed
abbrev pub AreObjectsOpen : OpenObjects → Objects Obj → Type 0
AreObjectsOpen (objects.Chain kind chain) g = IsOpenChain chain g
AreObjectsOpen (objects.Web port own chain) g = IsOpenWeb chain g
AreObjectsOpen (objects.Drive port own chain) g = IsOpenWeb (three_of chain) g

abbrev pub AreObjectsShut : OpenObjects → Objects Obj → Type 0
AreObjectsShut (objects.Chain kind chain) g = IsShutChain chain g
AreObjectsShut (objects.Web port own chain) g = IsShutWeb chain g
AreObjectsShut (objects.Drive port own chain) g = IsShutWeb (three_of chain) g

-- they are those of a drive
abbrev pub AreDriveObjects : OpenObjects → Type 0
AreDriveObjects (objects.Chain kind chain) = ⊥
AreDriveObjects (objects.Web port own chain) = ⊥
AreDriveObjects (objects.Drive port own chain) = Unit {0}

-- they have that from which it is asked
abbrev pub IsAskedFrom : Opening → OpenObjects → Type 0
IsAskedFrom a (objects.Chain kind chain) = Unit {0}
IsAskedFrom a (objects.Web port own chain) = own ≡ address_by a
IsAskedFrom a (objects.Drive port own chain) = own ≡ address_by a

-- they were made for this, and nothing was asked of them
abbrev pub AreObjectsReady : Opening → OpenObjects → Objects Obj → Type 0
AreObjectsReady a (objects.Chain kind chain) g = (is_joined a ≡ false) × (kind ≡ chain_kind a) × IsReadyChain kind chain g
AreObjectsReady a (objects.Web port own chain) g = (is_web a ≡ true) × (port ≡ port_by a) × (own ≡ address_by a) × IsReadyWeb chain g
AreObjectsReady a (objects.Drive port own chain) g = (is_drive_opening a ≡ true) × (port ≡ port_by a) × (own ≡ address_by a) × IsReadyDrive chain g

-- none of them lives any more
abbrev pub AreObjectsReleased : OpenObjects → Objects Obj → Objects Obj → Type 0
AreObjectsReleased o g h = AreReleased (objects_ids o) g h

-- a message comes to the last of them
abbrev pub DoesMessage : OpenObjects → ℕ → Arrival → ℕ → Objects Obj → Objects Obj → Heard → Heard → Type 0
DoesMessage (objects.Chain kind chain) rec a now old new before after =
    ReceivesChain chain old new rec (came (received rec a.port a.body.now) now) (arrival_said rec a) now before after
DoesMessage (objects.Web port own chain) rec a now old new before after =
    DoesWeb chain now (receives_web chain rec a) (Some (Entered (port_at chain.conn.0 1) way.Up)) old new before after
DoesMessage (objects.Drive port own chain) rec a now old new before after =
    DoesWeb (three_of chain) now (receives_web (three_of chain) rec a) (Some (Entered (port_at chain.conn.0 1) way.Up)) old new before after

-- a time does
abbrev pub DoesTime : OpenObjects → ℕ → Objects Obj → Objects Obj → Heard → Heard → Type 0
DoesTime (objects.Chain kind chain) now old new before after = TicksChain chain old new (ticked now) now before after
DoesTime (objects.Web port own chain) now old new before after =
    DoesWeb chain now (ticks_web chain) (Some (Entered (port_at chain.conn.0 4) way.Time)) old new before after
DoesTime (objects.Drive port own chain) now old new before after =
    DoesWeb (three_of chain) now (ticks_web (three_of chain)) (Some (Entered (port_at chain.conn.0 4) way.Time)) old new before after

-- the user asks for so many blocks of a drive, from this one on
abbrev pub DoesRead : OpenObjects → ℕ → ℕ → ℕ → ℕ → Objects Obj → Objects Obj → Heard → Heard → Type 0
DoesRead (objects.Chain kind chain) rec block count now old new before after = ⊥
DoesRead (objects.Web port own chain) rec block count now old new before after = ⊥
DoesRead (objects.Drive port own chain) rec block count now old new before after =
    DoesWeb (three_of chain) now (reads_drive chain rec block count) None old new before after

-- the user closes them
abbrev pub ClosesObjects : OpenObjects → Objects Obj → Objects Obj → Cause → Heard → Heard → Type 0
ClosesObjects (objects.Chain kind chain) old new cause before after = ClosesChain chain old new cause before after
ClosesObjects (objects.Web port own chain) old new cause before after = ClosesWeb chain old new cause before after
ClosesObjects (objects.Drive port own chain) old new cause before after = ClosesWeb (three_of chain) old new cause before after

-- they are let go
abbrev pub ReleasesObjects : OpenObjects → Objects Obj → Objects Obj → Heard → Heard → Type 0
ReleasesObjects (objects.Chain kind chain) old new before after = ReleasesChain chain old new before after
ReleasesObjects (objects.Web port own chain) old new before after = ReleasesEach (web_ids chain) old new before after
ReleasesObjects (objects.Drive port own chain) old new before after = ReleasesEach (drive_ids chain) old new before after

-- the file of a chain of two is handed out; one object alone has none
pub record HandsFile (c : Chain) (body : Option (List ℕ)) (old : Objects Obj) : Type 0 where
  pub two : (t : ObjId) (b : Option (List ℕ)) → c.below ≡ Some t → HasHandedOut (own_graph c old) c.top.0 t.0 b → body ≡ b
  pub one : c.below ≡ None → body ≡ None

-- the file of an open by HTTP is handed out, or the URI that it is at instead, by what its Fetch has done
pub record HandsWeb (c : WebChain) (b : Brought) (old : Objects Obj) : Type 0 where
  pub body : AreOfWeb c old → (t : List (NodeEntry Obj Load)) → ObjectStands ObjStands old c.fetch.0 t → b.body ≡ file_brought t
  pub moved : AreOfWeb c old → (t : List (NodeEntry Obj Load)) → ObjectStands ObjStands old c.fetch.0 t
      → object_lives old.book c.fetch.0 ≡ true → b.moved ≡ moved_in t

abbrev pub HandsBrought : OpenObjects → Objects Obj → Brought → Type 0
HandsBrought (objects.Chain kind chain) old b = HandsFile chain b.body old × (b.moved ≡ None)
HandsBrought (objects.Web port own chain) old b = HandsWeb chain b old
HandsBrought (objects.Drive port own chain) old b = (b.body ≡ None) × (b.moved ≡ None)

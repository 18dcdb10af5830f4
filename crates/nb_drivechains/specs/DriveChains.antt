-- The objects of a drive on a graph, whatever else lives there: a logical unit, a session plugged below it, and a
-- connection below that. Our own.
use Rattle.std.specs.Prelude.{◌≡◌, ◌++◌, ℕ, List, [], ◌∷◌}
use Rattle.nb_frames.specs.Frames.{is_one_of}
use Rattle.nb_graph.specs.Whole.{Objects}
use Rattle.nb_ledger.specs.declared.port.ObjId.{ObjId}
use Rattle.nb_ledger.specs.Flat.{Heard, Notice}
use Rattle.nb_ledger.specs.Ledger.{rank}
use Rattle.nb_nodes.specs.declared.obj.Obj.{Obj}
use Rattle.nb_opens.specs.AloneNotices.{alone_made}
use Rattle.nb_opens.specs.Marks.{IsOfKind}
use Rattle.nb_chains.specs.Chains.{IsFresh}
use Rattle.nb_chains.specs.Giving.{CallGives, IsMakeWithin}
use Rattle.nb_webchains.specs.declared.web_chain.WebChain.{WebChain}
use Rattle.nb_webchains.specs.Plugs.{plugged_notices}
use Rattle.nb_webchains.specs.WebChains.{AreReady, IsInOrder, web_ids}
use Rattle.nb_drivechains.specs.declared.drive_chain.DriveChain.{DriveChain}

-- the three as any three of which each is plugged to the next
abbrev pub three_of : DriveChain → WebChain
three_of c = record { fetch = c.unit; web = c.session; conn = c.conn }

-- their serials, the top one first
abbrev pub drive_ids : DriveChain → List ℕ
drive_ids c = web_ids (three_of c)

-- They are a logical unit, a session and a connection.
pub record AreOfDrive (c : DriveChain) (g : Objects Obj) : Type 0 where
  pub unit_rank : rank g.book c.unit.0 ≡ 5
  pub unit : IsOfKind g c.unit.0 9
  pub session : IsOfKind g c.session.0 8
  pub conn : IsOfKind g c.conn.0 3

-- All three are there, and nothing was asked of them.
pub record IsReadyDrive (c : DriveChain) (g : Objects Obj) : Type 0 where
  pub order : IsInOrder (three_of c)
  pub ready : AreReady g (drive_ids c)
  pub kinds : AreOfDrive c g

-- A unit alone, of which nothing was asked: it waits for the others.
abbrev pub IsWaitingUnit : ObjId → Objects Obj → Type 0
IsWaitingUnit unit g = IsFresh g unit.0 5 9

-- no event names another object than this unit, which is made
abbrev pub UnitMakes : ObjId → Objects Obj → Objects Obj → Heard → Heard → List Notice → Type 0
UnitMakes unit old new before after ns = CallGives (IsMakeWithin (is_one_of (unit.0 ∷ []))) old new before after ns

-- what the outside is given where a unit is made, and where the two below it are
abbrev pub unit_notices : ObjId → List Notice
unit_notices unit = alone_made unit.0 9

abbrev pub drive_notices : DriveChain → List Notice
drive_notices c = plugged_notices c.unit.0 c.session.0 8 ++ plugged_notices c.session.0 c.conn.0 3

-- A drive beside other objects: where it was made it is open, it stays one, and a unit that waits is none of what goes on.
use Rattle.std.proofs.Common.{[], ◌∷◌, refl, ap, ◌∙◌}
use Rattle.nb_ledger.specs.declared.port.ObjId.{ObjId}
use Rattle.nb_ledger.specs.GraphRun.{link_count}
use Rattle.nb_graph.specs.Whole.{Objects}
use Rattle.nb_frames.specs.Frames.{is_one_of}
use Rattle.nb_nodes.specs.declared.obj.Obj.{Obj}
use Rattle.nb_chains.specs.Chains.{AreOthers}
use Rattle.nb_chains.proofs.FreshOnes.{sole_is}
use Rattle.nb_webchains.specs.declared.web_chain.WebChain.{WebChain}
use Rattle.nb_webchains.specs.WebChains.{IsOpenWeb, KeepKinds, web_ids}
use Rattle.nb_webchains.proofs.Opened.{no_link, unplugged_apart}
use Rattle.nb_webchains.proofs.Three.{conn_in, fetch_in, web_in}
use Rattle.nb_drivechains.specs.declared.drive_chain.DriveChain.{DriveChain}
use Rattle.nb_drivechains.specs.DriveChains.{AreOfDrive, IsReadyDrive, IsWaitingUnit, drive_ids, three_of}

pub drive_open : (c : DriveChain) (g : Objects Obj) → IsReadyDrive c g → IsOpenWeb (three_of c) g
drive_open c g r = record {
  order = r.order;
  through = record {
    ports = r.ready.ports;
    loose = λ x k o low. ap link_count (r.ready.rest x k o low) ∙ no_link k;
    going = λ x o. ([], r.ready.stands x o, refl);
  };
}

pub drive_kinds : (c : DriveChain) (g h : Objects Obj) → KeepKinds (drive_ids c) g h → AreOfDrive c g → AreOfDrive c h
drive_kinds c g h keep are = record {
  unit_rank = keep.ranks c.unit.0 (fetch_in (three_of c)) ∙ are.unit_rank;
  unit = keep.marks c.unit.0 9 (fetch_in (three_of c)) are.unit;
  session = keep.marks c.session.0 8 (web_in (three_of c)) are.session;
  conn = keep.marks c.conn.0 3 (conn_in (three_of c)) are.conn;
}

pub unit_apart : (unit : ObjId) (c : WebChain) (g : Objects Obj) → IsWaitingUnit unit g → IsOpenWeb c g → AreOthers (web_ids c) (unit.0 ∷ [])
unit_apart unit c g waits o x i = ap (is_one_of (web_ids c)) (sole_is unit.0 x i) ∙ unplugged_apart unit.0 c g waits.ports o

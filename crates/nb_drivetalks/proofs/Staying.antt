-- Where the three are as they were, so is what they stand for.
use Rattle.std.proofs.Common.{◌≡◌, ℕ, sym, subst}
use Rattle.nb_graph.specs.Lived.{ObjectStands}
use Rattle.nb_graph.specs.Whole.{Objects}
use Rattle.nb_drivechains.specs.declared.drive_chain.DriveChain.{DriveChain}
use Rattle.nb_drivechains.specs.DriveChains.{three_of}
use Rattle.nb_drivenodes.specs.DriveAsks.{DriveAskParts}
use Rattle.nb_nodes.specs.declared.obj.Obj.{Obj}
use Rattle.nb_nodes.specs.Standing.{ObjStands}
use Rattle.nb_sans.specs.Sessions.{ReadTask}
use Rattle.nb_talks.specs.Talking.{Talk}
use Rattle.nb_webchains.specs.WebChains.{web_graph}
use Rattle.nb_drivetalks.specs.SessionStands.{StandsForSession}

pub same_drive : (a : DriveAskParts) (start : ℕ) (d : Talk ReadTask) (c : DriveChain) (g h : Objects Obj) → web_graph (three_of c) h ≡ web_graph (three_of c) g → StandsForSession a start d c g → StandsForSession a start d c h
same_drive a start d c g h same s = record {
  above = s.above;
  between = s.between;
  below = s.below;
  unit = subst (λ z. ObjectStands ObjStands z c.unit.0 s.above) (sym same) s.unit;
  session = subst (λ z. ObjectStands ObjStands z c.session.0 s.between) (sym same) s.session;
  conn = subst (λ z. ObjectStands ObjStands z c.conn.0 s.below) (sym same) s.conn;
  worked = s.worked;
  took = s.took;
  called = s.called;
  lun = s.lun;
  unended = s.unended;
  whole = s.whole;
  asked = s.asked;
}

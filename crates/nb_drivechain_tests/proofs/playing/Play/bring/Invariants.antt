use Rattle.nb_chains.specs.Chains.{AreChained}
use Rattle.nb_drivechains.specs.DriveChains.{drive_ids}
use Rattle.nb_drivechain_tests.proofs.playing.Play.bring.Given as goal

-- the objects are there each time
abbrev pub invariant-loop-piece : goal.invariant-loop-piece
invariant-loop-piece l = AreChained l.self.graph (drive_ids l.self.drive)

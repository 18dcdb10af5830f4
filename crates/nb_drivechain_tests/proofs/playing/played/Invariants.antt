use Rattle.nb_chains.specs.Chains.{AreChained}
use Rattle.nb_drivechains.specs.DriveChains.{drive_ids}
use Rattle.nb_drivechain_tests.proofs.playing.played.Given as goal

-- the objects are there after each line
abbrev pub invariant-loop-line : goal.invariant-loop-line
invariant-loop-line l = AreChained l.play.graph (drive_ids l.play.drive)

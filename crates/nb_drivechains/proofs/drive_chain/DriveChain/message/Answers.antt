use Rattle.nb_drivechains.proofs.BesideDrives.{drive_kinds}
use Rattle.nb_drivechains.proofs.drive_chain.DriveChain.message.Goals as goal

pub returns-clause-kinds : goal.returns-clause-kinds
returns-clause-kinds g c = drive_kinds c.args.self c.args.graph.now c.message.new.graph (rw c.three.ensures at c.message.ensures.kinds)

use Rattle.std.proofs.Common.{subst}
use Rattle.nb_client.specs.Soundness.{FitsAsked}
use Rattle.nb_client.proofs.DriveAsks.{drive_can, drive_from, drive_live}
use Rattle.nb_client.proofs.next_open.opening_of.Goals as goal

pub returns-in-File-clause-can : goal.returns-in-File-clause-can
returns-in-File-clause-can c = λ fits. c.file_opening.ensures.can (subst FitsAsked c.in-File.is fits)

pub returns-in-Disk-clause-live : goal.returns-in-Disk-clause-live
returns-in-Disk-clause-live c = λ live.
    let e = c.drive_opening.ensures in
    rw c.in-Disk.is (drive_live c.in-Disk.disk c.args.world.now c.drive_opening.result e.conn e.info e.target live)

pub returns-in-Disk-clause-can : goal.returns-in-Disk-clause-can
returns-in-Disk-clause-can c = λ fits.
    let e = c.drive_opening.ensures in
    drive_can c.in-Disk.disk c.args.world.now c.drive_opening.result e.conn e.info e.target (subst FitsAsked c.in-Disk.is fits)

pub returns-in-Disk-clause-address : goal.returns-in-Disk-clause-address
returns-in-Disk-clause-address c =
    drive_from c.in-Disk.disk c.args.world.now c.drive_opening.result c.drive_opening.ensures.conn

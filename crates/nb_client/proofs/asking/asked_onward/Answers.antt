use Rattle.std.proofs.Common.{ap, subst}
use Rattle.nb_runner.specs.CommandWords.{FitsOnward}
use Rattle.nb_client.specs.declared.asked.Asked.TheVariants.{Disk}
use Rattle.nb_client.proofs.asking.asked_onward.Goals as goal

pub returns-in_ok-asked_disk-in-Disk-clause-asks : goal.returns-in_ok-asked_disk-in-Disk-clause-asks
returns-in_ok-asked_disk-in-Disk-clause-asks c = rw c.in-Disk.is (ap Disk c.in_ok-asked_disk-in-Disk.ensures.asks)

pub returns-in_ok-asked_disk-in-Disk-clause-fits : goal.returns-in_ok-asked_disk-in-Disk-clause-fits
returns-in_ok-asked_disk-in-Disk-clause-fits c = λ fits. c.in_ok-asked_disk-in-Disk.ensures.fits (subst FitsOnward c.in-Disk.is fits)

use Rattle.nb_drivecmd.proofs.Finding.{hooked_found, beside_found, dropped_found, kept_found}
use Rattle.nb_drivecmd.proofs.laws.hooked_drives_are_found.Goals as goal

pub returns-clause-hooked : goal.returns-clause-hooked
returns-clause-hooked c = hooked_found

pub returns-clause-beside : goal.returns-clause-beside
returns-clause-beside c = beside_found

pub returns-clause-dropped : goal.returns-clause-dropped
returns-clause-dropped c = dropped_found

pub returns-clause-kept : goal.returns-clause-kept
returns-clause-kept c = kept_found

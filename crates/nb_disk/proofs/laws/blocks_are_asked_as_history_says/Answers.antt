use Rattle.nb_disk.proofs.AskingLaws.{asks-so, stands-so}
use Rattle.nb_disk.proofs.laws.blocks_are_asked_as_history_says.Goals as goal

pub returns-clause-text : goal.returns-clause-text
returns-clause-text c = asks-so

pub returns-clause-stands : goal.returns-clause-stands
returns-clause-stands c = stands-so

use Rattle.nb_webs.proofs.EntryLaws.{theirs, files}
use Rattle.nb_webs.proofs.laws.honest_responses_are_their_entries.Goals as goal

pub returns-clause-entry : goal.returns-clause-entry
returns-clause-entry c = theirs

pub returns-clause-file : goal.returns-clause-file
returns-clause-file c = files

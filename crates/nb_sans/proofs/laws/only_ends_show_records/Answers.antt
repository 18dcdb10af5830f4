use Rattle.nb_sans.proofs.RecordLaws.{records_show}
use Rattle.nb_sans.proofs.laws.only_ends_show_records.Goals as goal

pub returns : goal.returns
returns c = records_show

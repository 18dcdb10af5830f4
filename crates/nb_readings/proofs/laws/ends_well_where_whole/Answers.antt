use Rattle.nb_readings.proofs.EndLemmas.{undecided_ends_nothing, whole_ends_well, well_ended_is_whole}
use Rattle.nb_readings.proofs.laws.ends_well_where_whole.Goals as goal

pub returns : goal.returns
returns c = record { undecided = undecided_ends_nothing; whole = whole_ends_well; only = well_ended_is_whole }

use Rattle.nb_ping.proofs.PingLaws.{tried_silent, tried_in_time, no_try_by_echo}
use Rattle.nb_ping.proofs.laws.tries_in_silence.Goals as goal

pub returns : goal.returns
returns c = record { silent = tried_silent; in_time = tried_in_time; by_time = no_try_by_echo }

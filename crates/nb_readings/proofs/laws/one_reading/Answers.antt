use Rattle.nb_readings.proofs.ReadingLemmas.{reading_is, reading_only, chunked_is, chunked_only}
use Rattle.nb_readings.proofs.laws.one_reading.Goals as goal

pub returns-clause-stream : goal.returns-clause-stream
returns-clause-stream c = record { reads = reading_is; only = reading_only }

pub returns-clause-chunks : goal.returns-clause-chunks
returns-clause-chunks c = record { reads = chunked_is; only = chunked_only }

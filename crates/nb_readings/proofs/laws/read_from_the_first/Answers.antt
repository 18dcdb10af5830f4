use Rattle.nb_readings.proofs.ReadingLemmas.{interim_read, head_read, no_head_read, no_block_read, chunk_read, tail_read}
use Rattle.nb_readings.proofs.laws.read_from_the_first.Goals as goal

pub returns-clause-heads : goal.returns-clause-heads
returns-clause-heads c = record { interim = interim_read; head = head_read; no_head = no_head_read; no_block = no_block_read }

pub returns-clause-chunks : goal.returns-clause-chunks
returns-clause-chunks c = record { chunk = chunk_read; tail = tail_read }

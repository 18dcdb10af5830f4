use Rattle.std.proofs.Common.{arith}
use Rattle.nb_open.proofs.AskReading.{conn_reads_back}
use Rattle.nb_open.proofs.drive_bytes.conn_bytes.Goals as goal

pub returns-clause-readable : goal.returns-clause-readable
returns-clause-readable c = conn_reads_back c.args.conn (record { peer = omega arith; peer_port = omega arith; own = omega arith; own_port = omega arith; isn = omega arith })

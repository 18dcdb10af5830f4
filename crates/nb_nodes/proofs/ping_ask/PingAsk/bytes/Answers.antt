use Rattle.std.proofs.Common.{arith}
use Rattle.nb_nodes.proofs.ReadBackLemmas.{ping_read_back}
use Rattle.nb_nodes.proofs.ping_ask.PingAsk.bytes.Goals as goal

pub returns-clause-readable : goal.returns-clause-readable
returns-clause-readable c = ping_read_back c.args.self.host.0 c.args.self.ident c.to_be_bytes.result c.to_be_bytes-2.result c.to_be_bytes.ensures c.to_be_bytes-2.ensures (omega arith) (omega arith)

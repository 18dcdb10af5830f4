use Rattle.std.proofs.Common.{◌≡◌, length, rules, arith}
use Rattle.nb_nodes.specs.LeaseExchanges.{asker_of}
use Rattle.nb_nodes.proofs.ReadBackLemmas.{lease_read_back}
use Rattle.nb_nodes.proofs.lease_ask.LeaseAsk.bytes.Goals as goal

pub returns-clause-readable : goal.returns-clause-readable
returns-clause-readable c =
    let mac : length c.args.self.now.mac.0 ≡ 6 = search rules in
    let uuid : length c.args.self.now.uuid ≡ 16 = search rules in
    lease_read_back (asker_of c.args.self.now) _ (search rules) mac uuid (omega arith) (omega arith)

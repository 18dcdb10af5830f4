use Rattle.std.proofs.Common.{◌≡◌, length, rules}
use Rattle.nb_ether.proofs.ArpLaws.{arp_bytes, arp_text-whole}
use Rattle.nb_ether.proofs.arp.Arp.bytes.Goals as goal

pub returns-clause-value : goal.returns-clause-value
returns-clause-value c =
    let sha : length c.args.self.now.sha.0 ≡ 6 = search rules in
    let tha : length c.args.self.now.tha.0 ≡ 6 = search rules in
    arp_bytes c.args.self.now _ _ _ sha tha c.to_be_bytes.ensures c.to_be_bytes-2.ensures c.to_be_bytes-3.ensures

pub returns-clause-readable : goal.returns-clause-readable
returns-clause-readable c =
    let sha : length c.args.self.now.sha.0 ≡ 6 = search rules in
    let tha : length c.args.self.now.tha.0 ≡ 6 = search rules in
    record { op = search rules; sha = sha; spa = search rules; tha = tha; tpa = search rules; spelled = arp_text-whole c.args.self.now sha tha }

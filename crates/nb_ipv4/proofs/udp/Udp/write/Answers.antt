use Rattle.std.proofs.Common.{◌≡◌, ◌++◌}
use Rattle.nb_ipv4.specs.UdpText.{udp_parts, sent_datagram}
use Rattle.nb_ipv4.proofs.udp.Udp.write.Goals as goal

pub returns-clause-appended : goal.returns-clause-appended
returns-clause-appended c =
    let whole : c.head-head.result ++ c.args.self.now.body.now ≡ sent_datagram c.args.src c.args.dst (udp_parts c.args.self.now) = c.head-head.ensures.value in
    rw (← whole) c.put_both.ensures.appended

pub returns-clause-readable : goal.returns-clause-readable
returns-clause-readable c = c.head-head.ensures.readable

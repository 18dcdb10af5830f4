use Rattle.std.proofs.Common.{◌≡◌, ap, length}
use Rattle.nb_graph.specs.Trace.{said}
use Rattle.nb_dns.specs.LookupCalls.{dns_datagram, arrived}
use Rattle.nb_nodes.specs.LookupExchanges.{dns_datagram_in}
use Rattle.nb_nodes.proofs.LookupExchangeLemmas.{address_only, arrived_by, lookup_more}
use Rattle.nb_nodes.proofs.cores.DnsCore.receive.Goals as goal

pub returns-clause-calls : goal.returns-clause-calls
returns-clause-calls c =
    let m = said c.args.msg.now in
    let acts = c.message.new.acts in
    let same : dns_datagram m.rec (record { 0 = m.b }) c.args.body.now ≡ dns_datagram_in m = ap (λ z. dns_datagram m.rec (record { 0 = m.b }) z) c.requires.bytes in
    lookup_more c.args.self.now c.message.new.self (arrived (dns_datagram_in m) c.args.now) acts m c.address.result c.address_up.result
    (arrived_by c.args.self.now c.message.new.self _ (dns_datagram_in m) c.args.now acts same c.message.ensures.stands) c.address.ensures.found c.address.ensures.none c.address_up.ensures

pub returns-clause-simple : goal.returns-clause-simple
returns-clause-simple c = address_only (length c.args.body.now) c.message.new.acts c.address.result c.address_up.result c.address_up.ensures c.message.ensures.simple

use Rattle.nb_graph.specs.Trace.{silence}
use Rattle.nb_dns.specs.LookupCalls.{clocked}
use Rattle.nb_nodes.proofs.LookupExchangeLemmas.{address_only, lookup_more}
use Rattle.nb_nodes.proofs.cores.DnsCore.pass_time.Goals as goal

pub returns-clause-calls : goal.returns-clause-calls
returns-clause-calls c =
    lookup_more c.args.self.now c.time.new.self (clocked c.args.now) c.time.new.acts silence c.address.result c.address_up.result c.time.ensures.stands c.address.ensures.found c.address.ensures.none c.address_up.ensures

pub returns-clause-simple : goal.returns-clause-simple
returns-clause-simple c = address_only 0 c.time.new.acts c.address.result c.address_up.result c.address_up.ensures c.time.ensures.simple

use Rattle.std.proofs.Common.{subst}
use Rattle.std.specs.Result.{is_ok}
use Rattle.nb_graph.specs.Trace.{down, said}
use Rattle.nb_nodes.specs.declared.obj.Obj.{Obj}
use Rattle.nb_nodes.specs.Standing.{ObjStands}
use Rattle.nb_nodes.proofs.TftpLemmas.{stands_more}
use Rattle.nb_nodes.proofs.FetchLemmas.{fetch_down}
use Rattle.nb_nodes.specs.LookupExchanges.{lookup_service}
use Rattle.nb_nodes.specs.LeaseExchanges.{lease_service}
use Rattle.nb_nodes.specs.EchoExchanges.{ping_service}
use Rattle.nb_nodes.proofs.ExchangeLemmas.{stands_more as exchange_more}
use Rattle.nb_nodes.proofs.obj.ObjNode.on_down.Goals as goal

pub returns-in-Fetch-clause-stands : goal.returns-in-Fetch-clause-stands
returns-in-Fetch-clause-stands c = λ t s.
    fetch_down c.in-Fetch.fetch t (said c.args.msg.now) c.args.now c.on_down.new.fx (subst (λ (z : Obj). ObjStands z t) c.in-Fetch.is s) c.on_down.ensures

pub returns-in-Tftp-clause-stands : goal.returns-in-Tftp-clause-stands
returns-in-Tftp-clause-stands c = λ t s.
    let leads = rw c.deref_mut.ensures.value at c.on_down-in-Tftp.ensures.leads in
    stands_more c.in-Tftp.tftp.value c.on_down-in-Tftp.new.self t (down (said c.args.msg.now) c.args.now (is_ok c.on_down-in-Tftp.result) c.on_down-in-Tftp.new.fx) leads (subst (λ (z : Obj). ObjStands z t) c.in-Tftp.is s)

pub returns-in-Resolver-clause-stands : goal.returns-in-Resolver-clause-stands
returns-in-Resolver-clause-stands c = λ t s.
    let leads = rw c.deref_mut-in-Resolver.ensures.value at c.on_down-in-Resolver.ensures.leads in
    exchange_more lookup_service c.in-Resolver.resolver.value.stage c.on_down-in-Resolver.new.self.stage t (down (said c.args.msg.now) c.args.now (is_ok c.on_down-in-Resolver.result) c.on_down-in-Resolver.new.fx) leads (subst (λ (z : Obj). ObjStands z t) c.in-Resolver.is s)

pub returns-in-Dhcp-clause-stands : goal.returns-in-Dhcp-clause-stands
returns-in-Dhcp-clause-stands c = λ t s.
    let leads = rw c.deref_mut-in-Dhcp.ensures.value at c.on_down-in-Dhcp.ensures.leads in
    exchange_more lease_service c.in-Dhcp.dhcp.value.stage c.on_down-in-Dhcp.new.self.stage t (down (said c.args.msg.now) c.args.now (is_ok c.on_down-in-Dhcp.result) c.on_down-in-Dhcp.new.fx) leads (subst (λ (z : Obj). ObjStands z t) c.in-Dhcp.is s)

pub returns-in-Ping-clause-stands : goal.returns-in-Ping-clause-stands
returns-in-Ping-clause-stands c = λ t s.
    let leads = rw c.deref_mut-in-Ping.ensures.value at c.on_down-in-Ping.ensures.leads in
    exchange_more ping_service c.in-Ping.ping.value.stage c.on_down-in-Ping.new.self.stage t (down (said c.args.msg.now) c.args.now (is_ok c.on_down-in-Ping.result) c.on_down-in-Ping.new.fx) leads (subst (λ (z : Obj). ObjStands z t) c.in-Ping.is s)

use Rattle.std.proofs.Common.{subst, sym, ap, ◌∙◌}
use Rattle.std.specs.Result.{is_ok}
use Rattle.nb_graph.specs.Trace.{up, said}
use Rattle.nb_nodes.specs.declared.obj.Obj.{Obj}
use Rattle.nb_nodes.specs.Objects.{mark_of_obj}
use Rattle.nb_nodes.specs.Standing.{ObjStands}
use Rattle.nb_nodes.proofs.TftpLemmas.{stands_more}
use Rattle.nb_nodes.proofs.FetchLemmas.{fetch_ups}
use Rattle.nb_nodes.proofs.ObjLemmas.{may_ask, mark_up}
use Rattle.nb_nodes.specs.LookupExchanges.{lookup_service}
use Rattle.nb_nodes.specs.LeaseExchanges.{lease_service}
use Rattle.nb_nodes.specs.EchoExchanges.{ping_service}
use Rattle.nb_nodes.proofs.ExchangeLemmas.{stands_more as exchange_more}
use Rattle.nb_nodes.proofs.obj.ObjNode.on_up.Goals as goal

pub returns-in-Fetch-clause-asks : goal.returns-in-Fetch-clause-asks
returns-in-Fetch-clause-asks c = may_ask _ _ c.on_up.new.fx (c.on_up.ensures.within _)

pub returns-in-Fetch-clause-mark : goal.returns-in-Fetch-clause-mark
returns-in-Fetch-clause-mark c =
    mark_up c.on_up.result c.in-Fetch.fetch c.on_up.new.self c.args.slot (said c.args.msg.now) c.on_up.ensures.after c.on_up.ensures.failed ∙ sym (ap mark_of_obj c.in-Fetch.is)

pub returns-in-Fetch-clause-stands : goal.returns-in-Fetch-clause-stands
returns-in-Fetch-clause-stands c = λ t s settled.
    fetch_ups c.on_up.result c.in-Fetch.fetch c.on_up.new.self t c.args.slot (said c.args.msg.now) c.args.now c.on_up.new.fx (subst (λ (z : Obj). ObjStands z t) c.in-Fetch.is s) c.on_up.ensures.asks c.on_up.ensures.after c.on_up.ensures.failed

pub returns-in-Tftp-clause-stands : goal.returns-in-Tftp-clause-stands
returns-in-Tftp-clause-stands c = λ t s settled.
    let leads = rw c.deref_mut.ensures.value at c.on_up-in-Tftp.ensures.leads in
    stands_more c.in-Tftp.tftp.value c.on_up-in-Tftp.new.self t (up c.args.slot (said c.args.msg.now) c.args.now (is_ok c.on_up-in-Tftp.result) c.on_up-in-Tftp.new.fx) leads (subst (λ (z : Obj). ObjStands z t) c.in-Tftp.is s)

pub returns-in-Resolver-clause-stands : goal.returns-in-Resolver-clause-stands
returns-in-Resolver-clause-stands c = λ t s settled.
    let leads = rw c.deref_mut-in-Resolver.ensures.value at c.on_up-in-Resolver.ensures.leads in
    exchange_more lookup_service c.in-Resolver.resolver.value.stage c.on_up-in-Resolver.new.self.stage t (up c.args.slot (said c.args.msg.now) c.args.now (is_ok c.on_up-in-Resolver.result) c.on_up-in-Resolver.new.fx) leads (subst (λ (z : Obj). ObjStands z t) c.in-Resolver.is s)

pub returns-in-Dhcp-clause-stands : goal.returns-in-Dhcp-clause-stands
returns-in-Dhcp-clause-stands c = λ t s settled.
    let leads = rw c.deref_mut-in-Dhcp.ensures.value at c.on_up-in-Dhcp.ensures.leads in
    exchange_more lease_service c.in-Dhcp.dhcp.value.stage c.on_up-in-Dhcp.new.self.stage t (up c.args.slot (said c.args.msg.now) c.args.now (is_ok c.on_up-in-Dhcp.result) c.on_up-in-Dhcp.new.fx) leads (subst (λ (z : Obj). ObjStands z t) c.in-Dhcp.is s)

pub returns-in-Ping-clause-stands : goal.returns-in-Ping-clause-stands
returns-in-Ping-clause-stands c = λ t s settled.
    let leads = rw c.deref_mut-in-Ping.ensures.value at c.on_up-in-Ping.ensures.leads in
    exchange_more ping_service c.in-Ping.ping.value.stage c.on_up-in-Ping.new.self.stage t (up c.args.slot (said c.args.msg.now) c.args.now (is_ok c.on_up-in-Ping.result) c.on_up-in-Ping.new.fx) leads (subst (λ (z : Obj). ObjStands z t) c.in-Ping.is s)

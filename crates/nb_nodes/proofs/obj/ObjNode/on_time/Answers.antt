use Rattle.std.proofs.Common.{sym, subst, true, ◌++◌, [], ◌∷◌}
use Rattle.std.specs.Result.{is_ok}
use Rattle.nb_graph.specs.Trace.{time}
use Rattle.nb_nodes.specs.declared.obj.Obj.{Obj}
use Rattle.nb_nodes.specs.Standing.{ObjStands}
use Rattle.nb_nodes.proofs.TftpLemmas.{stands_more}
use Rattle.nb_nodes.proofs.FetchLemmas.{fetch_time}
use Rattle.nb_nodes.proofs.ObjLemmas.{blank}
use Rattle.nb_nodes.specs.LookupExchanges.{lookup_service}
use Rattle.nb_nodes.specs.LeaseExchanges.{lease_service}
use Rattle.nb_nodes.specs.EchoExchanges.{ping_service}
use Rattle.nb_nodes.proofs.ExchangeLemmas.{stands_more as exchange_more}
use Rattle.nb_nodes.proofs.obj.ObjNode.on_time.Goals as goal

pub returns-in-Fetch-clause-stands : goal.returns-in-Fetch-clause-stands
returns-in-Fetch-clause-stands c = λ t s settled.
    subst (λ (z : Obj). ObjStands z (t ++ time c.args.now true c.args.fx.now ∷ [])) (sym c.in-Fetch.is)
    (fetch_time c.in-Fetch.field-0 t c.args.now c.args.fx.now (subst (λ (z : Obj). ObjStands z t) c.in-Fetch.is s) (blank c.args.fx.now c.requires))

pub returns-in-Tftp-clause-stands : goal.returns-in-Tftp-clause-stands
returns-in-Tftp-clause-stands c = λ t s settled.
    let leads = rw c.deref_mut.ensures.value at c.on_time.ensures.leads in
    stands_more c.in-Tftp.tftp.value c.on_time.new.self t (time c.args.now (is_ok c.on_time.result) c.on_time.new.fx) leads (subst (λ (z : Obj). ObjStands z t) c.in-Tftp.is s)

pub returns-in-Resolver-clause-stands : goal.returns-in-Resolver-clause-stands
returns-in-Resolver-clause-stands c = λ t s settled.
    let leads = rw c.deref_mut-in-Resolver.ensures.value at c.on_time-in-Resolver.ensures.leads in
    exchange_more lookup_service c.in-Resolver.resolver.value.stage c.on_time-in-Resolver.new.self.stage t (time c.args.now (is_ok c.on_time-in-Resolver.result) c.on_time-in-Resolver.new.fx) leads (subst (λ (z : Obj). ObjStands z t) c.in-Resolver.is s)

pub returns-in-Dhcp-clause-stands : goal.returns-in-Dhcp-clause-stands
returns-in-Dhcp-clause-stands c = λ t s settled.
    let leads = rw c.deref_mut-in-Dhcp.ensures.value at c.on_time-in-Dhcp.ensures.leads in
    exchange_more lease_service c.in-Dhcp.dhcp.value.stage c.on_time-in-Dhcp.new.self.stage t (time c.args.now (is_ok c.on_time-in-Dhcp.result) c.on_time-in-Dhcp.new.fx) leads (subst (λ (z : Obj). ObjStands z t) c.in-Dhcp.is s)

pub returns-in-Ping-clause-stands : goal.returns-in-Ping-clause-stands
returns-in-Ping-clause-stands c = λ t s settled.
    let leads = rw c.deref_mut-in-Ping.ensures.value at c.on_time-in-Ping.ensures.leads in
    exchange_more ping_service c.in-Ping.ping.value.stage c.on_time-in-Ping.new.self.stage t (time c.args.now (is_ok c.on_time-in-Ping.result) c.on_time-in-Ping.new.fx) leads (subst (λ (z : Obj). ObjStands z t) c.in-Ping.is s)

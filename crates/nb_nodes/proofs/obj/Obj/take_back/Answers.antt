use Rattle.std.proofs.Common.{sym, subst, ◌++◌, [], ◌∷◌}
use Rattle.nb_graph.specs.Trace.{regain}
use Rattle.nb_nodes.specs.declared.obj.Obj.{Obj}
use Rattle.nb_nodes.specs.Standing.{ObjStands}
use Rattle.nb_nodes.proofs.TftpLemmas.{stands_more, regain_on}
use Rattle.nb_nodes.proofs.FetchLemmas.{fetch_regain}
use Rattle.nb_nodes.specs.LookupExchanges.{lookup_service}
use Rattle.nb_nodes.specs.LeaseExchanges.{lease_service}
use Rattle.nb_nodes.specs.EchoExchanges.{ping_service}
use Rattle.nb_nodes.proofs.ExchangeLemmas.{stands_more as exchange_more, regain_on as exchange_regain}
use Rattle.nb_nodes.proofs.obj.Obj.take_back.Goals as goal

pub returns-in-Fetch-clause-stands : goal.returns-in-Fetch-clause-stands
returns-in-Fetch-clause-stands c = λ t s awaits.
    subst (λ (z : Obj). ObjStands z (t ++ regain c.args.load ∷ [])) (sym c.in-Fetch.is)
    (fetch_regain c.in-Fetch.field-0 t c.args.load (subst (λ (z : Obj). ObjStands z t) c.in-Fetch.is s))

pub returns-in-Tftp-clause-stands : goal.returns-in-Tftp-clause-stands
returns-in-Tftp-clause-stands c = λ t s awaits.
    let same = rw c.deref_mut.ensures.value at c.regain.ensures in
    stands_more c.in-Tftp.tftp.value c.regain.new.self t (regain c.args.load) (regain_on c.in-Tftp.tftp.value.work c.regain.new.self.work c.args.load same) (subst (λ (z : Obj). ObjStands z t) c.in-Tftp.is s)

pub returns-in-Resolver-clause-stands : goal.returns-in-Resolver-clause-stands
returns-in-Resolver-clause-stands c = λ t s awaits.
    let same = rw c.deref_mut-in-Resolver.ensures.value at c.regain-in-Resolver.ensures in
    exchange_more lookup_service c.in-Resolver.resolver.value.stage c.regain-in-Resolver.new.self.stage t (regain c.args.load) (exchange_regain lookup_service c.in-Resolver.resolver.value.stage c.regain-in-Resolver.new.self.stage c.args.load same) (subst (λ (z : Obj). ObjStands z t) c.in-Resolver.is s)

pub returns-in-Dhcp-clause-stands : goal.returns-in-Dhcp-clause-stands
returns-in-Dhcp-clause-stands c = λ t s awaits.
    let same = rw c.deref_mut-in-Dhcp.ensures.value at c.regain-in-Dhcp.ensures in
    exchange_more lease_service c.in-Dhcp.dhcp.value.stage c.regain-in-Dhcp.new.self.stage t (regain c.args.load) (exchange_regain lease_service c.in-Dhcp.dhcp.value.stage c.regain-in-Dhcp.new.self.stage c.args.load same) (subst (λ (z : Obj). ObjStands z t) c.in-Dhcp.is s)

pub returns-in-Ping-clause-stands : goal.returns-in-Ping-clause-stands
returns-in-Ping-clause-stands c = λ t s awaits.
    let same = rw c.deref_mut-in-Ping.ensures.value at c.regain-in-Ping.ensures in
    exchange_more ping_service c.in-Ping.ping.value.stage c.regain-in-Ping.new.self.stage t (regain c.args.load) (exchange_regain ping_service c.in-Ping.ping.value.stage c.regain-in-Ping.new.self.stage c.args.load same) (subst (λ (z : Obj). ObjStands z t) c.in-Ping.is s)

use Rattle.std.proofs.Common.{subst, sym, ap, ◌∙◌}
use Rattle.nb_graph.specs.Trace.{closed}
use Rattle.nb_nodes.specs.declared.obj.Obj.{Obj}
use Rattle.nb_nodes.specs.Objects.{mark_of_obj}
use Rattle.nb_nodes.specs.Standing.{ObjStands}
use Rattle.nb_nodes.proofs.TftpLemmas.{stands_more}
use Rattle.nb_nodes.proofs.FetchLemmas.{fetch_closed}
use Rattle.nb_nodes.proofs.ObjLemmas.{mark_closed}
use Rattle.nb_nodes.specs.LookupExchanges.{lookup_service}
use Rattle.nb_nodes.specs.LeaseExchanges.{lease_service}
use Rattle.nb_nodes.specs.EchoExchanges.{ping_service}
use Rattle.nb_nodes.proofs.ExchangeLemmas.{stands_more as exchange_more}
use Rattle.nb_nodes.proofs.obj.ObjNode.on_close.Goals as goal

pub returns-in-Fetch-clause-mark : goal.returns-in-Fetch-clause-mark
returns-in-Fetch-clause-mark c = mark_closed c.in-Fetch.fetch c.on_close.new.self c.args.slot c.args.cause.now c.on_close.ensures.after ∙ sym (ap mark_of_obj c.in-Fetch.is)

pub returns-in-Fetch-clause-stands : goal.returns-in-Fetch-clause-stands
returns-in-Fetch-clause-stands c = λ t s.
    fetch_closed c.in-Fetch.fetch c.on_close.new.self t c.args.slot c.args.cause.now c.args._now c.on_close.new.fx (subst (λ (z : Obj). ObjStands z t) c.in-Fetch.is s) c.on_close.ensures.silent c.on_close.ensures.closes c.on_close.ensures.after

pub returns-in-Tftp-clause-stands : goal.returns-in-Tftp-clause-stands
returns-in-Tftp-clause-stands c = λ t s.
    let leads = rw c.deref_mut.ensures.value at c.on_close-in-Tftp.ensures.leads in
    stands_more c.in-Tftp.tftp.value c.on_close-in-Tftp.new.self t (closed c.args.slot c.args.cause.now c.args._now c.on_close-in-Tftp.new.fx) (leads c.args._now) (subst (λ (z : Obj). ObjStands z t) c.in-Tftp.is s)

pub returns-in-Resolver-clause-stands : goal.returns-in-Resolver-clause-stands
returns-in-Resolver-clause-stands c = λ t s.
    let leads = rw c.deref_mut-in-Resolver.ensures.value at c.on_close-in-Resolver.ensures.leads in
    exchange_more lookup_service c.in-Resolver.resolver.value.stage c.on_close-in-Resolver.new.self.stage t (closed c.args.slot c.args.cause.now c.args._now c.on_close-in-Resolver.new.fx) (leads c.args._now) (subst (λ (z : Obj). ObjStands z t) c.in-Resolver.is s)

pub returns-in-Dhcp-clause-stands : goal.returns-in-Dhcp-clause-stands
returns-in-Dhcp-clause-stands c = λ t s.
    let leads = rw c.deref_mut-in-Dhcp.ensures.value at c.on_close-in-Dhcp.ensures.leads in
    exchange_more lease_service c.in-Dhcp.dhcp.value.stage c.on_close-in-Dhcp.new.self.stage t (closed c.args.slot c.args.cause.now c.args._now c.on_close-in-Dhcp.new.fx) (leads c.args._now) (subst (λ (z : Obj). ObjStands z t) c.in-Dhcp.is s)

pub returns-in-Ping-clause-stands : goal.returns-in-Ping-clause-stands
returns-in-Ping-clause-stands c = λ t s.
    let leads = rw c.deref_mut-in-Ping.ensures.value at c.on_close-in-Ping.ensures.leads in
    exchange_more ping_service c.in-Ping.ping.value.stage c.on_close-in-Ping.new.self.stage t (closed c.args.slot c.args.cause.now c.args._now c.on_close-in-Ping.new.fx) (leads c.args._now) (subst (λ (z : Obj). ObjStands z t) c.in-Ping.is s)

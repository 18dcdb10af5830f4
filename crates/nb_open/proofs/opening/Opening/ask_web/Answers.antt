use Rattle.std.proofs.Common.{None, ◌++◌, sym, subst, length-append, arith}
use Rattle.nb_webchains.specs.WebCalls.{DoesWeb, begins_web}
use Rattle.nb_open.specs.Making.{AsksWeb}
use Rattle.nb_open.specs.Settling.{told_so_far}
use Rattle.nb_open.proofs.opening.Opening.ask_web.Goals as goal

pub returns-clause-asks : goal.returns-clause-asks
returns-clause-asks c =
    let m = told_so_far c.args.out.now in
    let n = told_so_far c.begin.new.out in
    let path = c.in-Web.web.ask.path.now in
    let items = c.in_ok-first.first.items in
    let all = length-append items path in
    let head = c.in_ok-first.ensures.len in
    let few = c.in_ok-host.ensures.short in
    subst (λ a. AsksWeb a c.args.chain c.args.graph.now c.begin.new.graph c.args.now c.args.rec m n) (sym c.in-Web.is) (record {
      bytes = items ++ path;
      asks = c.in_ok-first.ensures.readable path;
      short = omega (arith, all, head, few);
      does = subst (λ h. DoesWeb c.args.chain c.args.now (begins_web c.args.chain c.args.rec h (items ++ path)) None c.args.graph.now c.begin.new.graph m n) c.in_ok-host.ensures.host
          (subst (λ b. DoesWeb c.args.chain c.args.now (begins_web c.args.chain c.args.rec c.in_ok-host.host (b ++ path)) None c.args.graph.now c.begin.new.graph m n) c.as_slice.ensures.value c.begin.ensures.does);
    })

use Rattle.std.proofs.Common.{None, [], ◌++◌, sym, subst, append-nil}
use Rattle.nb_drivechains.specs.DriveChains.{three_of}
use Rattle.nb_webchains.specs.WebCalls.{DoesWeb, begins_web}
use Rattle.nb_open.specs.Making.{AsksDrive}
use Rattle.nb_open.specs.Settling.{told_so_far}
use Rattle.nb_open.proofs.opening.Opening.ask_drive.Goals as goal

pub returns-clause-asks : goal.returns-clause-asks
returns-clause-asks c =
    let m = told_so_far c.args.out.now in
    let n = told_so_far c.begin.new.out in
    let items = c.in_ok-bytes.bytes.items in
    let three = three_of c.args.chain in
    subst (λ a. AsksDrive a c.args.chain c.args.graph.now c.begin.new.graph c.args.now c.args.rec m n) (sym c.in-Drive.is) (record {
      bytes = items;
      asks = c.in_ok-bytes.ensures.readable;
      short = c.in_ok-bytes.ensures.short;
      does = subst (λ b. DoesWeb three c.args.now (begins_web three c.args.rec 0 b) None c.args.graph.now c.begin.new.graph m n) (append-nil items)
          (subst (λ b. DoesWeb three c.args.now (begins_web three c.args.rec 0 (b ++ [])) None c.args.graph.now c.begin.new.graph m n) c.as_slice.ensures.value c.begin.ensures.does);
    })

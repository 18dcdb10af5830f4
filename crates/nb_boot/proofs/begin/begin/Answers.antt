use Rattle.std.proofs.Common.{[], inr, sym, subst}
use Rattle.nb_traced.specs.Holdings.{no_holdings}
use Rattle.nb_machine.specs.Courses.{nowhere}
use Rattle.nb_runner.specs.declared.status.Status.{Status}
use Rattle.nb_boot.specs.Going.{RefusesRun}
use Rattle.nb_boot.proofs.Openings.{opens_filled, refuses_filled}
use Rattle.nb_boot.proofs.begin.begin.Goals as goal

pub returns-in-More-clause-ok : goal.returns-in-More-clause-ok
returns-in-More-clause-ok g c =
    opens_filled c.enter_front.result c.args.feed.now.bytes c.fill.new.feed.bytes c.enter_front.new.feed.bytes
    (g.L.Line.outside c.args.line.now) (g.L.Line.outside c.fill.new.line) (g.L.Line.outside c.enter_front.new.line)
    c.args.log.now c.fill.new.log c.enter_front.new.log c.in-More.ensures.fills c.enter_front.ensures.ok

pub returns-in-More-clause-err : goal.returns-in-More-clause-err
returns-in-More-clause-err g c =
    refuses_filled c.enter_front.result c.args.feed.now.bytes c.fill.new.feed.bytes
    (g.L.Line.outside c.args.line.now) (g.L.Line.outside c.fill.new.line) (g.L.Line.outside c.enter_front.new.line)
    c.args.log.now c.fill.new.log c.in-More.ensures.fills c.enter_front.ensures.err

pub returns-in-Ended-clause-err : goal.returns-in-Ended-clause-err
returns-in-Ended-clause-err g c = λ first r.
    let f = c.in-Ended.ensures.fills in
    c.refuse.ensures c.fill.new.feed.bytes first (f.0 [] first nowhere no_holdings tt r) (inr (inr (f.1, f.2)))

pub returns-in-Fault-clause-err : goal.returns-in-Fault-clause-err
returns-in-Fault-clause-err g c = λ first r. c.in-Fault.ensures.fills [] first nowhere no_holdings tt r

pub returns-in-Cut-clause-err : goal.returns-in-Cut-clause-err
returns-in-Cut-clause-err g c =
    let P : Status → Type 0 = λ s. RefusesRun s c.args.feed.now.bytes (g.L.Line.outside c.args.line.now) (g.L.Line.outside c.fill.new.line) c.args.log.now in
    subst P (sym c.status.ensures) (λ first r. c.in-Cut.ensures.fills [] first nowhere no_holdings tt r)

use Rattle.std.proofs.Common.{inl, inr, drop, subst, sym}
use Rattle.nb_record.specs.View.{in_of}
use Rattle.nb_boot.specs.Shown.{IsOther}
use Rattle.nb_boot.specs.Going.{Opens, RefusesRun}
use Rattle.nb_boot.proofs.BadRests.{breaks_broken}
use Rattle.nb_boot.proofs.Fronts.{front_texts, front_begins}
use Rattle.nb_boot.proofs.begin.enter_front.Goals as goal

pub returns-then-not-is_first-clause-err : goal.returns-then-not-is_first-clause-err
returns-then-not-is_first-clause-err g c = λ first r.
    let held = c.args.feed.now.bytes in
    c.refuse.ensures held first r (inr (inl (front_begins held (in_of c.in-Whole.entry) c.in-Whole.len IsOther c.in-Whole.ensures c.if-not-is_first.ensures)))

pub returns-in-Ok-clause-ok : goal.returns-in-Ok-clause-ok
returns-in-Ok-clause-ok g c =
    let held = c.args.feed.now.bytes in
    let e = front_texts held (in_of c.in-Whole.entry) c.in-Whole.len c.in-Whole.ensures in
    rw c.pass.ensures
    (subst (λ xs. Opens xs (drop c.in-Whole.len held) (g.L.Line.outside c.args.line.now) (g.L.Line.outside c.enter.new.line) c.args.log.now c.enter.new.log c.in-Ok.client) (sym e)
    (c.in-Ok.ensures.ok (drop c.in-Whole.len held)))

pub returns-in-Err-clause-err : goal.returns-in-Err-clause-err
returns-in-Err-clause-err g c =
    let held = c.args.feed.now.bytes in
    let e = front_texts held (in_of c.in-Whole.entry) c.in-Whole.len c.in-Whole.ensures in
    subst (λ xs. RefusesRun c.in-Err.status xs (g.L.Line.outside c.args.line.now) (g.L.Line.outside c.enter.new.line) c.args.log.now) (sym e)
    (c.in-Err.ensures.err (drop c.in-Whole.len held))

pub returns-in-Broken-clause-err : goal.returns-in-Broken-clause-err
returns-in-Broken-clause-err g c = λ first r.
    let held = c.args.feed.now.bytes in
    c.refuse-in-Broken.ensures held first r (inl (breaks_broken held c.in-Broken.field-0.why c.in-Broken.ensures.1))

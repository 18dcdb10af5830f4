use Rattle.std.proofs.Common.{◌≡◌, [], arith, subst, sym}
use Rattle.nb_traced.specs.Holdings.{no_holdings}
use Rattle.nb_machine.specs.Courses.{nowhere}
use Rattle.nb_boot.specs.Going.{Going, Waits}
use Rattle.nb_boot.proofs.Goings.{going_fresh}
use Rattle.nb_boot.proofs.Waiting.{waits_counts}
use Rattle.nb_boot.proofs.top.serve.Goals as goal

pub returns-in-Err : goal.returns-in-Err
returns-in-Err g c =
    let first = g.L.Line.outside c.args.line.now in
    let going = subst (λ xs. Going [] xs first first c.args.log.now nowhere no_holdings) (sym c.requires.empty) (going_fresh first c.args.log.now c.requires.no_output) in
    c.in-Err.ensures.err first going

pub records-init : goal.records-init
records-init g c =
    let first = g.L.Line.outside c.args.line.now in
    let going = subst (λ xs. Going [] xs first first c.args.log.now nowhere no_holdings) (sym c.requires.empty) (going_fresh first c.args.log.now c.requires.no_output) in
    let opened = c.in-Ok.ensures.ok in
    (omega arith, opened.0, opened.1 first going)

pub turn-requires-clause-few : goal.turn-requires-clause-few
turn-requires-clause-few g c =
    let counted = waits_counts c.records.used c.records.feed.bytes (g.L.Line.outside c.args.line.now) (g.L.Line.outside c.records.line) c.records.log c.records.client c.records.invariant.2 in
    omega (arith, counted, c.records-test.true)

pub returns : goal.returns
returns g c =
    let first = g.L.Line.outside c.args.line.now in
    let full : c.records.used ≡ 4294967295 = omega (arith, c.records-test.false, c.records.invariant.0) in
    c.last.ensures first
    (subst (λ n. Waits n c.records.feed.bytes first (g.L.Line.outside c.records.line) c.records.log c.records.client) full c.records.invariant.2)

use Rattle.std.proofs.Common.{◌∙◌, sym, ap, refl, arith}
use Rattle.nb_defs.specs.ScriptLines.{joined_lines}
use Rattle.nb_script.specs.Joined.{lines_before}
use Rattle.nb_script.proofs.JoinedLemmas.{resumed_none}
use Rattle.nb_script.proofs.joined.join_lines.Goals as goal

pub loop-line-init : goal.loop-line-init
loop-line-init c = rw c.new-joined.ensures (resumed_none (joined_lines c.args.text.now), λ _. refl, omega arith)

pub loop-line-preserved : goal.loop-line-preserved
loop-line-preserved c =
    let e = c.in_ok-add.ensures in
    let sizes = c.in-Some.ensures.sizes in
    let lines = e.lines (joined_lines c.in-Some.behind.now) ∙ ap (lines_before c.loop-line.joined) (sym c.in-Some.ensures.some) ∙ c.loop-line.invariant.0 in
    (lines, e.begun, omega (arith, e.size))

pub returns-clause-lines : goal.returns-clause-lines
returns-clause-lines c =
    c.in_ok-end.ensures.lines ∙ ap (lines_before c.loop-line.joined) (sym (c.in_default.ensures.none refl)) ∙ c.loop-line.invariant.0

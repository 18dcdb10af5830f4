use Rattle.std.proofs.Common.{◌≡◌, ◌+◌, ◌-◌, suc, sym, ◌∙◌, ap, arith}
use Rattle.nb_dnsmsg.specs.Messages.{reached_by}
use Rattle.nb_dnsmsg.proofs.FoundLemmas.{reached_none, reached_more, reached_by_none, step_false, step_true}
use Rattle.nb_dnsmsg.proofs.section.Section.follow.Goals as goal

pub returns-then-not-step : goal.returns-then-not-step
returns-then-not-step c = λ rs at.
    let s = step_false c.step.result c.loop-i.name.items c.step.new.name.items rs c.if-not-step.true (c.step.ensures rs at) in
    s.1 ∙ sym (c.loop-i.invariant rs at ∙ reached_none (8 - c.loop-i.i) c.loop-i.name.items rs s.0)

pub loop-i-preserved : goal.loop-i-preserved
loop-i-preserved c = λ rs at.
    let s = step_true c.step.result c.loop-i.name.items c.step.new.name.items rs c.if-not-step.false (c.step.ensures rs at) in
    let left : 8 - c.loop-i.i ≡ suc (8 - (c.loop-i.i + 1)) = omega arith in
    c.loop-i.invariant rs at ∙ ap (λ x. reached_by x c.loop-i.name.items rs) left ∙ reached_more (8 - (c.loop-i.i + 1)) c.loop-i.name.items c.step.new.name.items rs s

pub returns : goal.returns
returns c = λ rs at.
    let none : 8 - c.loop-i.i ≡ 0 = omega arith in
    sym (c.loop-i.invariant rs at ∙ ap (λ x. reached_by x c.loop-i.name.items rs) none ∙ reached_by_none c.loop-i.name.items rs)

use Rattle.std.proofs.Common.{◌≡◌, ◌≤◌, ◌∙◌, sym, subst, arith, true, false, take, drop, length, List, ℕ, None}
use Rattle.std.proofs.lemmas.List.{length-drop}
use Rattle.nb_responses.specs.Lines.{is_empty, first_line}
use Rattle.nb_httpmsg.proofs.BlockLemmas.{LineOf, one_passed, passed_to_end, passed_to_no_line, rest_all}
use Rattle.nb_httpmsg.proofs.block.find_block.Goals as goal

pub returns-in-None-clause-block : goal.returns-in-None-clause-block
returns-in-None-clause-block c =
    let none : first_line (drop c.loop-line.at c.args.text.now) ≡ None = subst (λ (r : List ℕ). first_line r ≡ None) (rest_all c.loop-line.at c.args.text.now) c.in-None.ensures.line in
    passed_to_no_line c.args.most c.loop-line._line c.loop-line.at c.args.text.now c.loop-line-test.true none c.loop-line.invariant.passed

pub returns-then-is_empty_line-clause-block : goal.returns-then-is_empty_line-clause-block
returns-then-is_empty_line-clause-block c =
    let line : LineOf (drop c.loop-line.at c.args.text.now) c.in-Some.len = subst (λ (r : List ℕ). LineOf r c.in-Some.len) (rest_all c.loop-line.at c.args.text.now) c.in-Some.ensures.line in
    let empty : is_empty (take c.in-Some.len (drop c.loop-line.at c.args.text.now)) ≡ true = subst (λ (r : List ℕ). is_empty (take c.in-Some.len r) ≡ true) (rest_all c.loop-line.at c.args.text.now) (sym c.is_empty_line.ensures ∙ c.if-is_empty_line.true) in
    passed_to_end c.args.most c.loop-line._line c.loop-line.at c.in-Some.len c.args.text.now c.loop-line-test.true line empty c.loop-line.invariant.passed

pub loop-line-preserved : goal.loop-line-preserved
loop-line-preserved c =
    let line : LineOf (drop c.loop-line.at c.args.text.now) c.in-Some.len = subst (λ (r : List ℕ). LineOf r c.in-Some.len) (rest_all c.loop-line.at c.args.text.now) c.in-Some.ensures.line in
    let full : is_empty (take c.in-Some.len (drop c.loop-line.at c.args.text.now)) ≡ false = subst (λ (r : List ℕ). is_empty (take c.in-Some.len r) ≡ false) (rest_all c.loop-line.at c.args.text.now) (sym c.is_empty_line.ensures ∙ c.if-is_empty_line.false) in
    let short : c.in-Some.len ≤ length (drop c.loop-line.at c.args.text.now) = subst (λ (r : List ℕ). c.in-Some.len ≤ length r) (rest_all c.loop-line.at c.args.text.now) c.in-Some.ensures.within in
    record {
      within = omega (arith, short, length-drop c.loop-line.at c.args.text.now, c.loop-line.invariant.within);
      passed = one_passed c.args.most c.loop-line._line c.loop-line.at c.in-Some.len c.args.text.now c.loop-line-test.true line full c.loop-line.invariant.passed;
    }

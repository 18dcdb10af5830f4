use Rattle.std.proofs.Common.{◌≡◌, ◌≤◌, ◌∙◌, length, drop, sym, arith, true, false}
use Rattle.std.proofs.lemmas.List.{drop_all}
use Rattle.nb_defs.specs.ScriptText.{is_blank}
use Rattle.nb_image.proofs.FirstLineLemmas.{blank_return, blank_more, blank_other, blank_past}
use Rattle.nb_image.proofs.first_line.ends_blank.Goals as goal

pub returns-then-b-eq13 : goal.returns-then-b-eq13
returns-then-b-eq13 c =
    c.ends_line.ensures ∙ sym (blank_return c.args.body.now c.loop-at.at c.in-Some.b c.in-Some.ensures c.if-b-eq13.true) ∙ c.loop-at.invariant

pub returns-then-not-is_blank : goal.returns-then-not-is_blank
returns-then-not-is_blank c =
    let blank : is_blank c.in-Some.b ≡ false = sym c.is_blank.ensures ∙ c.if-not-is_blank.true in
    sym (blank_other c.args.body.now c.loop-at.at c.in-Some.b c.in-Some.ensures c.if-b-eq13.false blank) ∙ c.loop-at.invariant

pub loop-at-preserved : goal.loop-at-preserved
loop-at-preserved c =
    let blank : is_blank c.in-Some.b ≡ true = sym c.is_blank.ensures ∙ c.if-not-is_blank.false in
    sym (blank_more c.args.body.now c.loop-at.at c.in-Some.b c.in-Some.ensures c.if-b-eq13.false blank) ∙ c.loop-at.invariant

pub returns : goal.returns
returns c =
    let past : length c.args.body.now ≤ c.loop-at.at = omega arith in
    sym (blank_past (drop c.loop-at.at c.args.body.now) (drop_all c.loop-at.at c.args.body.now past)) ∙ c.loop-at.invariant

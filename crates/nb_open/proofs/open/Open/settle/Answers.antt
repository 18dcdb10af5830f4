use Rattle.std.proofs.Common.{◌≡◌, ◌∙◌, true, false, Some, None, refl, sym}
use Rattle.nb_teller.specs.Spelling.{HasSpelled}
use Rattle.nb_open.specs.Settling.{told_so_far, stays_open}
use Rattle.nb_open.proofs.Settlements.{has_spelled, settles_back, settles_over}
use Rattle.nb_open.proofs.open.Open.settle.Goals as goal

pub returns-in_ok-end-in-Some-clause-settles : goal.returns-in_ok-end-in-Some-clause-settles
returns-in_ok-end-in-Some-clause-settles c =
    let s = c.args.out.now.told.value in
    let has : HasSpelled s (Some c.in-Some.cause) = has_spelled c.deref.result.now s c.in_ok-cause.field-0 (Some c.in-Some.cause) c.deref.ensures c.in-Some.is c.in_ok-cause.ensures in
    settles_over c.args.self.now s c.args.graph.now c.end.new.graph (told_so_far c.args.out.now) (told_so_far c.end.new.out) c.in_ok-end-in-Some.field-0 c.in-Some.cause c.in_ok-end-in-Some.ensures.cause has c.in_ok-end-in-Some.ensures.lets

pub returns-in_ok-end-in-None-clause-settles : goal.returns-in_ok-end-in-None-clause-settles
returns-in_ok-end-in-None-clause-settles c =
    let s = c.args.out.now.told.value in
    let has : HasSpelled s None = has_spelled c.deref.result.now s c.in_ok-cause.field-0 None c.deref.ensures c.in-None.is c.in_ok-cause.ensures in
    let stuck : s.is_stuck ≡ true = (cc) in
    settles_back c.args.self.now s c.args.graph.now c.end-in-None.new.graph (told_so_far c.args.out.now) (told_so_far c.end-in-None.new.out) c.in_ok-end-in-None.field-0 c.no_route-cause.result c.in_ok-end-in-None.ensures.cause
    c.close.new.graph (told_so_far c.close.new.out) has stuck c.no_route-cause.ensures c.close.ensures.on c.close.ensures.closes c.in_ok-end-in-None.ensures.lets

pub returns-in-None-2-clause-settles : goal.returns-in-None-2-clause-settles
returns-in-None-2-clause-settles c =
    let s = c.args.out.now.told.value in
    let has : HasSpelled s None = has_spelled c.deref.result.now s c.in_ok-cause.field-0 None c.deref.ensures c.in-None-2.is c.in_ok-cause.ensures in
    let free : s.is_stuck ≡ false = (cc) in
    stays_open has free refl refl

pub returns-in_ok-end-in-Some-clause-whole : goal.returns-in_ok-end-in-Some-clause-whole
returns-in_ok-end-in-Some-clause-whole c = c.in_ok-end-in-Some.ensures.whole

pub returns-in_ok-end-in-None-clause-whole : goal.returns-in_ok-end-in-None-clause-whole
returns-in_ok-end-in-None-clause-whole c = c.in_ok-end-in-None.ensures.whole

pub returns-in-None-2-clause-whole : goal.returns-in-None-2-clause-whole
returns-in-None-2-clause-whole c =
    let s = c.args.out.now.told.value in
    let has : HasSpelled s None = has_spelled c.deref.result.now s c.in_ok-cause.field-0 None c.deref.ensures c.in-None-2.is c.in_ok-cause.ensures in
    (has.0, refl, λ e. has.2 (sym has.1 ∙ e))

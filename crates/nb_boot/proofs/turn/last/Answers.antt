use Rattle.std.proofs.Common.{◌≡◌, [], arith, sym, ◌∙◌, subst, refl}
use Rattle.nb_defs.specs.Records.{IsPartial}
use Rattle.nb_defs.proofs.RecordLaws.{nothing_partial}
use Rattle.nb_runner.specs.declared.status.Status.{Status}
use Rattle.nb_boot.specs.Run.{Shows}
use Rattle.nb_boot.proofs.Standing.{stands_between}
use Rattle.nb_boot.proofs.Waiting.{waits_out, waits_full, nothing_held, some_held}
use Rattle.nb_boot.proofs.Fronts.{waits_filled}
use Rattle.nb_boot.proofs.turn.last.Goals as goal

pub returns-then-not-is_empty : goal.returns-then-not-is_empty
returns-then-not-is_empty g c = λ first w.
    let held = c.args.feed.now.bytes in
    let now = g.L.Line.outside c.args.line.now in
    c.finish.ensures w.ins held first w.goes.progress w.goes.holdings w.goes.stands w.goes.fits w.goes.going
    (waits_full held first now c.args.log.now c.args.client.now w c.requires.waits (some_held held c.is_empty.result c.is_empty.ensures c.if-not-is_empty.true))

pub refill-requires : goal.refill-requires
refill-requires g c = record {
  partial = let none : c.args.feed.now.bytes ≡ [] = nothing_held c.args.feed.now.bytes c.is_empty.result c.is_empty.ensures c.if-not-is_empty.false in
      subst (λ xs. IsPartial xs) (sym none) nothing_partial;
}

pub returns-in-More : goal.returns-in-More
returns-in-More g c = λ first w.
    let held = c.refill.new.feed.bytes in
    let now = g.L.Line.outside c.refill.new.line in
    let v = waits_filled 4294967295 c.args.feed.now.bytes held first (g.L.Line.outside c.args.line.now) now c.args.log.now c.refill.new.log c.args.client.now c.in-More.ensures.fills c.requires.waits w in
    c.finish-in-More.ensures v.ins held first v.goes.progress v.goes.holdings v.goes.stands v.goes.fits v.goes.going
    (waits_full held first now c.refill.new.log c.args.client.now v c.requires.waits (omega (arith, c.in-More.ensures.grows refl)))

pub returns-in-Ended : goal.returns-in-Ended
returns-in-Ended g c = λ first w.
    let held = c.refill.new.feed.bytes in
    let now = g.L.Line.outside c.refill.new.line in
    let f = c.in-Ended.ensures.fills in
    let none : held ≡ [] = c.in-Ended.ensures.stays refl ∙ nothing_held c.args.feed.now.bytes c.is_empty.result c.is_empty.ensures c.if-not-is_empty.false in
    let v = waits_filled 4294967295 c.args.feed.now.bytes held first (g.L.Line.outside c.args.line.now) now c.args.log.now c.refill.new.log c.args.client.now f.0 c.requires.waits w in
    c.finish-in-Ended.ensures v.ins held first v.goes.progress v.goes.holdings v.goes.stands v.goes.fits v.goes.going
    (waits_out 4294967295 held first now c.refill.new.log c.args.client.now v c.requires.waits none f.2)

pub returns-in-Fault : goal.returns-in-Fault
returns-in-Fault g c = λ first w.
    c.in-Fault.ensures.fills w.ins first w.goes.progress w.goes.holdings (stands_between c.args.client.now w.goes.progress w.goes.stands c.requires.waits) w.goes.going

pub returns-in-Cut : goal.returns-in-Cut
returns-in-Cut g c = λ first w.
    let P : Status → Type 0 = λ s. Shows s first (g.L.Line.outside c.refill.new.line) in
    subst P (sym c.status.ensures) (c.in-Cut.ensures.fills w.ins first w.goes.progress w.goes.holdings (stands_between c.args.client.now w.goes.progress w.goes.stands c.requires.waits) w.goes.going)

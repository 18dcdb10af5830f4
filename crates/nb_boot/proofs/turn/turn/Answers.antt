use Rattle.std.proofs.Common.{◌<◌, inl, inr, drop, refl, sym, subst, arith}
use Rattle.nb_defs.proofs.RecordLaws.{partial_short}
use Rattle.nb_record.specs.View.{in_of}
use Rattle.nb_client.specs.Snapshots.{Snapshot}
use Rattle.nb_client.specs.Progressing.{AwaitsRecord}
use Rattle.nb_runner.specs.declared.status.Status.{Status}
use Rattle.nb_boot.specs.Run.{Shows}
use Rattle.nb_boot.specs.Shown.{IsFirst}
use Rattle.nb_boot.proofs.Standing.{may_use, stands_between}
use Rattle.nb_boot.proofs.Waiting.{waits_bad, waits_end}
use Rattle.nb_boot.proofs.BadRests.{breaks_broken}
use Rattle.nb_boot.proofs.Fronts.{front_texts, front_begins, waits_filled, waits_there, uses_there, uses_front}
use Rattle.nb_boot.proofs.turn.turn.Goals as goal

pub returns-then-is_first : goal.returns-then-is_first
returns-then-is_first g c = λ n first v.
    let held = c.reads.feed.bytes in
    let mid = g.L.Line.outside c.reads.line in
    let h = c.reads.invariant in
    let waits : AwaitsRecord c.reads.client.stage = subst (λ (x : Snapshot). AwaitsRecord x.stage) (sym h.1) c.requires.waits in
    let few : c.reads.client.used < 4294967295 = subst (λ (x : Snapshot). x.used < 4294967295) (sym h.1) c.requires.few in
    let w = waits_there n c.args.feed.now.bytes held first (g.L.Line.outside c.args.line.now) mid c.args.log.now c.reads.log c.args.client.now c.reads.client h.0 waits h.1 v in
    c.finish.ensures w.ins held first w.goes.progress w.goes.holdings w.goes.stands w.goes.fits w.goes.going
    (waits_bad n held first mid c.reads.log c.reads.client w waits few
    (inr (inl (front_begins held (in_of c.in-Whole.entry) c.in-Whole.len IsFirst c.in-Whole.ensures c.if-is_first.ensures))))

pub use_record-over-requires-clause-fits : goal.use_record-over-requires-clause-fits
use_record-over-requires-clause-fits g c =
    let waits : AwaitsRecord c.reads.client.stage = subst (λ (x : Snapshot). AwaitsRecord x.stage) (sym c.reads.invariant.1) c.requires.waits in
    may_use (in_of c.in-Whole.entry) c.reads.client.stage c.if-is_first.ensures waits

pub use_record-over-requires-clause-few : goal.use_record-over-requires-clause-few
use_record-over-requires-clause-few g c = subst (λ (x : Snapshot). x.used < 4294967295) (sym c.reads.invariant.1) c.requires.few

pub returns-in-Whole : goal.returns-in-Whole
returns-in-Whole g c =
    let held = c.reads.feed.bytes in
    let r = in_of c.in-Whole.entry in
    let mid = g.L.Line.outside c.reads.line in
    let now = g.L.Line.outside c.use_record-over.new.line in
    let rest = drop c.in-Whole.len held in
    rw c.pass.ensures
    (uses_there c.use_record-over.result c.args.feed.now.bytes held rest (g.L.Line.outside c.args.line.now) mid now
    c.args.log.now c.reads.log c.use_record-over.new.log c.args.client.now c.reads.client c.use_record-over.new.client c.reads.invariant.0 c.requires.waits c.reads.invariant.1
    (uses_front c.use_record-over.result r held rest mid now c.reads.log c.use_record-over.new.log c.reads.client c.use_record-over.new.client
    (front_texts held r c.in-Whole.len c.in-Whole.ensures) c.use_record-over.ensures))

pub returns-in-Broken : goal.returns-in-Broken
returns-in-Broken g c = λ n first v.
    let held = c.reads.feed.bytes in
    let mid = g.L.Line.outside c.reads.line in
    let h = c.reads.invariant in
    let waits : AwaitsRecord c.reads.client.stage = subst (λ (x : Snapshot). AwaitsRecord x.stage) (sym h.1) c.requires.waits in
    let few : c.reads.client.used < 4294967295 = subst (λ (x : Snapshot). x.used < 4294967295) (sym h.1) c.requires.few in
    let w = waits_there n c.args.feed.now.bytes held first (g.L.Line.outside c.args.line.now) mid c.args.log.now c.reads.log c.args.client.now c.reads.client h.0 waits h.1 v in
    c.finish-in-Broken.ensures w.ins held first w.goes.progress w.goes.holdings w.goes.stands w.goes.fits w.goes.going
    (waits_bad n held first mid c.reads.log c.reads.client w waits few
    (inl (breaks_broken held c.in-Broken.field-0.why c.in-Broken.ensures.1)))

pub reads-preserved : goal.reads-preserved
reads-preserved g c = (λ ins first m p b r. c.in-More.ensures.fills ins first m p b (c.reads.invariant.0 ins first m p b r), c.reads.invariant.1)

pub reads-smaller : goal.reads-smaller
reads-smaller g c = omega (arith, partial_short c.reads.feed.bytes c.in-Partial.ensures, c.in-More.ensures.grows refl)

pub returns-in-Ended : goal.returns-in-Ended
returns-in-Ended g c = λ n first v.
    let held = c.reads.feed.bytes in
    let mid = g.L.Line.outside c.reads.line in
    let h = c.reads.invariant in
    let waits : AwaitsRecord c.reads.client.stage = subst (λ (x : Snapshot). AwaitsRecord x.stage) (sym h.1) c.requires.waits in
    let few : c.reads.client.used < 4294967295 = subst (λ (x : Snapshot). x.used < 4294967295) (sym h.1) c.requires.few in
    let w = waits_there n c.args.feed.now.bytes held first (g.L.Line.outside c.args.line.now) mid c.args.log.now c.reads.log c.args.client.now c.reads.client h.0 waits h.1 v in
    let rest = c.refill.new.feed.bytes in
    let now = g.L.Line.outside c.refill.new.line in
    let f = c.in-Ended.ensures.fills in
    let u = waits_filled n held rest first mid now c.reads.log c.refill.new.log c.reads.client f.0 waits w in
    c.finish-in-Ended.ensures u.ins rest first u.goes.progress u.goes.holdings u.goes.stands u.goes.fits u.goes.going
    (waits_end c.status_at_end.result n rest first now c.refill.new.log c.reads.client u waits few f.1 f.2 c.status_at_end.ensures)

pub returns-in-Fault : goal.returns-in-Fault
returns-in-Fault g c = λ n first v.
    let held = c.reads.feed.bytes in
    let mid = g.L.Line.outside c.reads.line in
    let h = c.reads.invariant in
    let waits : AwaitsRecord c.reads.client.stage = subst (λ (x : Snapshot). AwaitsRecord x.stage) (sym h.1) c.requires.waits in
    let w = waits_there n c.args.feed.now.bytes held first (g.L.Line.outside c.args.line.now) mid c.args.log.now c.reads.log c.args.client.now c.reads.client h.0 waits h.1 v in
    c.in-Fault.ensures.fills w.ins first w.goes.progress w.goes.holdings (stands_between c.reads.client w.goes.progress w.goes.stands waits) w.goes.going

pub returns-in-Cut : goal.returns-in-Cut
returns-in-Cut g c = λ n first v.
    let held = c.reads.feed.bytes in
    let mid = g.L.Line.outside c.reads.line in
    let h = c.reads.invariant in
    let waits : AwaitsRecord c.reads.client.stage = subst (λ (x : Snapshot). AwaitsRecord x.stage) (sym h.1) c.requires.waits in
    let w = waits_there n c.args.feed.now.bytes held first (g.L.Line.outside c.args.line.now) mid c.args.log.now c.reads.log c.args.client.now c.reads.client h.0 waits h.1 v in
    let P : Status → Type 0 = λ s. Shows s first (g.L.Line.outside c.refill.new.line) in
    subst P (sym c.status.ensures) (c.in-Cut.ensures.fills w.ins first w.goes.progress w.goes.holdings (stands_between c.reads.client w.goes.progress w.goes.stands waits) w.goes.going)

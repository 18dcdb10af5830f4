use Rattle.std.proofs.Common.{arith, refl}
use Rattle.nb_defs.proofs.RecordLaws.{partial_short}
use Rattle.nb_boot.proofs.Refills.{fills_then}
use Rattle.nb_boot.proofs.feeding.fill.Goals as goal

pub reads-preserved : goal.reads-preserved
reads-preserved g c = λ ins first m p b r. c.in-More.ensures.fills ins first m p b (c.reads.invariant ins first m p b r)

pub reads-smaller : goal.reads-smaller
reads-smaller g c = omega (arith, partial_short c.reads.feed.bytes c.if-not-is_partial.ensures, c.in-More.ensures.grows refl)

pub returns-in_default-clause-fills : goal.returns-in_default-clause-fills
returns-in_default-clause-fills g c =
    fills_then c.refill.result c.args.feed.now.bytes c.reads.feed.bytes c.refill.new.feed.bytes
    (g.L.Line.outside c.args.line.now) (g.L.Line.outside c.reads.line) (g.L.Line.outside c.refill.new.line)
    c.args.log.now c.reads.log c.refill.new.log c.reads.invariant c.refill.ensures.fills

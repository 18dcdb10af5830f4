use Rattle.std.proofs.Common.{arith, length-append, ap, length}
use Rattle.nb_boot.proofs.Cuttings.{flaw_cuts}
use Rattle.nb_boot.proofs.Refills.{refill_more, refill_ended, refill_fault}
use Rattle.nb_boot.proofs.feeding.refill.Goals as goal

pub returns-in-Err-clause-fills : goal.returns-in-Err-clause-fills
returns-in-Err-clause-fills g c =
    let cuts = flaw_cuts c.in-Err.flaw (g.L.Line.outside c.args.line.now) (g.L.Line.outside c.flush.new.line) c.args.log.now c.in-Err.ensures.err c.args.feed.now.bytes in
    λ ins first m at between r. cuts ins first m at r

pub returns-in-More-clause-fills : goal.returns-in-More-clause-fills
returns-in-More-clause-fills g c =
    refill_more c.args.feed.now c.fetch.new.feed (g.L.Line.outside c.args.line.now) (g.L.Line.outside c.flush.new.line) (g.L.Line.outside c.fetch.new.line)
    c.args.log.now c.flush.new.log c.in-Ok.ensures.whole c.in-Ok.ensures.ok c.in-Ok.ensures.cleared c.requires.partial c.fetch.ensures.asks c.in-More.ensures.fetches

pub returns-in-More-clause-grows : goal.returns-in-More-clause-grows
returns-in-More-clause-grows g c = λ _.
    let b = c.in-More.ensures.fetches in omega (arith, ap length b.held, length-append c.args.feed.now.bytes b.bytes, b.some)

pub returns-in-Ended-clause-fills : goal.returns-in-Ended-clause-fills
returns-in-Ended-clause-fills g c =
    refill_ended c.args.feed.now c.fetch.new.feed (g.L.Line.outside c.args.line.now) (g.L.Line.outside c.flush.new.line) (g.L.Line.outside c.fetch.new.line)
    c.args.log.now c.flush.new.log c.in-Ok.ensures.whole c.in-Ok.ensures.ok c.in-Ok.ensures.cleared c.requires.partial c.fetch.ensures.asks c.in-Ended.ensures.fetches

pub returns-in-Fault-clause-fills : goal.returns-in-Fault-clause-fills
returns-in-Fault-clause-fills g c =
    refill_fault c.args.feed.now c.fetch.new.feed (g.L.Line.outside c.args.line.now) (g.L.Line.outside c.flush.new.line) (g.L.Line.outside c.fetch.new.line)
    c.args.log.now c.flush.new.log c.in-Ok.ensures.whole c.in-Ok.ensures.ok c.requires.partial c.fetch.ensures.asks c.in-Fault.ensures.fetches

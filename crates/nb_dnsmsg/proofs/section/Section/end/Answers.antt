use Rattle.std.proofs.Common.{arith}
use Rattle.nb_dnsmsg.proofs.SectionLemmas.{one_came, none_left}
use Rattle.nb_dnsmsg.proofs.section.Section.end.Goals as goal

pub returns-in-None : goal.returns-in-None
returns-in-None c = λ rs end h.
    let size = h.count in
    none_left c.args.message.now c.args.self.start c.loop-i.place c.loop-i.i rs end c.loop-i.invariant c.in-None.ensures h.stand (omega (arith, size))

pub loop-i-preserved : goal.loop-i-preserved
loop-i-preserved c =
    let (d, at, keeps) = c.in-Some.ensures in
    one_came c.args.message.now c.args.self.start c.loop-i.place c.loop-i.i c.read_record.new.owner.items d c.in-Some.record.end c.loop-i.invariant at

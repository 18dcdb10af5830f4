use Rattle.std.proofs.Common.{arith}
use Rattle.nb_dnsmsg.proofs.RecordLemmas.{name_one}
use Rattle.nb_dnsmsg.proofs.record.read_alias.Goals as goal

pub returns-then-last-end : goal.returns-then-last-end
returns-then-last-end c = λ name h.
    let one = name_one c.args.message.now c.args.start name c.read_name.new.to.items c.args.end c.in-Some.last h c.in-Some.ensures in
    let same = one.1 in c.if-last-end.true (omega (arith, same))

use Rattle.std.proofs.Common.{◌<◌, ◌+◌, length, ◌∙◌}
use Rattle.nb_dnsmsg.proofs.RecordLemmas.{record_short, record_cut, record_without_data}
use Rattle.nb_dnsmsg.proofs.record.read_record.Goals as goal

pub returns-then-not-has : goal.returns-then-not-has
returns-then-not-has c = λ r end h.
    let short : length c.args.message.now < c.in-Some.fields + 10 = c.if-not-has.ensures in
    record_short c.args.message.now c.args.place c.read_name.new.to.items c.in-Some.fields r end c.in-Some.ensures short h

pub returns-then-not-has-2 : goal.returns-then-not-has-2
returns-then-not-has-2 c = λ r end h.
    let short = c.if-not-has-2.ensures in
    record_cut c.args.message.now c.args.place c.read_name.new.to.items c.in-Some.fields c.from-size.result r end c.in-Some.ensures (c.from-size.ensures ∙ c.number_at.ensures) short h

pub returns-in-None : goal.returns-in-None
returns-in-None c = λ r end h.
    record_without_data c.args.message.now c.args.place c.read_name.new.to.items c.in-Some.fields c.from-size.result r end c.in-Some.ensures c.number_at-kind.ensures c.number_at-class.ensures (c.from-size.ensures ∙ c.number_at.ensures) c.in-None.ensures h

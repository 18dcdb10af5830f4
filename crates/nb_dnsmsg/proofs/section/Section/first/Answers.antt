use Rattle.std.proofs.Common.{sym, ◌∙◌, ap, ◌&&◌, arith}
use Rattle.nb_dnsmsg.specs.Views.{wants}
use Rattle.nb_dnsmsg.specs.Messages.{is_same_name}
use Rattle.nb_dnsmsg.proofs.FoundLemmas.{search_on, search_ends, search_fails, nothing_left}
use Rattle.nb_dnsmsg.proofs.section.Section.first.Goals as goal

pub returns-in_default : goal.returns-in_default
returns-in_default c = λ rs at.
    let size = at.1.count in
    absurd (search_fails c.args.message.now c.args.want c.args.name.now c.loop-i.place c.loop-i.i rs (c.loop-i.invariant rs at) (omega (arith, size)) c.in_default.ensures)

pub returns-then-is_found : goal.returns-then-is_found
returns-then-is_found c = λ rs at.
    let size = at.1.count in
    let (d, is, keeps) = c.in-Some.ensures in (
      d,
      search_ends c.args.message.now c.args.want c.args.name.now c.loop-i.place c.loop-i.i rs c.in-Some.record.rdata c.read_record.new.owner.items d c.in-Some.record.end (c.loop-i.invariant rs at) (omega (arith, size)) is keeps
          (ap (λ x. wants c.args.want c.in-Some.record.rdata && is_same_name x c.args.name.now) (sym c.as_slice.ensures.value) ∙ sym c.is_found.ensures ∙ c.if-is_found.true),
      keeps,
    )

pub loop-i-preserved : goal.loop-i-preserved
loop-i-preserved c = λ rs at.
    let size = at.1.count in
    let (d, is, keeps) = c.in-Some.ensures in
    search_on c.args.message.now c.args.want c.args.name.now c.loop-i.place c.loop-i.i rs c.in-Some.record.rdata c.read_record.new.owner.items d c.in-Some.record.end (c.loop-i.invariant rs at) (omega (arith, size)) is keeps
    (ap (λ x. wants c.args.want c.in-Some.record.rdata && is_same_name x c.args.name.now) (sym c.as_slice.ensures.value) ∙ sym c.is_found.ensures ∙ c.if-is_found.false)

pub returns : goal.returns
returns c = λ rs at.
    let size = at.1.count in
    nothing_left c.args.message.now c.args.want c.args.name.now c.loop-i.place c.loop-i.i rs (c.loop-i.invariant rs at) (omega (arith, size))

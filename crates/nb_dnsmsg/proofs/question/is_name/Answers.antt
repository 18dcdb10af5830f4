use Rattle.std.proofs.Common.{◌≡◌, length, subst, arith}
use Rattle.nb_dnsmsg.specs.Names.{IsNameAt}
use Rattle.nb_dnsmsg.proofs.NameLemmas.{name_alone, alone_name, no_name_alone}
use Rattle.nb_dnsmsg.proofs.question.is_name.Goals as goal

pub returns-in_default : goal.returns-in_default
returns-in_default c = λ is. c.in_default.ensures c.args.bytes.now (length c.args.bytes.now) (name_alone c.args.bytes.now is)

pub returns-then-end-bytes : goal.returns-then-end-bytes
returns-then-end-bytes c = no_name_alone c.args.bytes.now c.read_name.new.to.items c.in-Some.end c.in-Some.ensures c.if-end-bytes.true

pub returns : goal.returns
returns c =
    let same : c.in-Some.end ≡ length c.args.bytes.now = omega arith in
    alone_name c.args.bytes.now c.read_name.new.to.items (subst (λ x. IsNameAt c.args.bytes.now 0 c.read_name.new.to.items x) same c.in-Some.ensures)

use Rattle.std.proofs.Common.{sym}
use Rattle.nb_dnsmsg.specs.Views.{section}
use Rattle.nb_dnsmsg.proofs.MessageLemmas.{section_one, section_moved}
use Rattle.nb_dnsmsg.proofs.answer.has_sections.Goals as goal

pub returns-in_default-end : goal.returns-in_default-end
returns-in_default-end c = λ rs h.
    let (ps, first) = c.in-Some.ensures in
    c.in_default-end.ensures h.authority h.authorized
    (section_moved c.args.bytes.now h.answered c.in-Some.answered _ c.number_at.result h.authority h.authorized
    (section_one c.args.bytes.now c.args.answers rs ps h.answered c.in-Some.answered h.first first) (sym c.number_at.ensures) h.second)

pub returns-in-None : goal.returns-in-None
returns-in-None c = λ rs h.
    let (ps, first) = c.in-Some.ensures in
    let (qs, second) = c.in-Some-end.ensures in
    let theirs = section_moved c.args.bytes.now h.answered c.in-Some.answered _ c.number_at.result h.authority h.authorized
    (section_one c.args.bytes.now c.args.answers rs ps h.answered c.in-Some.answered h.first first) (sym c.number_at.ensures) h.second in
    c.in-None.ensures h.additional h.end
    (section_moved c.args.bytes.now h.authorized c.in-Some-end.authorized _ c.number_at-2.result h.additional h.end
    (section_one c.args.bytes.now (section c.in-Some.answered c.number_at.result) h.authority qs h.authorized c.in-Some-end.authorized theirs second) (sym c.number_at-2.ensures) h.third)

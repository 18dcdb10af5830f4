use Rattle.std.proofs.Common.{◌+◌, ◌∷◌, length, take, refl, sym, ◌∙◌, ap, arith, length-drop, length-take-le}
use Rattle.std.proofs.lemmas.List.{take_rest}
use Rattle.nb_dns.specs.WrittenNames.{labels_at_dots}
use Rattle.nb_dns.proofs.WrittenLemmas.{cut_some, cut_none}
use Rattle.nb_dns.proofs.written.first_label.Goals as goal

pub returns-in-Some : goal.returns-in-Some
returns-in-Some c =
    let text = c.args.text.now in
    let dot = c.in-Some.dot in
    let within = c.in-Some.ensures.within in
    let front = length-take-le dot text (omega (arith, within)) in
    let rest = take_rest text (dot + 1) in
    let back = ap length rest ∙ length-drop (dot + 1) text in (
      cut_some text dot (sym c.first_dot.ensures.place ∙ c.in-Some.is) ∙ ap (λ x. take dot text ∷ labels_at_dots x) (sym rest),
      omega (arith, within, front, back),
    )

pub returns-in-None : goal.returns-in-None
returns-in-None c = (cut_none c.args.text.now (sym c.first_dot.ensures.place ∙ c.in-None.is), refl)

use Rattle.std.proofs.Common.{◌∙◌, ◌^◌, sym, ap}
use Rattle.nb_numerals.specs.Numbers.{below}
use Rattle.nb_numerals.proofs.NumberLemmas.{number_of-hex, number_of-decimal}
use Rattle.nb_numerals.proofs.numbers.number.Goals as goal

pub returns-in-Some : goal.returns-in-Some
returns-in-Some c =
    let cut = c.in-Some.ensures.cases in
    c.digits.ensures ∙ ap (below (2 ^ 32)) (sym (number_of-hex c.args.text.now c.in-Some.behind.now cut.0 cut.1))

pub returns-in-None : goal.returns-in-None
returns-in-None c = c.decimal.ensures ∙ ap (below (2 ^ 32)) (sym (number_of-decimal c.args.text.now c.in-None.ensures.cases))

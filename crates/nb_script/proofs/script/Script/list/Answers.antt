use Rattle.std.proofs.Common.{◌∙◌, sym, ap, refl, Some}
use Rattle.std.proofs.lemmas.Result.{err_from_is_err_and}
use Rattle.nb_defs.specs.ScriptText.{line_words}
use Rattle.nb_defs.proofs.ItemLaws.{cut_words_are}
use Rattle.nb_script.proofs.ItemLemmas.{list_fits}
use Rattle.nb_script.proofs.ScriptLemmas.{items_some, items_none}
use Rattle.nb_script.proofs.script.Script.list.Goals as goal

pub returns-then-not-has_few_words-clause-too_many : goal.returns-then-not-has_few_words-clause-too_many
returns-then-not-has_few_words-clause-too_many c =
    let none = items_none c.args.line.now (sym c.has_few_words.ensures ∙ c.if-not-has_few_words.true) in
    (λ _. none, λ _. refl)

pub returns-in_err-cut_items-clause-too_many : goal.returns-in_err-cut_items-clause-too_many
returns-in_err-cut_items-clause-too_many c =
    let some = items_some c.args.line.now (sym c.has_few_words.ensures ∙ c.if-not-has_few_words.false) in
    let p = err_from_is_err_and c.from_residual.result c.from_residual.ensures.1 in
    (λ h. let e = p.1 in let g = p.2 in cc, λ h. cc)

pub returns-clause-value : goal.returns-clause-value
returns-clause-value c =
    let some = items_some c.args.line.now (sym c.has_few_words.ensures ∙ c.if-not-has_few_words.false) in
    some ∙ ap Some (sym c.in_ok-cut_items.ensures)

pub returns-clause-too_many : goal.returns-clause-too_many
returns-clause-too_many c =
    let some = items_some c.args.line.now (sym c.has_few_words.ensures ∙ c.if-not-has_few_words.false) in
    (λ h. cc, λ h. cc)

pub returns-clause-cut : goal.returns-clause-cut
returns-clause-cut c = rw c.in_ok-cut_items.ensures (cut_words_are (line_words c.args.line.now))

pub returns-clause-fits : goal.returns-clause-fits
returns-clause-fits c =
    list_fits c.args.line.now c.in_ok-cut_items.field-0.items c.requires (sym c.has_few_words.ensures ∙ c.if-not-has_few_words.false) (returns-clause-cut c)

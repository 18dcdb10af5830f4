use Rattle.std.proofs.Common.{refl, ◌∙◌, sym, arith}
use Rattle.nb_script.proofs.WordsLemmas.{label_is, label_none, label_no_name}
use Rattle.nb_script.proofs.line.is_label.Goals as goal

pub returns-then-is_label_name : goal.returns-then-is_label_name
returns-then-is_label_name c =
    let again = c.cut_word-then-is_label_name in
    let e = label_is c.args.line.now _ _ again.result c.in-Some.ensures.some again.ensures.none again.ensures.some in
    grind arith

pub returns-else-is_label_name : goal.returns-else-is_label_name
returns-else-is_label_name c =
    c.if-is_label_name.false ∙ sym (label_no_name c.args.line.now _ _ c.in-Some.ensures.some (sym c.is_label_name.ensures ∙ c.if-is_label_name.false))

pub returns-in-None : goal.returns-in-None
returns-in-None c = sym (label_none c.args.line.now (c.in-None.ensures.none refl))

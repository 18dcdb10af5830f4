use Rattle.std.proofs.Common.{sym, ◌∙◌, ap}
use Rattle.std.proofs.lemmas.List.{take_rest}
use Rattle.nb_defs.specs.ScriptLines.{label}
use Rattle.nb_script.proofs.KindLemmas.{kind_nothing, kind_label, kind_list}
use Rattle.nb_script.proofs.kind.kind_of.Goals as goal

pub returns-then-is_nothing-clause-value : goal.returns-then-is_nothing-clause-value
returns-then-is_nothing-clause-value c = sym (kind_nothing c.args.line.now (sym c.is_nothing.ensures ∙ c.if-is_nothing.true))

pub returns-then-is_label-clause-value : goal.returns-then-is_label-clause-value
returns-then-is_label-clause-value c =
    ap label (take_rest c.args.line.now 1) ∙ sym (kind_label c.args.line.now (sym c.is_nothing.ensures ∙ c.if-is_nothing.false) (sym c.is_label.ensures ∙ c.if-is_label.true))

pub returns-else-is_label-clause-value : goal.returns-else-is_label-clause-value
returns-else-is_label-clause-value c =
    sym (kind_list c.args.line.now (sym c.is_nothing.ensures ∙ c.if-is_nothing.false) (sym c.is_label.ensures ∙ c.if-is_label.false))

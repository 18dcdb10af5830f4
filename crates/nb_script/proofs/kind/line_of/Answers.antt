use Rattle.std.proofs.Common.{◌∙◌, ap}
use Rattle.nb_defs.specs.ScriptLines.{script_line, line_kind, trimmed, without_blanks_behind}
use Rattle.nb_script.proofs.kind.line_of.Goals as goal

pub returns-clause-value : goal.returns-clause-value
unfolding script_line trimmed
returns-clause-value c =
    c.kind_of.ensures.value ∙ ap line_kind (c.without_blanks_behind.ensures.value ∙ ap without_blanks_behind c.without_blanks_before.ensures.value)

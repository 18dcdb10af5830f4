use Rattle.std.proofs.Common.{◌∙◌, length, arith, ap}
use Rattle.std.specs.Prelude.{unwrap_or}
use Rattle.nb_defs.specs.ScriptText.{is_blank}
use Rattle.nb_script.proofs.PiecesLemmas.{position_or, prefix_fits}
use Rattle.nb_script.proofs.word.word_len.Goals as goal

pub returns-clause-value : goal.returns-clause-value
returns-clause-value c =
    c.unwrap_or.ensures ∙ ap (λ o. unwrap_or o (length c.args.line.now)) c.first_blank.ensures ∙ position_or is_blank c.args.line.now

pub returns-clause-bound : goal.returns-clause-bound
returns-clause-bound c =
    let value = c.unwrap_or.ensures ∙ ap (λ o. unwrap_or o (length c.args.line.now)) c.first_blank.ensures ∙ position_or is_blank c.args.line.now in
    omega (arith, prefix_fits is_blank c.args.line.now, value)

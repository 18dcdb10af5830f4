use Rattle.std.proofs.Common.{◌∙◌, ap, drop, length}
use Rattle.std.specs.Prelude.{unwrap_or}
use Rattle.std.proofs.lemmas.List.{take_rest}
use Rattle.nb_defs.specs.ScriptLines.{is_no_blank, without_blanks_before}
use Rattle.nb_script.proofs.PiecesLemmas.{position_or}
use Rattle.nb_script.proofs.kind.without_blanks_before.Goals as goal

pub returns-clause-value : goal.returns-clause-value
unfolding without_blanks_before
returns-clause-value c =
    let line = c.args.line.now in
    let start = c.unwrap_or-start.ensures ∙ ap (λ o. unwrap_or o (length line)) c.first_byte.ensures ∙ position_or is_no_blank line in
    take_rest line c.unwrap_or-start.result ∙ ap (λ n. drop n line) start

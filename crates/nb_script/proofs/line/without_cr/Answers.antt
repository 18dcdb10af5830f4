use Rattle.std.proofs.Common.{refl, ◌∙◌, ap}
use Rattle.nb_script.proofs.LinesLemmas.{stripped}
use Rattle.nb_script.proofs.line.without_cr.Goals as goal

pub returns : goal.returns
returns c =
    ap (λ x. x.now) c.unwrap_or.ensures ∙ stripped c.args.line.now c.args.line c.strip_suffix.result refl c.strip_suffix.ensures.cases

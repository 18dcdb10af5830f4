use Rattle.std.proofs.Common.{◌∙◌, ap, lit≤, nat_eq}
use Rattle.std.specs.Prelude.{codes}
use Rattle.std.specs.List.{starts_with}
use Rattle.nb_image.proofs.FirstLineLemmas.{starts_same}
use Rattle.nb_image.proofs.kind.is_efi.Goals as goal

pub returns : goal.returns
returns c = c.starts_with.ensures.value ∙ ap (λ start. starts_with nat_eq start (codes "MZ")) c.start_of.ensures ∙ starts_same c.args.body.now (codes "MZ") (lit≤ tt)

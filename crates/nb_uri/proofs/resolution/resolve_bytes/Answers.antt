use Rattle.nb_uri.specs.declared.target.UriError.TheVariants.{BadUri}
use Rattle.nb_uri.proofs.ResolutionLemmas.{refused, resolution-none}
use Rattle.nb_uri.proofs.resolution.resolve_bytes.Goals as goal

pub returns-in-Err-clause-answer : goal.returns-in-Err-clause-answer
returns-in-Err-clause-answer c = refused _ BadUri (resolution-none _ c.args.text.now c.in-Err.ensures.cases.0)

use Rattle.std.proofs.Common.{refl}
use Rattle.std.proofs.Math.Logic.{inl}
use Rattle.nb_uri.proofs.ResolutionLemmas.{is_utf8-none}
use Rattle.nb_uri.proofs.resolution.parse_base.Goals as goal

pub returns-in-Err-clause-url : goal.returns-in-Err-clause-url
returns-in-Err-clause-url c = inl (refl, rw (is_utf8-none c.args.base.now c.in-Err.ensures.cases.0) refl)

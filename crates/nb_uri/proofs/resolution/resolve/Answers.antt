use Rattle.std.proofs.lemmas.Result.{IfOk-weaker}
use Rattle.nb_uri.specs.declared.target.UriError.TheVariants.{BadUri, NoScheme, TooLong}
use Rattle.nb_uri.proofs.RefusalLemmas.{bad-both, other-both, long-both, exactly, clean}
use Rattle.nb_uri.proofs.resolution.resolve.Goals as goal

pub returns-clause-bad_uri : goal.returns-clause-bad_uri
returns-clause-bad_uri c = exactly c.resolve_bytes.result _ BadUri _ (λ same. absurd (cc same)) c.resolve_bytes.ensures.answer (bad-both _ c.args.text.now)

pub returns-clause-no_scheme : goal.returns-clause-no_scheme
returns-clause-no_scheme c = exactly c.resolve_bytes.result _ NoScheme _ (λ same. absurd (cc same)) c.resolve_bytes.ensures.answer (other-both _ c.args.text.now)

pub returns-clause-too_long : goal.returns-clause-too_long
returns-clause-too_long c = exactly c.resolve_bytes.result _ TooLong _ (λ same. absurd (cc same)) c.resolve_bytes.ensures.answer (long-both _ c.args.text.now)

pub returns-clause-clean : goal.returns-clause-clean
returns-clause-clean c = clean _ c.args.text.now c.resolve_bytes.result c.resolve_bytes.ensures.answer

pub returns-clause-itself : goal.returns-clause-itself
returns-clause-itself c = IfOk-weaker c.resolve_bytes.result _ _ (λ target known. known.0) c.resolve_bytes.ensures.reliable

pub returns-clause-rooted : goal.returns-clause-rooted
returns-clause-rooted c = IfOk-weaker c.resolve_bytes.result _ _ (λ target known. known.1) c.resolve_bytes.ensures.reliable

pub returns-clause-asked : goal.returns-clause-asked
returns-clause-asked c = IfOk-weaker c.resolve_bytes.result _ _ (λ target known. known.2) c.resolve_bytes.ensures.reliable

pub returns-clause-sendable : goal.returns-clause-sendable
returns-clause-sendable c = IfOk-weaker c.resolve_bytes.result _ _ (λ target known. known.3) c.resolve_bytes.ensures.reliable

use Rattle.nb_uri.proofs.SelfLemmas.{url-reliable}
use Rattle.nb_uri.proofs.resolution.url_target.Goals as goal

pub returns-clause-reliable : goal.returns-clause-reliable
returns-clause-reliable c = url-reliable c.in_ok-url.url c.named.result c.in_ok-url.ensures.back c.named.ensures

use Rattle.std.proofs.Common.{subst, sym, ◌∙◌}
use Rattle.nb_dns.specs.declared.state.State.{State}
use Rattle.nb_dns.specs.LookupStands.{LookupStands}
use Rattle.nb_dns.proofs.ReplyLemmas.{kept_is_found}
use Rattle.nb_dns.proofs.dns.Dns.address.Goals as goal

pub returns-clause-by_calls : goal.returns-clause-by_calls
returns-clause-by_calls c = λ l start h stands.
    c.address.ensures
    ∙ kept_is_found l start c.self.inside.state h (subst (λ (x : State). LookupStands l start x h) (sym c.self.view_is) stands)

use Rattle.std.proofs.Common.{◌∙◌, ap, subst, sym}
use Rattle.nb_dhcp.specs.declared.state.State.{State}
use Rattle.nb_dhcp.specs.Acting.{lease_asking, AsksSimply}
use Rattle.nb_dhcp.specs.LeaseSteps.{offer_at}
use Rattle.nb_terms.specs.declared.acts.Acts.{Acts}
use Rattle.nb_dhcp.proofs.LeaseActsLemmas.{asking_simple}
use Rattle.nb_dhcp.proofs.dhcp.Dhcp.start.Goals as goal

pub returns-clause-discover : goal.returns-clause-discover
returns-clause-discover c = c.send.ensures ∙ ap (λ (s : State). lease_asking s.asker (offer_at s.phase) 1) c.asking-state.ensures

pub returns-clause-simple : goal.returns-clause-simple
returns-clause-simple c = subst (λ (acts : Acts). AsksSimply acts) (sym c.send.ensures) (asking_simple c.asking-state.result.asker (offer_at c.asking-state.result.phase) 1)

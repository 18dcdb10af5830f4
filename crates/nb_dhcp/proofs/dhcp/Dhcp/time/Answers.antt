use Rattle.std.proofs.Common.{subst, sym}
use Rattle.nb_dhcp.specs.declared.state.State.{State}
use Rattle.nb_dhcp.specs.LeaseStands.{LeaseStands}
use Rattle.nb_dhcp.proofs.LeaseTimeLemmas.{elapsed_goes_on}
use Rattle.nb_terms.specs.declared.acts.Acts.{Acts}
use Rattle.nb_dhcp.specs.Acting.{AsksSimply}
use Rattle.nb_dhcp.proofs.LeaseActsLemmas.{elapsed_simple, ungranted}
use Rattle.nb_dhcp.proofs.dhcp.Dhcp.time.Goals as goal

pub returns-clause-stands : goal.returns-clause-stands
returns-clause-stands c = λ a start h stands open_yet.
    elapsed_goes_on a start c.self.inside.state c.tick.new.self h c.args.now c.tick.new.acts c.tick.ensures.acts c.tick.ensures.after c.ranges.now.fits
    (subst (λ (x : State). LeaseStands a start x h) (sym c.self.view_is) stands) open_yet

pub returns-clause-simple : goal.returns-clause-simple
returns-clause-simple c = subst (λ (acts : Acts). AsksSimply acts) (sym c.tick.ensures.acts) (elapsed_simple c.self.inside.state c.args.now)

pub returns-clause-ungranted : goal.returns-clause-ungranted
returns-clause-ungranted c = λ a start h stands open_yet.
    ungranted a start c.self.inside.state h c.args.now c.tick.new.acts (subst (λ (x : State). LeaseStands a start x h) (sym c.self.view_is) stands) open_yet

use Rattle.std.proofs.Common.{subst, sym}
use Rattle.nb_dns.specs.declared.state.State.{State}
use Rattle.nb_dns.specs.LookupStands.{LookupStands}
use Rattle.nb_dns.proofs.StandsLemmas.{clock_stands}
use Rattle.nb_dns.proofs.SimpleLemmas.{clock_simple}
use Rattle.nb_terms.specs.declared.acts.Acts.{Acts}
use Rattle.nb_dns.specs.Lookups.{AsksOneQuery}
use Rattle.nb_dns.proofs.dns.Dns.time.Goals as goal

pub returns-clause-stands : goal.returns-clause-stands
returns-clause-stands c = λ l start h stands going.
    clock_stands l start c.self.inside.state c.clock.new.self h c.args.now c.clock.new.acts c.clock.ensures.acts c.clock.ensures.after c.ranges.now.fits
    (subst (λ (x : State). LookupStands l start x h) (sym c.self.view_is) stands) going

pub returns-clause-simple : goal.returns-clause-simple
returns-clause-simple c =
    subst (λ (acts : Acts). AsksOneQuery acts) (sym c.clock.ensures.acts) (clock_simple c.self.inside.state c.args.now)

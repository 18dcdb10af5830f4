use Rattle.std.proofs.Common.{subst, sym}
use Rattle.nb_terms.specs.declared.acts.Acts.{Acts}
use Rattle.nb_ping.specs.declared.state.State.{State}
use Rattle.nb_ping.specs.Pings.{AsksOneEcho}
use Rattle.nb_ping.specs.PingStands.{PingStands}
use Rattle.nb_ping.proofs.PingStandsLemmas.{clock_stands}
use Rattle.nb_ping.proofs.PingSimpleLemmas.{clock_simple}
use Rattle.nb_ping.proofs.ping.Ping.time.Goals as goal

pub returns-clause-stands : goal.returns-clause-stands
returns-clause-stands c = λ p start h stands going.
    clock_stands p start c.self.inside.state c.clock.new.self h c.args.now c.clock.new.acts c.clock.ensures.acts c.clock.ensures.after c.ranges.now.fits
    (subst (λ (x : State). PingStands p start x h) (sym c.self.view_is) stands) going

pub returns-clause-simple : goal.returns-clause-simple
returns-clause-simple c = subst (λ (acts : Acts). AsksOneEcho acts) (sym c.clock.ensures.acts) (clock_simple c.self.inside.state c.args.now)

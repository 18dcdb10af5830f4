use Rattle.std.proofs.Common.{subst, sym}
use Rattle.nb_tftp.specs.declared.state.State.{State}
use Rattle.nb_tftp.specs.Stands.{StandsWith}
use Rattle.nb_tftp.proofs.CallLemmas.{tick_goes_on}
use Rattle.nb_tftp.specs.Sound.{AreSoundActs}
use Rattle.nb_terms.specs.declared.acts.Acts.{Acts}
use Rattle.nb_tftp.proofs.SoundLemmas.{tick_sound}
use Rattle.nb_tftp.proofs.transfer.Transfer.time.Goals as goal

pub returns-clause-stands : goal.returns-clause-stands
returns-clause-stands c = λ opts b start h stands unended.
    tick_goes_on opts b start c.self.inside.state c.tick.new.self h c.args.now c.tick.new.acts c.tick.ensures.acts c.tick.ensures.after c.ranges.now.fits
    (subst (λ (x : State). StandsWith opts b start x h) (sym c.self.view_is) stands) unended

pub returns-clause-sound : goal.returns-clause-sound
returns-clause-sound c =
    subst (λ (acts : Acts). AreSoundActs 0 acts) (sym c.tick.ensures.acts) (tick_sound c.self.inside.state c.args.now)

use Rattle.std.proofs.Common.{arith, subst, sym}
use Rattle.nb_tftp.specs.declared.state.State.{State}
use Rattle.nb_tftp.specs.Received.{received}
use Rattle.nb_tftp.specs.Stands.{StandsWith}
use Rattle.nb_tftp.proofs.CallLemmas.{came_goes_on, came_stays}
use Rattle.nb_tftp.specs.Sound.{AreSoundActs}
use Rattle.nb_terms.specs.declared.acts.Acts.{Acts}
use Rattle.std.specs.Prelude.{length}
use Rattle.nb_tftp.proofs.SoundLemmas.{bytes_sound}
use Rattle.nb_tftp.proofs.transfer.Transfer.message.Goals as goal

pub returns-clause-stands : goal.returns-clause-stands
returns-clause-stands c = λ opts b start h stands unended.
    came_goes_on opts b start c.self.inside.state c.datagram.new.self h (received c.args.rec c.args.src_port c.args.body.now) c.args.now c.datagram.new.acts c.datagram.ensures.acts c.datagram.ensures.after (λ i. omega (arith, c.type_inv.body i))
    (subst (λ (x : State). StandsWith opts b start x h) (sym c.self.view_is) stands) unended

pub returns-clause-ended : goal.returns-clause-ended
returns-clause-ended c = λ opts b start h stands ended.
    came_stays opts b start c.self.inside.state c.datagram.new.self h c.args.rec c.args.src_port c.args.body.now c.args.now c.datagram.new.acts c.datagram.ensures.acts c.datagram.ensures.after
    (subst (λ (x : State). StandsWith opts b start x h) (sym c.self.view_is) stands) ended

pub returns-clause-sound : goal.returns-clause-sound
returns-clause-sound c =
    subst (λ (acts : Acts). AreSoundActs (length c.args.body.now) acts) (sym c.datagram.ensures.acts) (bytes_sound c.self.inside.state c.args.rec c.args.src_port c.args.body.now)

use Rattle.std.proofs.Common.{◌≡◌, subst}
use Rattle.std.specs.Prelude.{IfSome, IsSomeAnd}
use Rattle.nb_ether.specs.Frame.{Frame, frame_of}
use Rattle.nb_ether.specs.declared.frame.EtherFrame.{EtherFrame}
use Rattle.nb_stack.specs.Brings.{IsFrameFor}
use Rattle.nb_stack.specs.Client.{Client}
use Rattle.nb_stack.proofs.stack.Stack.frame_for.Goals as goal

pub returns-clause-sound : goal.returns-clause-sound
returns-clause-sound c =
    let P : Client → Type 0 = λ s. IfSome c.frame_for.result (λ (f : EtherFrame). IsFrameFor s.up s.mac c.args.bytes.now (frame_of f)) in
    subst P c.self.view_is c.frame_for.ensures.sound

pub returns-clause-complete : goal.returns-clause-complete
returns-clause-complete c =
    let P : Client → Type 0 = λ s. (f : Frame) → IsFrameFor s.up s.mac c.args.bytes.now f → IsSomeAnd c.frame_for.result (λ (g : EtherFrame). frame_of g ≡ f) in
    subst P c.self.view_is c.frame_for.ensures.complete

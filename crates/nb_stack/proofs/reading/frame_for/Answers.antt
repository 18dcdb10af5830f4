use Rattle.std.proofs.Common.{◌≡◌, refl, rules}
use Rattle.nb_ether.specs.Frame.{Frame, IsFrame}
use Rattle.nb_stack.proofs.MacLaws.{for_client}
use Rattle.nb_stack.proofs.reading.frame_for.Goals as goal

pub returns-then-is_for-clause-sound : goal.returns-then-is_for-clause-sound
returns-then-is_for-clause-sound c =
    let same : (f : Frame) → IsFrame c.args.bytes.now f → c.in_ok-dst.dst ≡ f.dst = λ f is. search (rules, c.dst_of.ensures f is) in
    for_client c.read.result c.args.up c.args.mac c.in_ok-dst.dst c.args.bytes.now (search rules) same (c.if-is_for.ensures.0 refl) c.read.ensures.sound

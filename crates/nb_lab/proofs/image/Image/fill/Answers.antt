use Rattle.std.proofs.Common.{◌+◌, arith}
use Rattle.std.proofs.lemmas.List.FromFn.{fill_by_all}
use Rattle.nb_lab.specs.Images.{image_byte, image_piece}
use Rattle.nb_lab.proofs.image.Image.fill.Goals as goal

pub returns : goal.returns
unfolding image_piece
returns c =
    fill_by_all (λ k. image_byte c.args.self.0 (c.args.from + k)) c.loop-at.piece _ 0 c.loop-at.invariant.0
    (λ k within. c.loop-at.invariant.1 k (omega arith))
